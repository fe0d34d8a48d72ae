-- what is read has the number, and what has the number is read
use Rattle.std.proofs.Common.{◌≡◌, ◌∙◌, rules}
use Rattle.slnf_keys.specs.Keys.{flow_key_number, flow_key_of, IsFlowKey}
use Rattle.slnf_keys.proofs.Laws.{coded_gives, coded_finds, flow_key-coded}
use Rattle.slnf_keys.proofs.keys.FlowKey.from_number.Goals as goal

pub returns : goal.returns
unfolding flow_key_of
returns c =
    let value : c.map.result ≡ flow_key_of c.args.number = search rules in
    record {
      value = value;
      gives = rw value (coded_gives flow_key_number flow_key_of IsFlowKey flow_key-coded _);
      finds = λ x fits e. value ∙ coded_finds flow_key_number flow_key_of IsFlowKey flow_key-coded _ x fits e;
    }
