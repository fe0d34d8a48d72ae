-- what is read has the number, and what has the number is read
use Rattle.std.proofs.Common.{◌≡◌, ◌∙◌, rules}
use Rattle.slnf_keys.specs.Values.{flow_to_number, flow_to_of, IsFlowTo}
use Rattle.slnf_keys.proofs.Laws.{coded_gives, coded_finds, flow_to-coded}
use Rattle.slnf_keys.proofs.values.FlowTo.from_number.Goals as goal

pub returns : goal.returns
unfolding flow_to_of
returns c =
    let value : c.map.result ≡ flow_to_of c.args.number = search rules in
    record {
      value = value;
      gives = rw value (coded_gives flow_to_number flow_to_of IsFlowTo flow_to-coded _);
      finds = λ x fits e. value ∙ coded_finds flow_to_number flow_to_of IsFlowTo flow_to-coded _ x fits e;
    }
