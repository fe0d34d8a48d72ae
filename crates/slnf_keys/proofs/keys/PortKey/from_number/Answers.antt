-- what is read has the number, and what has the number is read
use Rattle.std.proofs.Common.{◌≡◌, ◌∙◌, rules}
use Rattle.slnf_keys.specs.Keys.{port_key_number, port_key_of, IsPortKey}
use Rattle.slnf_keys.proofs.Laws.{coded_gives, coded_finds, port_key-coded}
use Rattle.slnf_keys.proofs.keys.PortKey.from_number.Goals as goal

pub returns : goal.returns
unfolding port_key_of
returns c =
    let value : c.map.result ≡ port_key_of c.args.number = search rules in
    record {
      value = value;
      gives = rw value (coded_gives port_key_number port_key_of IsPortKey port_key-coded _);
      finds = λ x fits e. value ∙ coded_finds port_key_number port_key_of IsPortKey port_key-coded _ x fits e;
    }
