-- what is read has the number, and what has the number is read
use Rattle.std.proofs.Common.{◌≡◌, ◌∙◌, rules}
use Rattle.slnf_keys.specs.Values.{pin_number, pin_of, IsPin}
use Rattle.slnf_keys.proofs.Laws.{coded_gives, coded_finds, pin-coded}
use Rattle.slnf_keys.proofs.values.Pin.from_number.Goals as goal

pub returns : goal.returns
unfolding pin_of
returns c =
    let value : c.map.result ≡ pin_of c.args.number = search rules in
    record {
      value = value;
      gives = rw value (coded_gives pin_number pin_of IsPin pin-coded _);
      finds = λ x fits e. value ∙ coded_finds pin_number pin_of IsPin pin-coded _ x fits e;
    }
