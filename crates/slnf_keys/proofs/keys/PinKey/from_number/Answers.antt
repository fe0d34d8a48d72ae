-- what is read has the number, and what has the number is read
use Rattle.std.proofs.Common.{◌≡◌, ◌∙◌, rules}
use Rattle.slnf_keys.specs.Keys.{pin_key_number, pin_key_of, IsPinKey}
use Rattle.slnf_keys.proofs.Laws.{coded_gives, coded_finds, pin_key-coded}
use Rattle.slnf_keys.proofs.keys.PinKey.from_number.Goals as goal

pub returns : goal.returns
unfolding pin_key_of
returns c =
    let value : c.map.result ≡ pin_key_of c.args.number = search rules in
    record {
      value = value;
      gives = rw value (coded_gives pin_key_number pin_key_of IsPinKey pin_key-coded _);
      finds = λ x fits e. value ∙ coded_finds pin_key_number pin_key_of IsPinKey pin_key-coded _ x fits e;
    }
