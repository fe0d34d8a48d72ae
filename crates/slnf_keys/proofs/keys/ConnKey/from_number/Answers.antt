-- what is read has the number, and what has the number is read
use Rattle.std.proofs.Common.{◌≡◌, ◌∙◌, rules}
use Rattle.slnf_keys.specs.Keys.{conn_key_number, conn_key_of, IsConnKey}
use Rattle.slnf_keys.proofs.Laws.{coded_gives, coded_finds, conn_key-coded}
use Rattle.slnf_keys.proofs.keys.ConnKey.from_number.Goals as goal

pub returns : goal.returns
unfolding conn_key_of
returns c =
    let value : c.map.result ≡ conn_key_of c.args.number = search rules in
    record {
      value = value;
      gives = rw value (coded_gives conn_key_number conn_key_of IsConnKey conn_key-coded _);
      finds = λ x fits e. value ∙ coded_finds conn_key_number conn_key_of IsConnKey conn_key-coded _ x fits e;
    }
