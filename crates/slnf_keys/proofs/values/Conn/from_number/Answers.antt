-- what is read has the number, and what has the number is read
use Rattle.std.proofs.Common.{◌≡◌, ◌∙◌, rules}
use Rattle.slnf_keys.specs.Values.{conn_number, conn_of}
use Rattle.slnf_keys.proofs.Laws.{coded_gives, coded_finds, conn-coded}
use Rattle.slnf_keys.proofs.values.Conn.from_number.Goals as goal

pub returns : goal.returns
unfolding conn_of
returns c =
    let value : c.and_then.result ≡ conn_of c.args.number = search rules in
    record {
      value = value;
      gives = rw value (coded_gives conn_number conn_of (λ value. Unit {0}) conn-coded c.args.number);
      finds = λ x e. value ∙ coded_finds conn_number conn_of (λ value. Unit {0}) conn-coded c.args.number x tt e;
    }
