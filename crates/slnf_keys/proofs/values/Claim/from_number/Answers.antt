-- what is read has the number, and what has the number is read
use Rattle.std.proofs.Common.{◌≡◌, ◌∙◌, rules}
use Rattle.slnf_keys.specs.Values.{claim_number, claim_of, IsClaim}
use Rattle.slnf_keys.proofs.Laws.{coded_gives, coded_finds, claim-coded}
use Rattle.slnf_keys.proofs.values.Claim.from_number.Goals as goal

pub returns : goal.returns
unfolding claim_of
returns c =
    let value : c.map.result ≡ claim_of c.args.number = search rules in
    record {
      value = value;
      gives = rw value (coded_gives claim_number claim_of IsClaim claim-coded _);
      finds = λ x fits e. value ∙ coded_finds claim_number claim_of IsClaim claim-coded _ x fits e;
    }
