use Rattle.slnf_nat.proofs.Explained.{nat_explained}
use Rattle.slnf_nat.proofs.Placing.{nat_verdicts}
use Rattle.slnf_nat.proofs.theorems.nat_is_one_box.Goals as goal

pub returns : goal.returns
returns c = record {
  explained = λ nat base_at begins es is_nat given. nat_explained nat is_nat base_at begins es given;
  verdicts = λ nat base_at begins es is_nat given. nat_verdicts nat is_nat base_at begins es given;
}
