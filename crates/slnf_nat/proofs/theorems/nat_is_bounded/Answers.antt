use Rattle.slnf_nat.proofs.Ranks.{out_short, in_short, sweep_short}
use Rattle.slnf_nat.proofs.theorems.nat_is_bounded.Goals as goal

pub returns : goal.returns
returns c = record {
  out = out_short;
  in_ = in_short;
  sweep = sweep_short;
}
