use Rattle.slnf_nat.proofs.PacketEnds.{nat_function, steps_agree}
use Rattle.slnf_nat.proofs.theorems.nat_is_function.Goals as goal

pub returns : goal.returns
returns c = record {
  function = nat_function;
  agrees = steps_agree;
}
