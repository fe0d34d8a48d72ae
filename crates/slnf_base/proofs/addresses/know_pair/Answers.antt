use Rattle.std.proofs.Common.{arith}
use Rattle.std.proofs.lemmas.Bool.Decides.{nat_tests}
use Rattle.slnf_base.proofs.addresses.know_pair.Goals as goal

pub returns : goal.returns
returns c = grind (arith, nat_tests)
