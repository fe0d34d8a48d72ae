use Rattle.slnf_sum.proofs.Folds.{law_of_carries as law}
use Rattle.slnf_sum.proofs.law_of_carries.Goals as goal

pub returns : goal.returns
returns c = law
