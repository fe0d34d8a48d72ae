use Rattle.slnf_sum.proofs.Laws.{law_of_sums as law}
use Rattle.slnf_sum.proofs.law_of_sums.Goals as goal

pub returns : goal.returns
returns c = law
