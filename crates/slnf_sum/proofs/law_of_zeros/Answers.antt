use Rattle.slnf_sum.proofs.Laws.{law_of_zeros as law}
use Rattle.slnf_sum.proofs.law_of_zeros.Goals as goal

pub returns : goal.returns
returns c = law
