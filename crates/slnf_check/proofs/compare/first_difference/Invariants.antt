use Rattle.slnf_check.proofs.Agreement.{Agree}
use Rattle.slnf_check.proofs.compare.first_difference.Given as goal

-- the texts agree before the place
abbrev pub invariant-loop-place : goal.invariant-loop-place
invariant-loop-place l = Agree l.place l.ones l.others
