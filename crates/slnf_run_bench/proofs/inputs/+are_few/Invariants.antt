use Rattle.std.proofs.Common.{length}
use Rattle.slnf_run_bench.proofs.inputs.+are_few.Given as goal

-- the lanes that are left
abbrev pub decreases-are_few : goal.decreases-are_few
decreases-are_few l = length l.lanes.now
