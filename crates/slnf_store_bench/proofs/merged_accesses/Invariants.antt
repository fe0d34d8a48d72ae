-- four callers
use Rattle.std.proofs.Common.{◌≡◌, length}
use Rattle.slnf_store_bench.proofs.merged_accesses.Given as goal

abbrev pub invariant-loop-item : goal.invariant-loop-item
invariant-loop-item l = length l.callers.items ≡ 4
