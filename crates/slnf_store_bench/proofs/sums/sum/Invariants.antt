-- the checksum so far, with the entries that are left, is that of all
use Rattle.std.proofs.Common.{◌≡◌, drop}
use Rattle.slnf_store_bench.specs.Sums.{no_sum, with_entries}
use Rattle.slnf_store_bench.proofs.sums.sum.Given as goal

abbrev pub invariant-loop-entry : goal.invariant-loop-entry
invariant-loop-entry l = with_entries l.sum (drop l.entry-index l.entries) ≡ with_entries no_sum l.entries
