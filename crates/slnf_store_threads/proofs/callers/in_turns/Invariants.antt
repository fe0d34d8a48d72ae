-- the checksum so far
use Rattle.std.proofs.Common.{◌≡◌}
use Rattle.slnf_store.specs.Passes.{own_entries}
use Rattle.slnf_store_threads.specs.Callers.{IsCaller}
use Rattle.slnf_store_threads.specs.Sums.{with_replies}
use Rattle.slnf_store_threads.proofs.callers.in_turns.Given as goal

abbrev pub invariant-loop-item : goal.invariant-loop-item
invariant-loop-item g l = IsCaller l.store l.pass × (l.sum ≡ with_replies 0 (own_entries l.pass))
