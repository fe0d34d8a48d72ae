-- each incarnation has the part that it had
use Rattle.std.proofs.Common.{◌≡◌, ◌+◌, ◌-◌, ℕ, length}
use Rattle.slnf_verdicts.specs.Tables.{lists, list_at}
use Rattle.slnf_verdicts.proofs.parts.reach.Given as goal

abbrev pub invariant-loop-alloc : goal.invariant-loop-alloc
invariant-loop-alloc l = (i : ℕ) → list_at (lists l.parts.items) i ≡ list_at (lists l.fn.parts.items) i

abbrev pub decreases-loop-alloc : goal.decreases-loop-alloc
decreases-loop-alloc l = l.incarnation + 1 - length l.parts.items
