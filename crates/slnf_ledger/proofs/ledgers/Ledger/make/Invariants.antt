-- no lane so far has a verdict
use Rattle.std.proofs.Common.{◌≡◌, ◌≤◌, ◌-◌, ℕ, [], length, map}
use Rattle.slnf_ledger.specs.Ledger.{verdicts_at}
use Rattle.slnf_ledger.proofs.ledgers.Ledger.make.Given as goal

abbrev pub invariant-loop-alloc : goal.invariant-loop-alloc
invariant-loop-alloc l = record {
  most : length l.lanes.items ≤ l.count;
  none : (lane : ℕ) → verdicts_at (map (λ v. v.items) l.lanes.items) lane ≡ [];
}

abbrev pub decreases-loop-alloc : goal.decreases-loop-alloc
decreases-loop-alloc l = l.count - length l.lanes.items
