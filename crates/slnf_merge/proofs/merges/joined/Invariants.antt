-- the entries so far, and those of the histories that are left
use Rattle.std.proofs.Common.{◌≡◌, ◌++◌, map}
use Rattle.std.specs.Vec.Iter.{into_iter_items}
use Rattle.slnf_merge.specs.Merge.{all_of}
use Rattle.slnf_merge.proofs.merges.joined.Given as goal

abbrev pub invariant-loop-history : goal.invariant-loop-history
invariant-loop-history l =
    l.all.items ++ all_of (map (λ h. h.items) (into_iter_items l.history-iterator))
    ≡ all_of (map (λ h. h.items) l.fn.histories.items)
