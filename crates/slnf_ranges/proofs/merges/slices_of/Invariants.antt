-- the slices so far, and those of the histories that are left, are all
use Rattle.std.proofs.Common.{◌≡◌, ◌++◌, map, drop}
use Rattle.slnf_ranges.proofs.merges.slices_of.Given as goal

abbrev pub invariant-loop-history : goal.invariant-loop-history
invariant-loop-history l =
    map (λ h. h.now) l.slices.items ++ map (λ h. h.items) (drop l.history-index l.histories)
    ≡ map (λ h. h.items) l.histories
