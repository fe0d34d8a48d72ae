-- the histories so far, and those that are left, are all
use Rattle.std.proofs.Common.{◌≡◌, ◌++◌, map, drop}
use Rattle.slnf_ranges.proofs.merges.merge_range.Given as goal

abbrev pub invariant-loop-part : goal.invariant-loop-part
invariant-loop-part l =
    map (λ h. h.items) l.histories.items ++ map (λ h. h.now) (drop l.part-index l.range) ≡ map (λ h. h.now) l.range
