-- the ranges so far, and those of the bounds that are left, are all
use Rattle.std.proofs.Common.{◌≡◌, ◌++◌, map, drop}
use Rattle.slnf_merge.specs.Merge.{AreHistories}
use Rattle.slnf_ranges.specs.Ranges.{ranges}
use Rattle.slnf_ranges.proofs.cuts.ranges_of.Given as goal

abbrev pub invariant-loop-bound : goal.invariant-loop-bound
invariant-loop-bound l = record {
  made : map (λ range. map (λ h. h.now) range.items) l.ranges.items
      ++ ranges (drop l.bound-index l.bounds) (map (λ h. h.now) l.rest.items)
      ≡ ranges l.bounds (map (λ h. h.now) l.fn.histories.items);
  rest : AreHistories 0 (map (λ h. h.now) l.rest.items);
}
