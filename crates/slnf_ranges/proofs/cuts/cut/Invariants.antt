-- the parts so far, and those of the histories that are left, are all
use Rattle.std.proofs.Common.{◌≡◌, ◌++◌, map, drop}
use Rattle.slnf_merge.specs.Merge.{AreHistories}
use Rattle.slnf_ranges.specs.Ranges.{below, from_on}
use Rattle.slnf_ranges.proofs.cuts.cut.Given as goal

abbrev pub invariant-loop-history : goal.invariant-loop-history
invariant-loop-history l = record {
  fronts : map (λ h. h.now) l.fronts.items ++ map (below l.bound) (map (λ h. h.now) (drop l.history-index l.histories))
      ≡ map (below l.bound) (map (λ h. h.now) l.histories);
  backs : map (λ h. h.now) l.backs.items ++ map (from_on l.bound) (map (λ h. h.now) (drop l.history-index l.histories))
      ≡ map (from_on l.bound) (map (λ h. h.now) l.histories);
  rest : AreHistories l.history-index (map (λ h. h.now) (drop l.history-index l.histories));
}
