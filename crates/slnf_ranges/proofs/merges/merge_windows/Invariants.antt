-- the windows so far are merged, and with those that are left they are all
use Rattle.std.proofs.Common.{◌≡◌, ◌++◌, List, map}
use Rattle.std.specs.Vec.Iter.{into_iter_items}
use Rattle.slnf_access.specs.declared.requests.Entry.{Entry}
use Rattle.slnf_ranges.specs.Ranges.{ranges}
use Rattle.slnf_ranges.proofs.Laws.{AllHistories, EachMerged}
use Rattle.slnf_ranges.proofs.merges.merge_windows.Given as goal

abbrev pub invariant-loop-window : goal.invariant-loop-window
invariant-loop-window l = record {
  done : List (List (List Entry));
  merged : EachMerged done l.parts.items;
  all : done ++ map (λ r. map (λ h. h.now) r.items) (into_iter_items l.window-iterator)
      ≡ ranges l.bounds.items (map (λ h. h.now) l.fn.range.items);
  rest : AllHistories (map (λ r. map (λ h. h.now) r.items) (into_iter_items l.window-iterator));
}
