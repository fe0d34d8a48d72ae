-- the parts so far, and those of the answers that are left, are all
use Rattle.std.proofs.Common.{◌≡◌, ◌++◌}
use Rattle.std.specs.Vec.Iter.{into_iter_items}
use Rattle.slnf_ranges.specs.Ranges.{all_in, AreAllOk}
use Rattle.slnf_ranges.proofs.merges.gather.Given as goal

abbrev pub invariant-loop-one : goal.invariant-loop-one
invariant-loop-one l = record {
  made : l.parts.items ++ all_in (into_iter_items l.one-iterator) ≡ all_in l.fn.merged.items;
  whole : AreAllOk (into_iter_items l.one-iterator) → AreAllOk l.fn.merged.items;
}
