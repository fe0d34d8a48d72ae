-- the entries so far, and those of the parts that are left, are all
use Rattle.std.proofs.Common.{◌≡◌, ◌++◌}
use Rattle.std.specs.Vec.Iter.{into_iter_items}
use Rattle.slnf_merge.specs.Merge.{all_of}
use Rattle.slnf_ranges.proofs.parts.Parts.joined.Given as goal

abbrev pub invariant-loop-part : goal.invariant-loop-part
invariant-loop-part l = l.all.items ++ all_of (into_iter_items l.part-iterator) ≡ l.fn.self
