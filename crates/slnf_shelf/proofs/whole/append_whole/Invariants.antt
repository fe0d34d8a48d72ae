use Rattle.std.proofs.Common.{length, ◌-◌, ◌≡◌, ◌≤◌, take}
use Rattle.slnf_shelf.specs.declared.shelf.Call.TheVariants.{Append}
use Rattle.slnf_shelf.specs.Shelf.{Moves, Only, SameOthers, with_more}
use Rattle.slnf_shelf.proofs.whole.append_whole.Given as goal

abbrev pub invariant-loop-written : goal.invariant-loop-written
invariant-loop-written g l = record {
  moves : Moves (Only Append l.name) (g.S.Shelf.faults l.fn.shelf) (g.S.Shelf.faults l.shelf);
  still : g.S.Shelf.faults l.shelf ≡ g.S.Shelf.faults l.fn.shelf;
  others : SameOthers l.name (g.S.Shelf.holds l.fn.shelf) (g.S.Shelf.holds l.shelf);
  fits : l.written ≤ length l.text;
  gained : g.S.Shelf.holds l.shelf l.name ≡ with_more (take l.written l.text) (g.S.Shelf.holds l.fn.shelf l.name);
}

abbrev pub decreases-loop-written : goal.decreases-loop-written
decreases-loop-written g l = length l.text - l.written
