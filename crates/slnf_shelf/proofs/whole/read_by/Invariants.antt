use Rattle.std.proofs.Common.{◌≡◌, ◌≤◌, ◌-◌, vec_len, IfSome}
use Rattle.std.specs.Io.{StartsWith}
use Rattle.slnf_shelf.specs.declared.shelf.Call.TheVariants.{Read}
use Rattle.slnf_shelf.specs.Shelf.{Moves, Only, SameFiles}
use Rattle.slnf_shelf.proofs.whole.read_by.Given as goal

abbrev pub invariant-loop-bytes : goal.invariant-loop-bytes
invariant-loop-bytes g l = record {
  moves : Moves (Only Read l.name) (g.S.Shelf.faults l.fn.shelf) (g.S.Shelf.faults l.shelf);
  still : g.S.Shelf.faults l.shelf ≡ g.S.Shelf.faults l.fn.shelf;
  files : SameFiles (g.S.Shelf.holds l.fn.shelf) (g.S.Shelf.holds l.shelf);
  fits : vec_len l.bytes ≤ l.most;
  front : IfSome (g.S.Shelf.holds l.fn.shelf l.name) (λ held. StartsWith held l.bytes.items);
}

abbrev pub decreases-loop-bytes : goal.decreases-loop-bytes
decreases-loop-bytes g l = l.most - vec_len l.bytes
