-- how far the reading has come
use Rattle.std.proofs.Common.{drop, map}
use Rattle.std.specs.Prelude.{string_bytes}
use Rattle.slnf_top.proofs.Reading.{ReadsSoFar}
use Rattle.slnf_top.proofs.inputs.read_captures.Given as goal

abbrev pub invariant-loop-name : goal.invariant-loop-name
invariant-loop-name g l =
    ReadsSoFar (g.S.Shelf.faults l.fn.shelf) (g.S.Shelf.faults l.shelf) (g.S.Shelf.holds l.fn.shelf)
    (g.S.Shelf.holds l.shelf)
    (map string_bytes l.names) (map string_bytes (drop l.name-index l.names)) l.given.items l.lanes.items l.tally
