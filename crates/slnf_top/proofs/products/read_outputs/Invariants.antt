-- how far the reading has come
use Rattle.std.proofs.Common.{map}
use Rattle.std.specs.Prelude.{string_bytes}
use Rattle.slnf_top.proofs.RunFiles.{FromLane}
use Rattle.slnf_top.proofs.products.read_outputs.Given as goal

abbrev pub invariant-loop-lane : goal.invariant-loop-lane
invariant-loop-lane g l =
    FromLane (g.S.Shelf.faults l.fn.shelf) (g.S.Shelf.faults l.shelf) (g.S.Shelf.holds l.fn.shelf)
    (g.S.Shelf.holds l.shelf) l.out (map string_bytes l.captures) l.outputs.items l.lane
