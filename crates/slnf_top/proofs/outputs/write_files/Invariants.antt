-- how far the writing has come
use Rattle.std.proofs.Common.{drop}
use Rattle.slnf_top.proofs.Writing.{WritesSoFar}
use Rattle.slnf_top.proofs.outputs.write_files.Given as goal

abbrev pub invariant-loop-file : goal.invariant-loop-file
invariant-loop-file g l =
    WritesSoFar l.files (drop l.file-index l.files) (g.S.Shelf.faults l.fn.shelf) (g.S.Shelf.faults l.shelf)
    (g.S.Shelf.holds l.fn.shelf) (g.S.Shelf.holds l.shelf)
