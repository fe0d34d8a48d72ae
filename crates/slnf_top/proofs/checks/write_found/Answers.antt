use Rattle.std.proofs.Common.{refl}
use Rattle.slnf_top.proofs.Judging.{found_ended}
use Rattle.slnf_top.proofs.checks.write_found.Goals as goal

pub returns : goal.returns
returns g c = λ command last before held read found.
    let written = c.write_files.ensures in
    found_ended held c.args.file c.write_files.result command last before (g.S.Shelf.faults c.args.shelf.now)
    (g.S.Shelf.faults c.write_files.new.shelf) (g.S.Shelf.holds c.args.shelf.now)
    (g.S.Shelf.holds c.write_files.new.shelf) _ refl found read written.counts
    written.others written.written written.no_fault written.stopped written.still written.at_one
