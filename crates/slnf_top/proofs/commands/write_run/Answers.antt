use Rattle.std.proofs.lemmas.Result.{err_from_is_err_and}
use Rattle.slnf_top.specs.Words.{plan_named}
use Rattle.slnf_top.proofs.Stepping.{stopped_writing, ended_writing}
use Rattle.slnf_top.proofs.commands.write_run.Goals as goal

pub returns-in_err-write_files : goal.returns-in_err-write_files
returns-in_err-write_files g c = λ order before held is read.
    let words = plan_named c.args.words.now in
    let b = g.S.Shelf.faults c.args.shelf.now in
    let d = g.S.Shelf.faults c.write_files.new.shelf in
    let middle = g.S.Shelf.holds c.args.shelf.now in
    let holds = g.S.Shelf.holds c.write_files.new.shelf in
    let failed = c.in_err-write_files.ensures in
    let p = err_from_is_err_and c.from_residual-in_err-write_files.result
    c.from_residual-in_err-write_files.ensures.1 in
    rw (p.1, p.2) (stopped_writing order words c.args.inputs.now c.in_ok-run.run' before b d held middle holds read
    (c.in_ok-run.ensures order is) c.as_slice.result.now c.as_slice.ensures c.requires.few
    c.write_files.ensures.counts c.write_files.ensures.others c.in_err-write_files.field-0.0
    failed.stopped failed.still failed.at_one)

pub returns : goal.returns
returns g c = λ order before held is read.
    let words = plan_named c.args.words.now in
    let b = g.S.Shelf.faults c.args.shelf.now in
    let d = g.S.Shelf.faults c.write_files.new.shelf in
    let middle = g.S.Shelf.holds c.args.shelf.now in
    let holds = g.S.Shelf.holds c.write_files.new.shelf in
    ended_writing order words c.args.inputs.now c.in_ok-run.run' before b d held middle holds read
    (c.in_ok-run.ensures order is) c.as_slice.result.now c.as_slice.ensures c.requires.few
    c.write_files.ensures.counts c.write_files.ensures.others
    c.in_ok-write_files.ensures.written c.in_ok-write_files.ensures.no_fault
