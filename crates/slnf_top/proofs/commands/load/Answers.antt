use Rattle.std.proofs.Common.{List, ap, subst}
use Rattle.std.proofs.lemmas.Result.{err_from_is_err_and}
use Rattle.slnf_top.specs.declared.outputs.File.{File}
use Rattle.slnf_top.specs.Words.{LoadWords, Load, load_named}
use Rattle.slnf_top.specs.Effects.{RoseAt}
use Rattle.slnf_top.specs.Files.{names_of, summary_alone, Wrote}
use Rattle.slnf_top.specs.Refused.{StopsWriting, StopsAt}
use Rattle.slnf_top.specs.Written.{BySchedule, load_source, status_of}
use Rattle.slnf_top.proofs.Ending.{WritesRun, stopped_at, all_written}
use Rattle.slnf_top.proofs.Loading.{writes_summary}
use Rattle.slnf_top.proofs.commands.load.Goals as goal

pub returns-in_err-write_files : goal.returns-in_err-write_files
returns-in_err-write_files g c =
    let words : LoadWords = load_named c.args.words.now in
    let a = g.S.Shelf.faults c.args.shelf.now in
    let b = g.S.Shelf.faults c.write_files.new.shelf in
    let held = g.S.Shelf.holds c.args.shelf.now in
    let holds = g.S.Shelf.holds c.write_files.new.shelf in
    let run = c.in_ok-run.run' in
    let ended = c.in_err-write_files.field-0.0 in
    let writes : WritesRun (Load words) BySchedule summary_alone (load_source words) run a a b held held holds =
    writes_summary words run a b held holds c.in_ok-run.ensures.run c.as_slice.result.now c.as_slice.ensures
    c.write_files.ensures.counts c.write_files.ensures.others in
    let p = err_from_is_err_and c.from_residual-in_err-write_files.result
    c.from_residual-in_err-write_files.ensures.1 in
    rw (p.1, p.2) (stopped_at (Load words) BySchedule summary_alone (load_source words) run a a b held held holds writes ended
    (λ stopped. stopped)
    (subst (λ (fs : List File). StopsWriting (RoseAt (names_of fs) a b) ended) c.as_slice.ensures
    c.in_err-write_files.ensures.stopped)
    c.in_err-write_files.ensures.still
    (subst (λ (fs : List File). StopsAt fs a b held holds ended) c.as_slice.ensures
    c.in_err-write_files.ensures.at_one))

pub returns : goal.returns
returns g c =
    let words : LoadWords = load_named c.args.words.now in
    let a = g.S.Shelf.faults c.args.shelf.now in
    let b = g.S.Shelf.faults c.write_files.new.shelf in
    let held = g.S.Shelf.holds c.args.shelf.now in
    let holds = g.S.Shelf.holds c.write_files.new.shelf in
    let run = c.in_ok-run.run' in
    let writes : WritesRun (Load words) BySchedule summary_alone (load_source words) run a a b held held holds =
    writes_summary words run a b held holds c.in_ok-run.ensures.run c.as_slice.result.now c.as_slice.ensures
    c.write_files.ensures.counts c.write_files.ensures.others in
    all_written (Load words) BySchedule summary_alone (load_source words) run a a b held held holds writes
    (λ written. (ap status_of c.in_ok-run.ensures.none_left, written))
    (subst (λ (fs : List File). Wrote fs held holds) c.as_slice.ensures c.in_ok-write_files.ensures.written)
    c.in_ok-write_files.ensures.no_fault
