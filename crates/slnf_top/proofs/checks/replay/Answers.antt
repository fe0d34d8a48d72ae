use Rattle.std.proofs.Common.{ℕ, List, subst}
use Rattle.std.proofs.lemmas.Result.{err_from_is_err_and}
use Rattle.slnf_top.specs.Words.{Box, plan_named}
use Rattle.slnf_check.specs.Checks.{IsRefusedJournal}
use Rattle.slnf_top.specs.Checked.{BreaksBy, TellsLines}
use Rattle.slnf_top.proofs.Judging.{inputs_read, inputs_refused, journal_read, journal_ended, breaks_journal, answered_found, box_refused}
use Rattle.slnf_top.proofs.checks.replay.Goals as goal

pub returns-in_err-inputs-clause-ended : goal.returns-in_err-inputs-clause-ended
returns-in_err-inputs-clause-ended g c =
    let p = err_from_is_err_and c.from_residual.result c.from_residual.ensures.1 in
    rw (p.1, p.2) (box_refused (plan_named c.args.words.now) c.in_err-inputs.field-0.0 _ _ _ _
    (inputs_refused (plan_named c.args.words.now) _ _ _ _ c.in_err-inputs.field-0.0 c.read_inputs.ensures.counts c.in_err-inputs.ensures.still
    c.read_inputs.ensures.files c.in_err-inputs.ensures.refused))

pub returns-in_err-journal-clause-ended : goal.returns-in_err-journal-clause-ended
returns-in_err-journal-clause-ended g c =
    let inputs = c.in_ok-inputs.inputs in
    let p = err_from_is_err_and c.from_residual-in_err-journal.result c.from_residual-in_err-journal.ensures.1 in
    rw (p.1, p.2) (journal_ended (plan_named c.args.words.now) inputs _ _ _ _ _ _ c.in_ok-inputs.ensures.read
    (inputs_read (plan_named c.args.words.now) _ _ _ _ inputs c.in_ok-inputs.ensures.read c.read_inputs.ensures.counts
    c.in_ok-inputs.ensures.no_fault c.read_inputs.ensures.files)
    c.in_err-journal.field-0.0 c.in_err-journal.ensures.refused)

pub returns-in_err-lines-clause-ended : goal.returns-in_err-lines-clause-ended
returns-in_err-lines-clause-ended g c =
    let inputs = c.in_ok-inputs.inputs in
    let read = inputs_read (plan_named c.args.words.now) _ _ _ _ inputs c.in_ok-inputs.ensures.read
    c.read_inputs.ensures.counts c.in_ok-inputs.ensures.no_fault c.read_inputs.ensures.files in
    let p = err_from_is_err_and c.from_residual-in_err-lines.result c.from_residual-in_err-lines.ensures.1 in
    rw (p.1, p.2) (breaks_journal _ inputs _ _ _ _ _ _ c.in_ok-inputs.ensures.read read
    c.in_ok-journal.journal c.in_ok-journal.ensures.told c.in_err-lines.field-0.0
    (subst (λ (bytes : List ℕ). BreaksBy (IsRefusedJournal inputs.plan inputs.captures.lanes bytes)
    c.in_err-lines.field-0.0) c.as_slice.ensures c.in_err-lines.ensures.refused)
    (journal_read _ inputs _ _ _ _ _ _ c.in_ok-inputs.ensures.read read c.in_ok-journal.ensures.read))

pub returns : goal.returns
returns g c =
    let inputs = c.in_ok-inputs.inputs in
    let read = inputs_read (plan_named c.args.words.now) _ _ _ _ inputs c.in_ok-inputs.ensures.read
    c.read_inputs.ensures.counts c.in_ok-inputs.ensures.no_fault c.read_inputs.ensures.files in
    let both =
    c.write_found.ensures (Box (plan_named c.args.words.now)) inputs.captures.tally (g.S.Shelf.faults c.args.shelf.now)
    (g.S.Shelf.holds c.args.shelf.now)
    (journal_read _ inputs _ _ _ _ _ _ c.in_ok-inputs.ensures.read read c.in_ok-journal.ensures.read)
    (answered_found _ inputs _ _ (g.S.Shelf.faults c.read_journal_file.new.shelf) _ _ (g.S.Shelf.holds c.read_journal_file.new.shelf)
    c.in_ok-inputs.ensures.read read
    c.in_ok-journal.journal c.in_ok-journal.ensures.told c.in_ok-lines.lines
    (subst (λ (bytes : List ℕ). TellsLines inputs.plan inputs.captures.lanes bytes c.in_ok-lines.lines)
    c.as_slice.ensures c.in_ok-lines.ensures.answered)) in
    record { answered = both.0; ended = both.1 }
