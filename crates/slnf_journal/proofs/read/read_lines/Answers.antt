use Rattle.std.proofs.Common.{◌+◌, ◌∙◌, sym, ap, Err, length, arith}
use Rattle.std.proofs.lemmas.List.{take_rest, length-drop}
use Rattle.std.proofs.lemmas.Result.{err_from_is_err_and}
use Rattle.slnf_journal.specs.Versions.{One}
use Rattle.slnf_journal.proofs.Steps.{step-end, step-torn, step-bad, step-entry}
use Rattle.slnf_journal.proofs.read.read_lines.Goals as goal

pub returns-in-None-clause-err : goal.returns-in-None-clause-err
returns-in-None-clause-err c = λ _.
    sym c.loop-at.invariant.rest
    ∙ step-torn One c.loop-at.line c.loop-at.at c.args.body.now _ c.loop-at.entries.items c.loop-at-test.true
    (take_rest c.args.body.now c.loop-at.at) c.in-None.ensures

pub returns-in_err-entry-clause-err : goal.returns-in_err-entry-clause-err
returns-in_err-entry-clause-err c =
    let p = err_from_is_err_and c.from_residual.result c.from_residual.ensures.1 in
    rw p.1 (λ _. sym c.loop-at.invariant.rest
    ∙ step-bad One c.loop-at.line c.loop-at.at c.in-Some.len c.args.body.now _ c.loop-at.entries.items
    c.in_err-entry.field-0.0 (take_rest c.args.body.now c.loop-at.at) c.in-Some.ensures (sym c.in_err-entry.ensures)
    ∙ ap Err (sym p.2))

pub loop-at-preserved : goal.loop-at-preserved
loop-at-preserved c =
    let body = c.args.body.now in
    let at = c.loop-at.at in
    record {
      place = omega (arith, c.in-Some.ensures.0, ap length (take_rest body at), length-drop at body);
      few = omega (arith, c.loop-at.invariant.few);
      rest = rw c.in_ok-push.ensures.items
          (step-entry One c.loop-at.line at c.in-Some.len body _ c.loop-at.entries.items c.in_ok-entry.entry
          (take_rest body at) c.in-Some.ensures (sym c.in_ok-entry.ensures)
          ∙ c.loop-at.invariant.rest);
    }

pub returns-clause-ok : goal.returns-clause-ok
returns-clause-ok c =
    sym c.loop-at.invariant.rest
    ∙ step-end One c.loop-at.line c.loop-at.at c.args.body.now c.loop-at.entries.items c.loop-at-test.false
