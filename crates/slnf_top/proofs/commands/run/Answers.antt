use Rattle.std.proofs.Common.{◌≤◌, length, arith}
use Rattle.std.specs.Prelude.{string_bytes}
use Rattle.std.proofs.lemmas.Result.{err_from_is_err_and}
use Rattle.slnf_top.specs.Words.{plan_named}
use Rattle.slnf_top.specs.Written.{SideBySide}
use Rattle.slnf_check.proofs.Sizes.{are_given}
use Rattle.slnf_top.proofs.Stepping.{few_given, few_lanes, outcome_by, sized_by, were_read, refused_in, wanting_in}
use Rattle.slnf_top.proofs.commands.run.Goals as goal

pub outcome_side_by_side-requires-clause-few_lanes : goal.outcome_side_by_side-requires-clause-few_lanes
outcome_side_by_side-requires-clause-few_lanes g c =
    let words = c.args.words.now in
    let few : length c.as_slice-lanes.result.now ≤ 32 =
    few_lanes string_bytes words.captures.now words.plan.now (g.S.Shelf.holds c.args.shelf.now) c.in_ok-inputs.inputs
    words.few c.in_ok-inputs.ensures.read c.as_slice-lanes.result.now c.as_slice-lanes.ensures in
    omega arith

pub write_run-requires-clause-few : goal.write_run-requires-clause-few
write_run-requires-clause-few g c =
    let words = c.args.words.now in
    few_given string_bytes words.captures.now words.plan.now (g.S.Shelf.holds c.args.shelf.now) c.in_ok-inputs.inputs
    words.few c.in_ok-inputs.ensures.read

pub write_run-requires-clause-given : goal.write_run-requires-clause-given
write_run-requires-clause-given g c =
    let captures = c.in_ok-inputs.inputs.captures in
    are_given captures.given captures.lanes c.in_ok-inputs.ensures.read.are_read

pub write_run-requires-clause-sized : goal.write_run-requires-clause-sized
write_run-requires-clause-sized g c =
    sized_by SideBySide c.in_ok-inputs.inputs c.as_slice-lanes.result.now c.in_ok-outcome.outcome c.as_slice-lanes.ensures
    c.in_ok-outcome.ensures c.in_ok-inputs.ensures.read.are_read

pub returns-in_err-inputs : goal.returns-in_err-inputs
returns-in_err-inputs g c =
    let p = err_from_is_err_and c.from_residual.result c.from_residual.ensures.1 in
    rw (p.1, p.2) (refused_in SideBySide (plan_named c.args.words.now) c.in_err-inputs.field-0.0 _ _ _ _
    c.read_inputs.ensures.counts c.read_inputs.ensures.files c.in_err-inputs.ensures.refused
    c.in_err-inputs.ensures.still)

pub returns-in_err-outcome : goal.returns-in_err-outcome
returns-in_err-outcome g c =
    let p = err_from_is_err_and c.from_residual-in_err-outcome.result
    c.from_residual-in_err-outcome.ensures.1 in
    rw (p.1, p.2) (wanting_in SideBySide (plan_named c.args.words.now) c.in_ok-inputs.inputs _ _ _ _
    (were_read _ _ _ _ _ _ c.read_inputs.ensures.counts c.in_ok-inputs.ensures.no_fault c.read_inputs.ensures.files
    c.in_ok-inputs.ensures.read))

pub returns : goal.returns
returns g c =
    c.write_run.ensures SideBySide (g.S.Shelf.faults c.args.shelf.now) (g.S.Shelf.holds c.args.shelf.now)
    (outcome_by SideBySide c.in_ok-inputs.inputs c.as_slice-lanes.result.now c.in_ok-outcome.outcome c.as_slice-lanes.ensures
    c.in_ok-outcome.ensures)
    (were_read _ _ _ _ _ _ c.read_inputs.ensures.counts c.in_ok-inputs.ensures.no_fault c.read_inputs.ensures.files
    c.in_ok-inputs.ensures.read)
