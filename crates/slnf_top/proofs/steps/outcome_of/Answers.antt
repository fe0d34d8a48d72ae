use Rattle.slnf_top.specs.Written.{BySchedule}
use Rattle.slnf_top.proofs.Runs.{both_if_ok, outcome_if_ok}
use Rattle.slnf_top.proofs.steps.outcome_of.Goals as goal

pub returns : goal.returns
returns c =
    let e = c.step_plan.ensures in
    let r = c.step_plan.result in
    outcome_if_ok BySchedule c.args.plan.now c.args.lanes.now r (both_if_ok _ _ r e.scheduled e.stamps) e.run e.one_box
    e.pairs e.none_ill e.bounded e.few e.well e.verdicts e.left
