use Rattle.std.proofs.Common.{Ok}
use Rattle.slnf_flight.specs.declared.outcomes.Outcome.{Outcome}
use Rattle.slnf_base.specs.declared.memory.NoMemory.{NoMemory}
use Rattle.slnf_top.specs.Written.{SideBySide, IsOutcome}
use Rattle.slnf_top.proofs.Runs.{outcome_if_ok, same_if_ok}
use Rattle.slnf_top.proofs.steps.outcome_side_by_side.Goals as goal

pub returns : goal.returns
returns g c =
    let e = c.in_ok-run_plan.ensures in
    let parted = c.in_ok-run_plan.field-0 in
    let outcome : Outcome = record { journal = parted.journal; verdicts = parted.verdicts; left = parted.left } in
    let plan = c.args.plan.now in
    let lanes = c.args.lanes.now in
    let is : IsOutcome SideBySide plan lanes outcome =
    outcome_if_ok {E = NoMemory} SideBySide plan lanes (Ok outcome) e.stamps e.run e.one_box e.pairs e.none_ill e.bounded
    e.few e.well e.verdicts e.left in
    let same = c.joined.ensures in
    same_if_ok SideBySide plan lanes c.joined.result outcome same.journal same.verdicts same.left is
