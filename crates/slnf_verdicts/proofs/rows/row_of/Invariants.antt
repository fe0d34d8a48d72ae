-- what was given so far, and what the epochs that are left give, is all
use Rattle.std.proofs.Common.{◌≡◌, ◌≤◌, ◌*◌, ◌++◌, drop, length}
use Rattle.slnf_run.specs.Setting.{base_of}
use Rattle.slnf_flight.specs.Actors.{eras_of}
use Rattle.slnf_flight.specs.PlanSetting.{setting_of}
use Rattle.slnf_verdicts.specs.Given.{given_from}
use Rattle.slnf_verdicts.specs.Parts.{part_in}
use Rattle.slnf_verdicts.proofs.rows.row_of.Given as goal

abbrev pub invariant-loop-number : goal.invariant-loop-number
invariant-loop-number l = record {
  base : l.base ≡ base_of (eras_of l.plan.epochs) l.number;
  few : l.base ≤ 33 * l.number;
  given : l.given.items ++ given_from (setting_of l.plan l.lanes) (λ i. part_in l.parts i) l.lane
      (length l.given.items) l.base (eras_of (drop l.number l.plan.epochs))
      ≡ given_from (setting_of l.plan l.lanes) (λ i. part_in l.parts i) l.lane 0 0 (eras_of l.plan.epochs);
}
