-- the parts are the journal's; the verdicts so far, and those of the lanes that are left, are all
use Rattle.std.proofs.Common.{◌≡◌, ◌++◌, ℕ, drop}
use Rattle.slnf_run.specs.Parts.{part_of}
use Rattle.slnf_run.specs.Verdicts.{verdicts_from, verdicts_of}
use Rattle.slnf_flight.specs.Lanes.{lane_sizes}
use Rattle.slnf_flight.specs.PlanSetting.{setting_of}
use Rattle.slnf_verdicts.specs.Parts.{part_in}
use Rattle.slnf_verdicts.proofs.verdicts.verdicts_of.Given as goal

abbrev pub invariant-loop-lane : goal.invariant-loop-lane
invariant-loop-lane l = record {
  parts : (i : ℕ) → part_in l.parts i ≡ part_of i l.journal;
  verdicts : l.rows.items ++ verdicts_from (setting_of l.plan l.lanes) l.journal l.lane (drop l.lane (lane_sizes l.lanes))
      ≡ verdicts_of (setting_of l.plan l.lanes) l.journal;
}
