-- what was given so far, and what the instances that are left give, is all
use Rattle.std.proofs.Common.{◌≡◌, ◌+◌, ◌++◌, drop, map}
use Rattle.slnf_flight.specs.Actors.{instance_actor}
use Rattle.slnf_flight.specs.PlanSetting.{setting_of}
use Rattle.slnf_verdicts.specs.Given.{given_in}
use Rattle.slnf_verdicts.specs.Parts.{part_in}
use Rattle.slnf_verdicts.proofs.rows.add_epoch.Given as goal

abbrev pub invariant-loop-k : goal.invariant-loop-k
invariant-loop-k l =
    l.row.items ++ given_in (setting_of l.plan l.lanes) (λ i. part_in l.parts i) l.lane l.at (l.base + l.k)
    (map instance_actor (drop l.k l.instances))
    ≡ l.fn.row.items ++ given_in (setting_of l.plan l.lanes) (λ i. part_in l.parts i) l.lane l.at l.base
    (map instance_actor l.instances)
