-- All that holds of a run of a plan with few packets.
use Rattle.std.specs.Prelude.{◌^◌, ◌<◌, List, length}
use Rattle.slnf_access.specs.declared.requests.Entry.{Entry}
use Rattle.slnf_plan.specs.declared.plan.FunctionPlan.{FunctionPlan}
use Rattle.slnf_plan.specs.declared.plan.FunctionPlan.TheVariants.{Nat, Firewall, Balancer}
use Rattle.slnf_plan.specs.declared.plan.Plan.{Plan}
use Rattle.slnf_run.specs.Setting.{Setting}
use Rattle.slnf_run.specs.Run.{IsRun}
use Rattle.slnf_box.specs.Pools.{nat_of}
use Rattle.slnf_nat.specs.LeaksNothing.{LeaksNothing}
use Rattle.slnf_flight.specs.declared.lanes.Lane.{Lane}
use Rattle.slnf_flight.specs.declared.flights.AnyFlight.{AnyFlight}
use Rattle.slnf_flight.specs.Flights.{Arrival}
use Rattle.slnf_flight.specs.PlanSetting.{setting_of}
use Rattle.slnf_setting.specs.OneBoxOfPlan.{IsOneBoxOfPlan}
use Rattle.slnf_setting.specs.Pairs.{KeepsPairs}
use Rattle.slnf_setting.specs.Replies.{NoneIll}
use Rattle.slnf_setting.specs.NatRuns.{NatRunsWell}
use Rattle.slnf_setting.specs.Bound.{IsBoundedFor}

-- what holds of a NAT's run alone
abbrev pub RunsWell : FunctionPlan → Setting AnyFlight Arrival → List Entry → Type 0
RunsWell (Nat pool) s es = NatRunsWell (nat_of pool) s.scene es × LeaksNothing (nat_of pool) (λ cells. cells) s es
RunsWell (Firewall inside rules) s es = Unit {0}
RunsWell (Balancer service) s es = Unit {0}

pub record IsRunOfPlan (plan : Plan) (lanes : List Lane) (j : List Entry) : Type 0 where
  -- The list is a run of the plan's setting, and one ordinary box of the plan's function explains it.
  pub run : IsRun (setting_of plan lanes) j
  pub one_box : IsOneBoxOfPlan plan lanes j
  -- No two live flows share an outside pair, and no pair that was given out changes.
  pub pairs : KeepsPairs plan.function j
  -- What is found at a key is a value of its kind.
  pub none_ill : NoneIll plan.function j
  -- Each item makes a bounded number of accesses, and all make few.
  pub bounded : IsBoundedFor plan.function (setting_of plan lanes).scene.begins j
  pub few : length j < 2 ^ 41
  -- A NAT leaks nothing, and is out of ports only where it found each candidate taken.
  pub well : RunsWell plan.function (setting_of plan lanes) j
