-- What the actors of an epoch work on, and what they are sent to do.
use Rattle.std.specs.Prelude.{◌≡◌, ℕ, ◌+◌, ◌-◌, Option, Some, None, List, slice_get}
use Rattle.slnf_plan.specs.declared.plan.Epoch.{Epoch}
use Rattle.slnf_plan.specs.declared.plan.SweepPlan.{SweepPlan}
use Rattle.slnf_plan.specs.declared.plan.SweepPlan.TheVariants.{No, Yes}
use Rattle.slnf_plan.specs.declared.plan.Plan.{Plan}
use Rattle.slnf_run.specs.Setting.{Actor}
use Rattle.slnf_run.specs.Jobs.{within_quota}
use Rattle.slnf_run.specs.Parts.{at_lane}
use Rattle.slnf_instance.specs.declared.errands.Errand.{Errand}
use Rattle.slnf_instance.specs.Items.{Workload}
use Rattle.slnf_flight.specs.declared.lanes.Lane.{Lane}
use Rattle.slnf_flight.specs.declared.flights.AnyFlight.{AnyFlight}
use Rattle.slnf_flight.specs.declared.functions.AnyFunction.{AnyFunction}
use Rattle.slnf_flight.specs.declared.functions.AnyFunction.TheVariants.{Nat as AnyNat, Firewall as AnyFirewall, Balancer as AnyBalancer}
use Rattle.slnf_flight.specs.Actors.{era_of_epoch}
use Rattle.slnf_flight.specs.Lanes.{packets_on}
use Rattle.slnf_crew.specs.declared.items.ActorItems.{ActorItems}
use Rattle.slnf_crew.specs.Items.{packets_work, ports_work, work_of}

-- what an actor's items do
abbrev pub items_work : ActorItems → Workload AnyFlight
items_work items = work_of items.function.now items.kind

-- only a NAT has a sweep
abbrev pub IsNat : AnyFunction → Type 0
IsNat (AnyNat function) = Unit {0}
IsNat (AnyFirewall function) = ⊥
IsNat (AnyBalancer function) = ⊥

abbrev pub MaySweep : AnyFunction → SweepPlan → Type 0
MaySweep function No = Unit {0}
MaySweep function (Yes stop) = IsNat function

-- after how many accesses an epoch's sweep stops
abbrev pub sweep_stop : SweepPlan → Option ℕ
sweep_stop No = None
sweep_stop (Yes stop) = stop

-- the work of a sweep in an epoch with this first incarnation
abbrev pub IsSweepWork : AnyFunction → ℕ → Workload AnyFlight → Type 0
IsSweepWork (AnyNat function) base work =
    work ≡ ports_work (AnyNat function) (record { pool = function.pool; base = base })
IsSweepWork (AnyFirewall function) base work = ⊥
IsSweepWork (AnyBalancer function) base work = ⊥

-- the work of an actor on this lane, as an incarnation: the packets of the lane, or without one a sweep's ports
abbrev pub IsWorkOn : AnyFunction → List Lane → ℕ → ℕ → Option ℕ → Workload AnyFlight → Type 0
IsWorkOn function lanes base incarnation None work = IsSweepWork function base work
IsWorkOn function lanes base incarnation (Some lane) work =
    work ≡ packets_work function (packets_on lanes lane) incarnation

-- the errand of an actor over so many items, where lanes have come so far
abbrev pub errand_of : Plan → (ℕ → ℕ) → Actor → ℕ → Errand
errand_of plan places actor count = record {
  at = at_lane places actor;
  end = at_lane places actor + within_quota actor.quota (count - at_lane places actor);
  batch = elim (actor.lane) [ None ↦ 1 | Some lane ↦ plan.batch ];
  shards = plan.shards;
  quota = actor.quota;
  stop = actor.stop;
}

-- the items are those of an epoch's actors, whose first incarnation is this
abbrev pub AreItemsFor : AnyFunction → List Lane → ℕ → Epoch → List ActorItems → Type 0
AreItemsFor function lanes base epoch items =
    (k : ℕ) (item : ActorItems) (actor : Actor) → slice_get items k ≡ Some item →
    slice_get (era_of_epoch epoch).actors k ≡ Some actor →
    IsWorkOn function lanes base (base + k) actor.lane (items_work item)
