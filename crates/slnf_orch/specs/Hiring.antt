-- The actors that are hired for an epoch: where each begins, and how it stands before its first access.
use Rattle.std.specs.Prelude.{◌≡◌, ℕ, ◌+◌, Some, List, [], slice_get}
use Rattle.slnf_plan.specs.declared.plan.Epoch.{Epoch}
use Rattle.slnf_plan.specs.declared.plan.InstancePlan.{InstancePlan}
use Rattle.slnf_plan.specs.declared.plan.Plan.{Plan}
use Rattle.slnf_access.specs.declared.requests.Entry.{Entry}
use Rattle.slnf_run.specs.Jobs.{Job}
use Rattle.slnf_run.specs.Setting.{Actor}
use Rattle.slnf_instance.specs.Items.{Workload}
use Rattle.slnf_instance.specs.Errands.{job_in}
use Rattle.slnf_instance.specs.Instances.{Acting, StandsBy}
use Rattle.slnf_flight.specs.declared.lanes.Lane.{Lane}
use Rattle.slnf_flight.specs.declared.flights.AnyFlight.{AnyFlight}
use Rattle.slnf_flight.specs.declared.functions.AnyFunction.{AnyFunction}
use Rattle.slnf_flight.specs.Actors.{era_of_epoch}
use Rattle.slnf_crew.specs.declared.items.ActorItems.{ActorItems}
use Rattle.slnf_crew.specs.Errands.{items_work, IsWorkOn, errand_of}

-- the actors of these instances stand so, by their jobs and their own entries
abbrev pub DoStand : {G F : Type 0} → (G → Workload F) → (ℕ → InstancePlan → Job F) → (ℕ → List Entry)
    → List (Acting G F) → List InstancePlan → Type 0
DoStand {G} {F} work jobs owns crew instances = (k : ℕ) (actor : Acting G F) (i : InstancePlan) →
    slice_get crew k ≡ Some actor → slice_get instances k ≡ Some i → StandsBy work (jobs k i) (owns k) actor

module _ (plan : Plan) (function : AnyFunction) (lanes : List Lane) (places : ℕ → ℕ) (base : ℕ) where
  -- The actor with this number of an epoch stands before its first access, with the job that the plan has for it.
  pub record IsHired (number : ℕ) (actor : Actor) (i : Acting ActorItems AnyFlight) : Type 0
    where
      pub work : Workload AnyFlight
      pub works : IsWorkOn function lanes base (base + number) actor.lane work
      pub stands : StandsBy items_work (job_in work (errand_of plan places actor work.count)) [] i

  -- and so do all of the epoch
  abbrev pub AreHired : Epoch → List (Acting ActorItems AnyFlight) → Type 0
  AreHired epoch crew = (k : ℕ) (i : Acting ActorItems AnyFlight) (actor : Actor) → slice_get crew k ≡ Some i →
      slice_get (era_of_epoch epoch).actors k ≡ Some actor → IsHired k actor i
