-- What the setting of a plan has at an instance and at a sweep, by the numbers of the epoch and the actor.
use Rattle.std.proofs.Common.{◌≡◌, ℕ, zero, suc, ◌+◌, Option, Some, None, List, [], ◌∷◌, ◌++◌, length, map, slice_get, refl, ap, ◌∙◌}
use Rattle.std.proofs.lemmas.Option.{slice_get-map, slice_get_within}
use Rattle.slnf_base.specs.declared.packets.Packet.{Packet}
use Rattle.slnf_base.specs.declared.plans.Pool.{Pool}
use Rattle.slnf_access.specs.declared.functions.Start.{Start}
use Rattle.slnf_access.specs.declared.functions.Start.TheVariants.{Go as StartGo, Over as StartOver}
use Rattle.slnf_access.specs.Machines.{stand_of_start}
use Rattle.slnf_plan.specs.declared.plan.FunctionPlan.{FunctionPlan}
use Rattle.slnf_plan.specs.declared.plan.FunctionPlan.TheVariants.{Nat, Firewall, Balancer}
use Rattle.slnf_plan.specs.declared.plan.InstancePlan.{InstancePlan}
use Rattle.slnf_plan.specs.declared.plan.SweepPlan.{SweepPlan}
use Rattle.slnf_plan.specs.declared.plan.SweepPlan.TheVariants.{Yes}
use Rattle.slnf_plan.specs.declared.plan.Epoch.{Epoch}
use Rattle.slnf_plan.specs.declared.plan.Plan.{Plan}
use Rattle.slnf_run.specs.Setting.{Actor, Era, era_of, base_of}
use Rattle.slnf_run.specs.Images.{stand_as}
use Rattle.slnf_lb.specs.Machine.{lb_begins}
use Rattle.slnf_flight.specs.declared.lanes.Taken.{Taken}
use Rattle.slnf_flight.specs.declared.lanes.Taken.TheVariants.{Seen, Bad}
use Rattle.slnf_flight.specs.declared.lanes.Lane.{Lane}
use Rattle.slnf_flight.specs.Lanes.{packet_at}
use Rattle.slnf_flight.specs.Begins.{begins_with}
use Rattle.slnf_flight.specs.LbPlan.{active_in}
use Rattle.slnf_flight.specs.Actors.{instance_actor, sweep_actors, era_of_epoch, eras_of}
use Rattle.slnf_flight.specs.declared.flights.AnyFlight.TheVariants.{Nat as NatFlies, Firewall as FwFlies, Balancer as LbFlies}
use Rattle.slnf_run.specs.Cases.{start_as}
use Rattle.slnf_flight.specs.Begins.{no_sweeps}
use Rattle.slnf_nat.specs.Starts.{nat_starts, sweep_item}
use Rattle.slnf_flight.specs.NatPlan.{nat_sweeps}
use Rattle.slnf_flight.specs.FwPlan.{policy_with, fw_starts}
use Rattle.slnf_flight.specs.LbPlan.{lb_starts}
use Rattle.slnf_flight.specs.PlanSetting.{scene_of, setting_of}
use Rattle.slnf_flight.specs.AnyFunction.{any_machine, any_starts}
use Rattle.slnf_setting.proofs.AtActor.{era_at, own_base_is, begins_at}

-- each incarnation has the plan's machine
machine_by : (f : FunctionPlan) (epochs : List Epoch) (lanes : List Lane) (i : ℕ)
    → (scene_of f epochs lanes).machine i ≡ any_machine f
machine_by (Nat pool) epochs lanes i = refl
machine_by (Firewall inside rules) epochs lanes i = refl
machine_by (Balancer service) epochs lanes i = refl

pub machine_is : (plan : Plan) (lanes : List Lane) (i : ℕ)
    → (setting_of plan lanes).scene.machine i ≡ any_machine plan.function
machine_is plan lanes i = machine_by plan.function plan.epochs lanes i

-- a captured packet of a case begins as the case's starts say
taken_as : {F G : Type 0} (into : F → G) (starts : Packet → Start F) (taken : Option Taken)
    → stand_as into (begins_with starts taken) ≡ begins_with (λ packet. start_as into (starts packet)) taken
taken_as into starts None = refl
taken_as into starts (Some (Bad reason)) = refl
taken_as into starts (Some (Seen packet)) = go (starts packet)
  where
    go : (start : Start _) → stand_as into (stand_of_start start) ≡ stand_of_start (start_as into start)
    go (StartGo flight) = refl
    go (StartOver reason) = refl

module _ (epochs : List Epoch) (lanes : List Lane) (number : ℕ) (epoch : Epoch)
    (at : slice_get epochs number ≡ Some epoch) where
  era_there : slice_get (eras_of epochs) number ≡ Some (era_of_epoch epoch)
  era_there = slice_get-map era_of_epoch epochs number
      ∙ ap (λ (o : Option Epoch). elim o [ None ↦ None | Some x ↦ Some (era_of_epoch x) ]) at

  instance_there : (k : ℕ) (i : InstancePlan) → slice_get epoch.instances k ≡ Some i
      → slice_get (era_of_epoch epoch).actors k ≡ Some (instance_actor i)
  instance_there k i there = front epoch.instances k there
    where
      front : (instances : List InstancePlan) (k : ℕ) → slice_get instances k ≡ Some i
          → slice_get (map instance_actor instances ++ sweep_actors epoch.sweep) k ≡ Some (instance_actor i)
      front [] k h = absurd (cc)
      front (x ∷ instances) zero h = ap (λ (o : Option InstancePlan). elim o [
        | None ↦ None
        | Some y ↦ Some
            (instance_actor y)
      ]) h
      front (x ∷ instances) (suc k) h = front instances k h

  instance_by : (f : FunctionPlan) (k : ℕ) (i : InstancePlan) (item : ℕ) → slice_get epoch.instances k ≡ Some i
      → (scene_of f epochs lanes).begins (base_of (eras_of epochs) number + k) item
      ≡ begins_with (any_starts f (Some epoch) (base_of (eras_of epochs) number + k) item)
      (packet_at lanes item (Some i.lane))
  instance_by (Nat pool) k i item there =
      let eras : List Era = eras_of epochs in
      ap (stand_as NatFlies) (begins_at eras number k (era_of_epoch epoch) (instance_actor i) era_there
      (instance_there k i there) lanes (nat_starts pool) (nat_sweeps pool eras) item)
      ∙ taken_as NatFlies (nat_starts pool (base_of eras number + k) item) (packet_at lanes item (Some i.lane))
  instance_by (Firewall inside rules) k i item there =
      let eras : List Era = eras_of epochs in
      ap (stand_as FwFlies) (begins_at eras number k (era_of_epoch epoch) (instance_actor i) era_there
      (instance_there k i there) lanes (fw_starts (policy_with inside rules)) no_sweeps item)
      ∙ taken_as FwFlies (fw_starts (policy_with inside rules) (base_of eras number + k) item)
      (packet_at lanes item (Some i.lane))
  instance_by (Balancer service) k i item there =
      let eras : List Era = eras_of epochs in
      let own : era_of eras (base_of eras number + k)
      ≡ number = era_at eras number k (era_of_epoch epoch) era_there
      (slice_get_within (era_of_epoch epoch).actors k (instance_actor i) (instance_there k i there)) in
      ap (stand_as LbFlies) (begins_at eras number k (era_of_epoch epoch) (instance_actor i) era_there
      (instance_there k i there) lanes (lb_starts service epochs) no_sweeps item)
      ∙ taken_as LbFlies (lb_starts service epochs (base_of eras number + k) item)
      (packet_at lanes item (Some i.lane))
      ∙ ap (λ (o : Option Epoch). begins_with (λ packet. start_as LbFlies
      (lb_begins service (active_in service o) (base_of eras number + k) item packet))
      (packet_at lanes item (Some i.lane))) (ap (slice_get epochs) own ∙ at)

  -- the sweep stands behind the instances
  sweep_there : (stop : Option ℕ) → epoch.sweep ≡ Yes stop
      → slice_get (era_of_epoch epoch).actors (length epoch.instances)
      ≡ Some (let a : Actor = record { lane = None; quota = None; stop = stop } in a)
  sweep_there stop is = behind epoch.instances ∙ ap (λ (s : SweepPlan). slice_get (sweep_actors s) 0) is
    where
      behind : (instances : List InstancePlan) → slice_get (map instance_actor instances ++ sweep_actors epoch.sweep)
          (length instances) ≡ slice_get (sweep_actors epoch.sweep) 0
      behind [] = refl
      behind (x ∷ instances) = behind instances

  pub sweep_by : (pool : Pool) (stop : Option ℕ) (item : ℕ) → epoch.sweep ≡ Yes stop
      → (scene_of (Nat pool) epochs lanes).begins (base_of (eras_of epochs) number + length epoch.instances) item
      ≡ stand_as NatFlies (sweep_item pool (base_of (eras_of epochs) number) item)
  sweep_by pool stop item is =
      let eras : List Era = eras_of epochs in
      let actor : Actor = record { lane = None; quota = None; stop = stop } in
      ap (stand_as NatFlies)
      (begins_at eras number (length epoch.instances) (era_of_epoch epoch) actor era_there (sweep_there stop is) lanes
      (nat_starts pool) (nat_sweeps pool eras) item
      ∙ ap (λ base. sweep_item pool base item) (own_base_is eras number (length epoch.instances)
      (era_of_epoch epoch) actor era_there (sweep_there stop is)))

-- An instance's packet begins as it was captured, and as the plan's function starts it in the instance's epoch.
pub instance_begins : (plan : Plan) (lanes : List Lane) (number k item : ℕ) (epoch : Epoch) (i : InstancePlan)
    → slice_get plan.epochs number ≡ Some epoch → slice_get epoch.instances k ≡ Some i
    → (setting_of plan lanes).scene.begins (base_of (eras_of plan.epochs) number + k) item
    ≡ begins_with (any_starts plan.function (Some epoch) (base_of (eras_of plan.epochs) number + k) item)
    (packet_at lanes item (Some i.lane))
instance_begins plan lanes number k item epoch i at there =
    instance_by plan.epochs lanes number epoch at plan.function k i item there

-- A sweep's item begins as a port of the pool, with the base of its epoch.
pub sweep_begins : (plan : Plan) (lanes : List Lane) (number item : ℕ) (epoch : Epoch) (pool : Pool)
    (stop : Option ℕ) → plan.function ≡ Nat pool → slice_get plan.epochs number ≡ Some epoch → epoch.sweep ≡ Yes stop
    → (setting_of plan lanes).scene.begins (base_of (eras_of plan.epochs) number + length epoch.instances) item
    ≡ stand_as NatFlies (sweep_item pool (base_of (eras_of plan.epochs) number) item)
sweep_begins plan lanes number item epoch pool stop is at sweep =
    ap (λ f. (scene_of f plan.epochs lanes).begins
    (base_of (eras_of plan.epochs) number + length epoch.instances) item) is
    ∙ sweep_by plan.epochs lanes number epoch at pool stop item sweep
