-- The job that an epoch's actor is hired for is its incarnation's.
use Rattle.std.proofs.Common.{◌≡◌, inl, inr, ℕ, suc, zero, ◌+◌, ◌-◌, ◌*◌, Option, Some, None, List, [], ◌∷◌, length, map, slice_get, slice_index, refl, sym, ap, ap₂, ◌∙◌, subst, arith}
use Rattle.std.proofs.Math.Path.{fun_ext}
use Rattle.std.proofs.lemmas.List.{length-map}
use Rattle.std.proofs.lemmas.Option.{same_Some}
use Rattle.slnf_base.specs.declared.packets.Packet.{Packet}
use Rattle.slnf_base.specs.declared.plans.Pool.{Pool}
use Rattle.slnf_access.specs.Machines.{Machine, Stand}
use Rattle.slnf_plan.specs.declared.plan.FunctionPlan.TheVariants.{Nat}
use Rattle.slnf_plan.specs.declared.plan.Epoch.{Epoch}
use Rattle.slnf_plan.specs.declared.plan.InstancePlan.{InstancePlan}
use Rattle.slnf_plan.specs.declared.plan.SweepPlan.{SweepPlan}
use Rattle.slnf_plan.specs.declared.plan.SweepPlan.TheVariants.{No, Yes}
use Rattle.slnf_plan.specs.declared.plan.Plan.{Plan}
use Rattle.slnf_run.specs.Images.{stand_as}
use Rattle.slnf_run.specs.Setting.{Actor, Setting, base_of}
use Rattle.slnf_run.specs.Jobs.{Job, job_of, within_quota}
use Rattle.slnf_run.specs.Parts.{at_lane}
use Rattle.slnf_run.proofs.LanePosts.{slice_get_either, slice_get_of_map}
use Rattle.slnf_box.specs.Pools.{port_count}
use Rattle.slnf_nat.specs.Starts.{sweep_item}
use Rattle.slnf_instance.specs.Items.{Workload}
use Rattle.slnf_instance.specs.Errands.{job_in}
use Rattle.slnf_flight.specs.declared.lanes.Lane.{Lane}
use Rattle.slnf_flight.specs.declared.lanes.Taken.{Taken}
use Rattle.slnf_flight.specs.declared.flights.AnyFlight.{AnyFlight}
use Rattle.slnf_flight.specs.declared.flights.AnyFlight.TheVariants.{Nat as NatFlies}
use Rattle.slnf_flight.specs.declared.functions.AnyFunction.{AnyFunction}
use Rattle.slnf_flight.specs.declared.functions.AnyFunction.TheVariants.{Nat as AnyNat, Firewall as AnyFirewall, Balancer as AnyBalancer}
use Rattle.slnf_flight.specs.Actors.{instance_actor, sweep_actors, era_of_epoch, eras_of}
use Rattle.slnf_flight.specs.AnyFunction.{any_machine, any_starts}
use Rattle.slnf_flight.specs.Flights.{Arrival}
use Rattle.slnf_flight.specs.Begins.{begins_with}
use Rattle.slnf_flight.specs.Functions.{any_behaviour, IsFunctionOf}
use Rattle.slnf_flight.specs.Lanes.{or_no_packets, packets_on, lane_sizes, packet_at}
use Rattle.slnf_flight.specs.PlanSetting.{setting_of, sweep_items_of}
use Rattle.slnf_crew.specs.Errands.{IsSweepWork, IsWorkOn, errand_of}
use Rattle.slnf_crew.specs.FunctionMachine.{function_machine}
use Rattle.slnf_crew.specs.Items.{packets_work}
use Rattle.slnf_crew.proofs.Functions.{machine_is, nat_is}

-- how many packets a lane has
pub lane_size : (lanes : List Lane) (lane : ℕ) → slice_index (lane_sizes lanes) lane ≡ length (packets_on lanes lane)
lane_size [] lane = refl
lane_size (l ∷ lanes) zero = refl
lane_size (l ∷ lanes) (suc lane) = lane_size lanes lane

-- the packet with this number of a lane
packet_there : (item : ℕ) (o : Option Lane) → slice_get (or_no_packets o) item
    ≡ elim o [ None ↦ None | Some there ↦ slice_get there.packets item ]
packet_there item None = refl
packet_there item (Some lane) = refl

-- a job by its parts
abbrev job_with : {F : Type 0} → Machine F → (ℕ → Stand F) → (shards batch at count : ℕ) → Option ℕ → Job F
job_with machine begins shards batch at count stop = record {
  machine = machine;
  begins = begins;
  shards = shards;
  batch = batch;
  at = at;
  count = count;
  stop = stop;
}

back : (x y : ℕ) → x + y - x ≡ y
back x y = omega arith

-- What the laws of a plan's setting say of its epoch with this number.
pub record HasEpoch (plan : Plan) (lanes : List Lane) (number base : ℕ) (epoch : Epoch) (function : AnyFunction)
    : Type 0 where
  pub at : slice_get plan.epochs number ≡ Some epoch
  pub base_is : base ≡ base_of (eras_of plan.epochs) number
  pub of_plan : IsFunctionOf plan.function (Some epoch) function
  pub machine : (i : ℕ) → (setting_of plan lanes).scene.machine i ≡ any_machine plan.function
  pub starts : (i item : ℕ) (packet : Packet) → (any_behaviour function).begins i item packet
      ≡ any_starts plan.function (Some epoch) i item packet
  pub instances : (k item : ℕ) (i : InstancePlan) → slice_get epoch.instances k ≡ Some i →
      (setting_of plan lanes).scene.begins (base + k) item
      ≡ begins_with (any_starts plan.function (Some epoch) (base + k) item) (packet_at lanes item (Some i.lane))
  pub sweep : (item : ℕ) (pool : Pool) (stop : Option ℕ) → plan.function ≡ Nat pool → epoch.sweep ≡ Yes stop →
      (setting_of plan lanes).scene.begins (base + length epoch.instances) item
      ≡ stand_as NatFlies (sweep_item pool base item)

-- The same by the number of the epoch's first incarnation, as the laws say it.
pub has_epoch : (plan : Plan) (lanes : List Lane) (number base : ℕ) (epoch : Epoch) (function : AnyFunction) →
    slice_get plan.epochs number ≡ Some epoch → base ≡ base_of (eras_of plan.epochs) number →
    IsFunctionOf plan.function (slice_get plan.epochs number) function →
    ((i : ℕ) → (setting_of plan lanes).scene.machine i ≡ any_machine plan.function) →
    ((o : Option Epoch) → IsFunctionOf plan.function o function → (i item : ℕ) (packet : Packet) →
    (any_behaviour function).begins i item packet ≡ any_starts plan.function o i item packet) →
    ((k item : ℕ) (i : InstancePlan) → slice_get epoch.instances k ≡ Some i →
    (setting_of plan lanes).scene.begins (base_of (eras_of plan.epochs) number + k) item
    ≡ begins_with (any_starts plan.function (Some epoch) (base_of (eras_of plan.epochs) number + k) item)
    (packet_at lanes item (Some i.lane))) →
    ((item : ℕ) (pool : Pool) (stop : Option ℕ) → plan.function ≡ Nat pool → epoch.sweep ≡ Yes stop →
    (setting_of plan lanes).scene.begins (base_of (eras_of plan.epochs) number + length epoch.instances) item
    ≡ stand_as NatFlies (sweep_item pool (base_of (eras_of plan.epochs) number) item)) →
    HasEpoch plan lanes number base epoch function
has_epoch plan lanes number base epoch function at from of machine starts instances sweep =
    let own : IsFunctionOf plan.function (Some epoch) function =
    subst (λ o. IsFunctionOf plan.function o function) at of in
    record {
      at = at;
      base_is = from;
      of_plan = own;
      machine = machine;
      starts = starts (Some epoch) own;
      instances = λ k item i there.
          subst (λ b. (setting_of plan lanes).scene.begins (b + k) item
          ≡ begins_with (any_starts plan.function (Some epoch) (b + k) item) (packet_at lanes item (Some i.lane)))
          (sym from) (instances k item i there);
      sweep = λ item pool stop is sweeps.
          subst (λ b. (setting_of plan lanes).scene.begins (b + length epoch.instances) item
          ≡ stand_as NatFlies (sweep_item pool b item)) (sym from) (sweep item pool stop is sweeps);
    }

-- the actor of a sweep
abbrev sweep_actor : Option ℕ → Actor
sweep_actor stop = record { lane = None; quota = None; stop = stop }

-- the sweep's actor is the one behind the instances
sweep_there : (sweep : SweepPlan) (k : ℕ) (actor : Actor) → slice_get (sweep_actors sweep) k ≡ Some actor →
    (k ≡ 0) × (stop : Option ℕ) × (sweep ≡ Yes stop) × (sweep_actor stop ≡ actor)
sweep_there No k actor h = absurd (cc)
sweep_there (Yes stop) zero actor h = (refl, stop, refl, same_Some (sweep_actor stop) actor h)
sweep_there (Yes stop) (suc k) actor h = absurd (cc)

module _ (plan : Plan) (lanes : List Lane) (number base : ℕ) (epoch : Epoch) (function : AnyFunction)
    (places : ℕ → ℕ) (h : HasEpoch plan lanes number base epoch function) where
  -- an instance's job
  instance_job : (k : ℕ) (i : InstancePlan) → slice_get epoch.instances k ≡ Some i →
      job_in (packets_work function (packets_on lanes i.lane) (base + k))
      (errand_of plan places (instance_actor i) (length (packets_on lanes i.lane)))
      ≡ job_of (setting_of plan lanes) (base + k) (places i.lane) (instance_actor i)
  instance_job k i there =
      let s : Setting AnyFlight Arrival = setting_of plan lanes in
      let packets : List Taken = packets_on lanes i.lane in
      let machine : function_machine function ≡ s.scene.machine (base + k) =
      sym (h.machine (base + k) ∙ machine_is plan.function (Some epoch) function h.of_plan) in
      let begins : (item : ℕ) → begins_with ((any_behaviour function).begins (base + k) item) (slice_get packets item)
      ≡ s.scene.begins (base + k) item = λ item.
      ap (λ start. begins_with start (slice_get packets item)) (fun_ext (h.starts (base + k) item))
      ∙ (ap (begins_with (any_starts plan.function (Some epoch) (base + k) item))
      (packet_there item (slice_get lanes i.lane))
      ∙ sym (h.instances k item i there)) in
      let count : within_quota i.quota (length packets - places i.lane)
      ≡ within_quota i.quota (slice_index (lane_sizes lanes) i.lane - places i.lane) =
      ap (λ n. within_quota i.quota (n - places i.lane)) (sym (lane_size lanes i.lane)) in
      ap₂ (λ m b. job_with m b plan.shards plan.batch (places i.lane)
      (places i.lane + within_quota i.quota (length packets - places i.lane) - places i.lane) i.stop)
      machine (fun_ext begins)
      ∙ ap (λ n. job_with (s.scene.machine (base + k)) (s.scene.begins (base + k)) plan.shards plan.batch
      (places i.lane) n i.stop) (back (places i.lane) (within_quota i.quota (length packets - places i.lane)) ∙ count)

  -- a sweep's job
  sweep_job : (stop : Option ℕ) (work : Workload AnyFlight) → epoch.sweep ≡ Yes stop →
      (f : AnyFunction) → function ≡ f → IsSweepWork f base work →
      job_in work (errand_of plan places (sweep_actor stop) work.count)
      ≡ job_of (setting_of plan lanes) (base + length epoch.instances) 0 (sweep_actor stop)
  sweep_job stop work sweeps (AnyNat nat) is works =
      let s : Setting AnyFlight Arrival = setting_of plan lanes in
      let i : ℕ = base + length epoch.instances in
      let own : plan.function ≡ Nat nat.pool =
      nat_is plan.function (Some epoch) nat (subst (IsFunctionOf plan.function (Some epoch)) is h.of_plan) in
      let machine : function_machine (AnyNat nat) ≡ s.scene.machine i =
      ap function_machine (sym is)
      ∙ sym (h.machine i ∙ machine_is plan.function (Some epoch) function h.of_plan) in
      let begins : (item : ℕ) → stand_as NatFlies (sweep_item nat.pool base item) ≡ s.scene.begins i item =
      λ item. sym (h.sweep item nat.pool stop own sweeps) in
      let count : 0 + (2 * port_count nat.pool - 0) - 0 ≡ 2 * port_count nat.pool = omega arith in
      let items : 2 * port_count nat.pool ≡ sweep_items_of plan.function = ap sweep_items_of (sym own) in
      ap (λ (w : Workload AnyFlight). job_in w (errand_of plan places (sweep_actor stop) w.count)) works
      ∙ (ap₂ (λ m b. job_with m b plan.shards 1 0 (0 + (2 * port_count nat.pool - 0) - 0) stop)
      machine (fun_ext begins)
      ∙ ap (λ n. job_with (s.scene.machine i) (s.scene.begins i) plan.shards 1 0 n stop) (count ∙ items))
  sweep_job stop work sweeps (AnyFirewall fw) is works = absurd works
  sweep_job stop work sweeps (AnyBalancer lb) is works = absurd works

  -- each actor's job
  pub hired_job : (k : ℕ) (actor : Actor) (work : Workload AnyFlight) →
      slice_get (era_of_epoch epoch).actors k ≡ Some actor →
      IsWorkOn function lanes base (base + k) actor.lane work →
      job_in work (errand_of plan places actor work.count)
      ≡ job_of (setting_of plan lanes) (base + k) (at_lane places actor) actor
  hired_job k actor work at works =
      elim (slice_get_either (map instance_actor epoch.instances) (sweep_actors epoch.sweep) k actor at) [
        | inl here ↦
            let r : (i : InstancePlan) × (slice_get epoch.instances k ≡ Some i) × (instance_actor i ≡ actor) =
            slice_get_of_map instance_actor epoch.instances k actor here in
            let i : InstancePlan = r.0 in
            let mine : work ≡ packets_work function (packets_on lanes i.lane) (base + k) =
            subst (λ (a : Actor). IsWorkOn function lanes base (base + k) a.lane work) (sym r.2) works in
            ap (λ (w : Workload AnyFlight). job_in w (errand_of plan places actor w.count)) mine
            ∙ subst (λ (a : Actor). job_in (packets_work function (packets_on lanes i.lane) (base + k))
            (errand_of plan places a (length (packets_on lanes i.lane)))
            ≡ job_of (setting_of plan lanes) (base + k) (at_lane places a) a) r.2 (instance_job k i r.1)
        | inr there ↦
            let count : length (map instance_actor epoch.instances) ≡ length epoch.instances =
            length-map epoch.instances instance_actor in
            let r : (there.0 ≡ 0) × (stop : Option ℕ) × (epoch.sweep ≡ Yes stop) × (sweep_actor stop ≡ actor) =
            sweep_there epoch.sweep there.0 actor there.2 in
            let first : there.0 ≡ 0 = r.0 in
            let place : k ≡ length (map instance_actor epoch.instances) + there.0 = there.1 in
            let last : length epoch.instances ≡ k = omega arith in
            let mine : IsSweepWork function base work =
            subst (λ (a : Actor). IsWorkOn function lanes base (base + k) a.lane work) (sym r.3) works in
            subst (λ (a : Actor). job_in work (errand_of plan places a work.count)
            ≡ job_of (setting_of plan lanes) (base + k) (at_lane places a) a) r.3
            (subst (λ n. job_in work (errand_of plan places (sweep_actor r.1) work.count)
            ≡ job_of (setting_of plan lanes) (base + n) 0 (sweep_actor r.1)) last
            (sweep_job r.1 work r.2 function refl mine))
      ]
