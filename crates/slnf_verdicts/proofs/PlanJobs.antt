-- What an instance's task gives is what its job in the plan's setting gives.
use Rattle.std.proofs.Common.{◌≡◌, ℕ, ◌+◌, ◌-◌, Option, Some, None, List, [], ◌∷◌, length, map, slice_get, slice_index, zero, suc, refl, sym, ap, ◌∙◌, subst}
use Rattle.std.specs.List.{range_with_len}
use Rattle.std.specs.Option.{option_and_then}
use Rattle.slnf_access.specs.declared.requests.Entry.{Entry}
use Rattle.slnf_access.specs.Machines.{Machine, machine_of, Stand, stand_after, IsPath}
use Rattle.slnf_plan.specs.declared.plan.Epoch.{Epoch}
use Rattle.slnf_plan.specs.declared.plan.InstancePlan.{InstancePlan}
use Rattle.slnf_plan.specs.declared.plan.Plan.{Plan}
use Rattle.slnf_run.specs.Setting.{Setting, base_of}
use Rattle.slnf_run.specs.Jobs.{of_item, within_quota, counted, verdict_at, batched, first_key_of, taken_from, is_stop, job_of}
use Rattle.slnf_flight.specs.declared.flights.AnyFlight.{AnyFlight}
use Rattle.slnf_flight.specs.declared.functions.AnyFunction.{AnyFunction}
use Rattle.slnf_flight.specs.declared.lanes.Lane.{Lane}
use Rattle.slnf_flight.specs.declared.lanes.Taken.{Taken}
use Rattle.slnf_flight.specs.Actors.{instance_actor, eras_of}
use Rattle.slnf_flight.specs.AnyFunction.{any_starts}
use Rattle.slnf_flight.specs.Begins.{begins_with}
use Rattle.slnf_flight.specs.Flights.{Arrival}
use Rattle.slnf_flight.specs.Functions.{any_behaviour, IsFunctionOf}
use Rattle.slnf_flight.specs.Lanes.{or_no_packets, packets_on, packet_at, lane_sizes}
use Rattle.slnf_flight.specs.PlanSetting.{setting_of}
use Rattle.slnf_flight.proofs.Laws.{begins_are_plans}
use Rattle.slnf_setting.proofs.PlanBegins.{machine_is, instance_begins}
use Rattle.slnf_verdicts.specs.declared.tasks.Task.{Task}
use Rattle.slnf_verdicts.specs.Batches.{job_over}
use Rattle.slnf_verdicts.specs.Given.{verdicts_in}
use Rattle.slnf_verdicts.specs.Standings.{begun_of, IsFollowed}
use Rattle.slnf_verdicts.proofs.PlanStands.{begun_packet, after_same, path_same, first_same}

-- a packet of a lane
packet_there : (lanes : List Lane) (lane number : ℕ) →
    slice_get (packets_on lanes lane) number ≡ packet_at lanes number (Some lane)
packet_there lanes lane number = go (slice_get lanes lane)
  where
    go : (there : Option Lane) → slice_get (or_no_packets there) number
        ≡ option_and_then (λ (there : Lane). slice_get there.packets number) there
    go None = refl
    go (Some there) = refl

-- how many packets a lane has
pub size_there : (lanes : List Lane) (lane : ℕ) → slice_index (lane_sizes lanes) lane
    ≡ length (packets_on lanes lane)
size_there [] lane = refl
size_there (there ∷ lanes) zero = refl
size_there (there ∷ lanes) (suc lane) = size_there lanes lane

module _ (plan : Plan) (lanes : List Lane) (epoch incarnation : ℕ) (instance : InstancePlan) (function : AnyFunction)
    (packets : List Taken) (of : IsFunctionOf plan.function (slice_get plan.epochs epoch) function)
    (own : packets ≡ packets_on lanes instance.lane)
    (begins : (item : ℕ) → (setting_of plan lanes).scene.begins incarnation item
    ≡ begins_with (any_starts plan.function (slice_get plan.epochs epoch) incarnation item)
    (packet_at lanes item (Some instance.lane))) where
  -- the setting, its machine, the function's machine, and how packets begin by either
  abbrev s : Setting AnyFlight Arrival
  s = setting_of plan lanes

  abbrev mine : Machine AnyFlight
  mine = machine_of (any_behaviour function)

  abbrev begun : ℕ → Stand AnyFlight
  begun = begun_of ((any_behaviour function).begins incarnation) packets

  begun_is : (item : ℕ) → begun item ≡ s.scene.begins incarnation item
  begun_is item =
      begins_are_plans plan.function (slice_get plan.epochs epoch) function of incarnation item
      (slice_get packets item)
      ∙ ap (λ l. begins_with (any_starts plan.function (slice_get plan.epochs epoch) incarnation item)
      (slice_get l item)) own
      ∙ ap (begins_with (any_starts plan.function (slice_get plan.epochs epoch) incarnation item))
      (packet_there lanes instance.lane item)
      ∙ sym (begins item)

  -- the function follows what the plan's machine follows
  pub followed_own : (part : List Entry) →
      IsFollowed (s.scene.machine incarnation) (s.scene.begins incarnation) part → IsFollowed mine begun part
  followed_own part h = record {
    paths = λ item.
        path_same plan.function (slice_get plan.epochs epoch) function of (begun item) (of_item item part)
        (begun_packet plan.function (slice_get plan.epochs epoch) function of incarnation item
        (slice_get packets item))
        (subst (λ m. IsPath m (begun item) (of_item item part)) (machine_is plan lanes incarnation)
        (subst (λ stand. IsPath (s.scene.machine incarnation) stand (of_item item part)) (sym (begun_is item))
        (h.paths item)));
    replies = h.replies;
  }

  stood_same : (es : List Entry) (item : ℕ) → stand_after mine (begun item) es
      ≡ stand_after (s.scene.machine incarnation) (s.scene.begins incarnation item) es
  stood_same es item =
      after_same plan.function (slice_get plan.epochs epoch) function of (begun item) es
      (begun_packet plan.function (slice_get plan.epochs epoch) function of incarnation item (slice_get packets item))
      ∙ ap (λ m. stand_after m (begun item) es) (sym (machine_is plan lanes incarnation))
      ∙ ap (λ stand. stand_after (s.scene.machine incarnation) stand es) (begun_is item)

  key_same : (item : ℕ) → first_key_of mine (begun item)
      ≡ first_key_of (s.scene.machine incarnation) (s.scene.begins incarnation item)
  key_same item =
      first_same plan.function (slice_get plan.epochs epoch) function of (begun item)
      ∙ ap (λ m. first_key_of m (begun item)) (sym (machine_is plan lanes incarnation))
      ∙ ap (first_key_of (s.scene.machine incarnation)) (begun_is item)

  -- the first keys, and where packets stand, by the function and by the plan's machine
  abbrev own_keys : ℕ → Option ℕ
  own_keys item = first_key_of mine (begun item)

  abbrev plan_keys : ℕ → Option ℕ
  plan_keys item = first_key_of (s.scene.machine incarnation) (s.scene.begins incarnation item)

  keys_same : own_keys ≡ plan_keys
  keys_same = λ i item. key_same item i

  abbrev own_stands : List Entry → ℕ → Stand AnyFlight
  own_stands es item = stand_after mine (begun item) es

  abbrev plan_stands : List Entry → ℕ → Stand AnyFlight
  plan_stands es item = stand_after (s.scene.machine incarnation) (s.scene.begins incarnation item) es

  stands_same : own_stands ≡ plan_stands
  stands_same = λ i es item. stood_same es item i

  -- the task's verdicts are the job's
  pub verdicts_same : (task : Task) (at : ℕ) (part : List Entry) → task.at ≡ at → task.batch ≡ plan.batch →
      task.stop ≡ instance.stop → task.count ≡ within_quota instance.quota (length packets - at) →
      verdicts_in (job_over mine begun task) part
      ≡ verdicts_in (job_of s incarnation at (instance_actor instance)) part
  verdicts_same task at part from batch stop count =
      let sized : task.count ≡ within_quota instance.quota (slice_index (lane_sizes lanes) instance.lane - at) =
      count ∙ ap (λ n. within_quota instance.quota (n - at))
      (ap length own ∙ sym (size_there lanes instance.lane)) in
      let given = λ (first : ℕ → Option ℕ) (stop : Option ℕ) (batch at count : ℕ)
      (stand : List Entry → ℕ → Stand AnyFlight).
      map (λ item. verdict_at (stand (of_item item (counted (is_stop stop (length part)) part)) item))
      (range_with_len at (length (taken_from stop part (batched batch first 0 0 [] (range_with_len at count))))) in
      ap (λ first. given first task.stop task.batch task.at task.count own_stands) keys_same
      ∙ ap (given plan_keys task.stop task.batch task.at task.count) stands_same
      ∙ ap (λ k. given plan_keys k task.batch task.at task.count plan_stands) stop
      ∙ ap (λ k. given plan_keys instance.stop k task.at task.count plan_stands) batch
      ∙ ap (λ k. given plan_keys instance.stop plan.batch k task.count plan_stands) from
      ∙ ap (λ k. given plan_keys instance.stop plan.batch at k plan_stands) sized

-- how an instance's packets begin, by its place in its epoch
pub begins_there : (plan : Plan) (lanes : List Lane) (number base k item : ℕ) (epoch : Epoch)
    (instance : InstancePlan) →
    base ≡ base_of (eras_of plan.epochs) number → slice_get plan.epochs number ≡ Some epoch →
    slice_get epoch.instances k ≡ Some instance →
    (setting_of plan lanes).scene.begins (base + k) item
    ≡ begins_with (any_starts plan.function (slice_get plan.epochs number) (base + k) item)
    (packet_at lanes item (Some instance.lane))
begins_there plan lanes number base k item epoch instance from at there =
    subst (λ b. (setting_of plan lanes).scene.begins (b + k) item
    ≡ begins_with (any_starts plan.function (slice_get plan.epochs number) (b + k) item)
    (packet_at lanes item (Some instance.lane))) (sym from)
    (instance_begins plan lanes number k item epoch instance at there
    ∙ ap (λ o. begins_with (any_starts plan.function o (base_of (eras_of plan.epochs) number + k) item)
    (packet_at lanes item (Some instance.lane))) (sym at))
