-- A load leaves no packet: each of its lanes has an instance that takes all of it.
use Rattle.std.proofs.Common.{◌≡◌, inl, inr, ℕ, zero, suc, ◌+◌, ◌-◌, ◌<◌, ◌≤◌, Option, None, if◌then◌else◌, List, [], ◌∷◌, ◌++◌, length, map, slice_index, refl, ap, sym, ◌∙◌, subst, zero-add, add-zero, arith}
use Rattle.std.specs.List.{range_with_len}
use Rattle.std.proofs.lemmas.Bool.{cond-true, eq-eqb, cases_lt}
use Rattle.std.proofs.lemmas.List.{length-map}
use Rattle.std.proofs.lemmas.List.FromFn.{length-range_with_len}
use Rattle.slnf_access.specs.declared.requests.Entry.{Entry}
use Rattle.slnf_plan.specs.declared.plan.FunctionPlan.{FunctionPlan}
use Rattle.slnf_plan.specs.declared.plan.FunctionPlan.TheVariants.{Nat, Firewall, Balancer}
use Rattle.slnf_plan.specs.declared.plan.Plan.{Plan}
use Rattle.slnf_plan.specs.declared.plan.InstancePlan.{InstancePlan}
use Rattle.slnf_plan.specs.Plain.{PlainPlan, plain}
use Rattle.slnf_gen.specs.Plan.{plan_told}
use Rattle.slnf_run.specs.Setting.{Actor, Era, Setting, is_on}
use Rattle.slnf_run.specs.Jobs.{Offer, batched, first_key_of}
use Rattle.slnf_run.specs.Parts.{part_of, offers_of, taken_of, at_lane, taken_on}
use Rattle.slnf_run.specs.Verdicts.{left_in}
use Rattle.slnf_run.specs.OneBox.{come_in_all, come_after, behind_from, IsFront}
use Rattle.slnf_run.proofs.OfferRows.{items_batched}
use Rattle.slnf_flight.specs.declared.lanes.Lane.{Lane}
use Rattle.slnf_flight.specs.declared.flights.AnyFlight.{AnyFlight}
use Rattle.slnf_flight.specs.Actors.{instance_actor, eras_of}
use Rattle.slnf_flight.specs.Flights.{Arrival}
use Rattle.slnf_flight.specs.PlanSetting.{setting_of}
use Rattle.slnf_setting.specs.OneBoxOfPlan.{IsOneBoxBy}
use Rattle.slnf_top.specs.Written.{Order, IsExplained, verdicts_in}

-- an instance of a lane that takes all, as a plan has it and as an actor
abbrev whole_instance : ℕ → InstancePlan
whole_instance lane = record { lane = lane; quota = None; stop = None }

abbrev whole_actor : ℕ → Actor
whole_actor lane = instance_actor (whole_instance lane)

-- one for each lane from this one on
abbrev whole_actors : ℕ → ℕ → List Actor
whole_actors first count = map instance_actor (map whole_instance (range_with_len first count)) ++ []

abbrev from_front : ℕ → ℕ
from_front lane = 0

module _ {F A : Type 0} (s : Setting F A) (es : List Entry) where
  -- what it takes of its lane
  abbrev took : ℕ → ℕ → ℕ
  took i lane =
      length (taken_of (whole_actor lane) (part_of i es) (offers_of s i (at_lane from_front (whole_actor lane))
      (whole_actor lane)))

  -- all
  took_whole : (i lane : ℕ) → slice_index s.lanes lane ≤ took i lane
  took_whole i lane =
      let first : ℕ → Option ℕ = λ item. first_key_of (s.scene.machine i) (s.scene.begins i item) in
      let count : ℕ = slice_index s.lanes lane - 0 in
      let offers : List Offer = batched s.batch first 0 0 [] (range_with_len 0 count) in
      let size : length offers ≡ count =
      sym (length-map offers (λ offer. offer.item))
      ∙ ap length (items_batched s.batch first 0 0 [] (range_with_len 0 count)) ∙ length-range_with_len 0 count in
      omega arith

  -- so each of these lanes is taken whole
  all_taken : (lane count first i : ℕ) → first ≤ lane → lane < first + count →
      slice_index s.lanes lane ≤ taken_on s es i from_front lane (whole_actors first count)
  all_taken lane zero first i from upto = absurd (omega arith)
  all_taken lane (suc count) first i from upto =
      let mine : ℕ = if is_on lane (whole_actor first) then took i first else 0 in
      let others : ℕ = taken_on s es (i + 1) from_front lane (whole_actors (first + 1) count) in
      elim (cases_lt first lane) [
        | inl below ↦
            let rest : slice_index s.lanes lane ≤ others =
            all_taken lane count (first + 1) (i + 1) (omega arith) (omega arith) in
            let all : slice_index s.lanes lane ≤ mine + others = omega arith in
            all
        | inr above ↦
            let same : first ≡ lane = omega arith in
            let on : mine ≡ took i first = cond-true (is_on lane (whole_actor first)) (took i first) 0
            (eq-eqb first lane same) in
            let whole : slice_index s.lanes first ≤ took i first = took_whole i first in
            let here : slice_index s.lanes first ≡ slice_index s.lanes lane = ap (slice_index s.lanes) same in
            let all : slice_index s.lanes lane ≤ mine + others = omega arith in
            all
      ]

  -- nothing is behind what all lanes have come to
  none_behind : (lane : ℕ) (counts : List ℕ) →
      ((k : ℕ) → k < length counts → slice_index counts k ≤ come_in_all s es (lane + k)) →
      behind_from s es lane counts ≡ 0
  none_behind lane [] come = refl
  none_behind lane (count ∷ counts) come =
      let here : count ≤ come_in_all s es (lane + 0) = come 0 (omega arith) in
      let same : come_in_all s es (lane + 0) ≡ come_in_all s es lane = ap (come_in_all s es) (add-zero lane) in
      let rest : behind_from s es (lane + 1) counts ≡ 0 =
      none_behind (lane + 1) counts (λ k below.
      let one : lane + suc k ≡ lane + 1 + k = omega arith in
      subst (λ n. slice_index counts k ≤ come_in_all s es n) one (come (suc k) (omega arith))) in
      let all : (count - come_in_all s es lane) + behind_from s es (lane + 1) counts ≡ 0 = omega arith in
      all

  -- where each lane has an instance that takes all
  none_left_behind : (count : ℕ) → length s.lanes ≡ count →
      s.eras ≡ record { actors = whole_actors 0 count; schedule = [] } ∷ [] → behind_from s es 0 s.lanes ≡ 0
  none_left_behind count size eras =
      none_behind 0 s.lanes (λ k below.
      let come : come_in_all s es (0 + k) ≡ 0 + taken_on s es 0 from_front (0 + k) (whole_actors 0 count) =
      ap (λ (es' : List Era). come_after s es 0 from_front es' (0 + k)) eras in
      let zero_more : 0 + k ≡ k = zero-add k in
      let taken : slice_index s.lanes (0 + k) ≤ taken_on s es 0 from_front (0 + k) (whole_actors 0 count) =
      all_taken (0 + k) count 0 0 (omega arith) (omega arith) in
      let there : slice_index s.lanes (0 + k) ≡ slice_index s.lanes k = ap (slice_index s.lanes) zero_more in
      omega arith)

-- what was taken of each lane, whatever the function is
front_of_function : (function : FunctionPlan) (s : Setting AnyFlight Arrival) (es : List Entry) →
    IsOneBoxBy function s es → IsFront s es
front_of_function (Nat pool) s es h = h.front
front_of_function (Firewall inside rules) s es h = h.front
front_of_function (Balancer service) s es h = h.front

-- A run of a load's plan leaves no packet.
pub none_left : (order : Order) (plan : Plan) (lanes : List Lane) (count : ℕ) (journal : List Entry) →
    plain plan ≡ plan_told count → length lanes ≡ count → IsExplained order plan lanes journal →
    left_in (verdicts_in plan lanes journal) ≡ 0
none_left order plan lanes count journal told size is =
    let s : Setting AnyFlight Arrival = setting_of plan lanes in
    (front_of_function plan.function s journal is.is_run.one_box).left
    ∙ none_left_behind s journal count (length-map lanes (λ lane. length lane.packets) ∙ size)
    (ap (λ (p : PlainPlan). eras_of p.epochs) told)
