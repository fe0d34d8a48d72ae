-- An epoch of a plan, from its first hands to the next epoch.
use Rattle.std.proofs.Common.{◌≡◌, ℕ, ◌+◌, ◌≤◌, Some, None, option_map, List, length, map, take, slice_get, slice_index, sym, ap, ◌∙◌, subst, arith}
use Rattle.std.proofs.lemmas.Option.{slice_get-map}
use Rattle.slnf_access.specs.declared.requests.Entry.{Entry}
use Rattle.slnf_plan.specs.declared.plan.Epoch.{Epoch}
use Rattle.slnf_plan.specs.declared.plan.InstancePlan.{InstancePlan}
use Rattle.slnf_plan.specs.declared.plan.Plan.{Plan}
use Rattle.slnf_run.specs.Setting.{Actor, Era, Setting, base_of}
use Rattle.slnf_run.specs.Jobs.{job_of}
use Rattle.slnf_run.specs.Parts.{at_lane}
use Rattle.slnf_run.specs.OneBox.{HasLanesOnce}
use Rattle.slnf_run.proofs.Lists.{slice_get-append_left}
use Rattle.slnf_instance.specs.Items.{Workload}
use Rattle.slnf_instance.specs.Errands.{job_in}
use Rattle.slnf_flight.specs.declared.flights.AnyFlight.{AnyFlight}
use Rattle.slnf_flight.specs.declared.functions.AnyFunction.{AnyFunction}
use Rattle.slnf_flight.specs.declared.lanes.Lane.{Lane}
use Rattle.slnf_flight.specs.Flights.{Arrival}
use Rattle.slnf_flight.specs.Actors.{instance_actor, sweep_actors, era_of_epoch, eras_of}
use Rattle.slnf_flight.specs.Functions.{IsFunctionOf}
use Rattle.slnf_flight.specs.Lanes.{packets_on}
use Rattle.slnf_flight.specs.PlanSetting.{setting_of}
use Rattle.slnf_crew.specs.declared.items.ActorItems.{ActorItems}
use Rattle.slnf_crew.specs.Errands.{items_work, errand_of, IsWorkOn, AreItemsFor}
use Rattle.slnf_crew.proofs.Laws.{lane_size}
use Rattle.slnf_local.specs.Followers.{actors_in, actors_at, hands_first, Follower, IsFollowed}
use Rattle.slnf_hand.specs.Hands.{Followed}
use Rattle.slnf_follow.specs.declared.epochs.Course.{Course}
use Rattle.slnf_follow.specs.Follows.{come_to, AreHands, AreFirst, at_epoch, Follows, open_from, taken_on, broken_at, IsAtEpoch}
use Rattle.slnf_follow.proofs.Passing.{goes_on}
use Rattle.slnf_follow.proofs.Fitting.{places_fit}
use Rattle.slnf_follow.proofs.Hands.{begins}
use Rattle.slnf_follow.proofs.Standing.{taken_same}

pub era_there : (plan : Plan) (lanes : List Lane) (number : ℕ) (epoch : Epoch) →
    slice_get plan.epochs number ≡ Some epoch →
    slice_get (setting_of plan lanes).eras number ≡ Some (era_of_epoch epoch)
era_there plan lanes number epoch at =
    slice_get-map era_of_epoch plan.epochs number ∙ ap (option_map era_of_epoch) at

module _ (plan : Plan) (lanes : List Lane) (entries : List Entry) (number : ℕ) (course : Course) (epoch : Epoch)
    (h : IsAtEpoch plan lanes entries number course) (at : slice_get plan.epochs number ≡ Some epoch) where
  abbrev s : Setting AnyFlight Arrival
  s = setting_of plan lanes

  abbrev places : ℕ → ℕ
  places = come_to course.places.items

  base_is : course.base ≡ base_of (eras_of plan.epochs) number
  base_is = ap (λ (f : Follower AnyFlight). f.base) h.followed.state

  actors_are : actors_at s.eras number ≡ (era_of_epoch epoch).actors
  actors_are = ap actors_in (era_there plan lanes number epoch at)

  -- the hands begin as a follower's
  pub starts : (function : AnyFunction) (items : List ActorItems) (hands : List (Followed ActorItems AnyFlight)) →
      IsFunctionOf plan.function (Some epoch) function → AreItemsFor function lanes course.base epoch items →
      length items ≡ length (era_of_epoch epoch).actors → AreFirst plan epoch places items hands →
      ((k : ℕ) (actor : Actor) (work : Workload AnyFlight) → slice_get (era_of_epoch epoch).actors k ≡ Some actor →
      IsWorkOn function lanes course.base (course.base + k) actor.lane work →
      course.base ≡ base_of (eras_of plan.epochs) number →
      job_in work (errand_of plan places actor work.count)
      ≡ job_of s (course.base + k) (at_lane places actor) actor) →
      Follows items_work s (take course.done entries) number course.base places hands
  starts function items hands of for_items count first jobs = record {
    helds = hands_first s course.base places (actors_at s.eras number);
    followed = h.followed;
    hands_are =
        subst (λ actors. AreHands items_work s places course.base actors (hands_first s course.base places actors)
        hands)
        (sym actors_are)
        (begins s plan epoch function lanes course.base places items hands first for_items count
        (λ k actor work there works. jobs k actor work there works base_is));
  }

  -- no lane has come farther than its packets
  pub fits : ((n : ℕ) (era : Era) → slice_get s.eras n ≡ Some era → HasLanesOnce era.actors) → (lane : ℕ) →
      places lane ≤ length (packets_on lanes lane)
  fits once lane =
      let come : places lane ≤ slice_index s.lanes lane = subst (λ (p : ℕ → ℕ). p lane ≤ slice_index s.lanes lane)
      (sym (ap (λ (f : Follower AnyFlight). f.places) h.followed.state))
      (places_fit s (take course.done entries) s.eras 0 (λ l. 0) number once (λ l. omega arith) lane) in
      subst (λ n. places lane ≤ n) (lane_size lanes lane) come

  -- and where nothing is broken the next epoch is in hand
  pub passes : (next : Course) (hands : List (Followed ActorItems AnyFlight)) →
      Follows items_work s (take next.done entries) number course.base places hands →
      next.done ≤ length entries → next.base ≡ course.base + length hands →
      length next.places.items ≡ length course.places.items →
      ((lane : ℕ) → come_to next.places.items lane ≡ places lane + taken_on lane epoch.instances hands) →
      broken_at (open_from 0 hands) (slice_get entries next.done) course.base (course.base + length hands)
      next.done ≡ None →
      IsAtEpoch plan lanes entries (number + 1) next
  passes next hands follows upto base count taken none = record {
    upto = upto;
    lanes_are = count ∙ h.lanes_are;
    followed = subst (λ b. IsFollowed s (take next.done entries)
        (at_epoch s (number + 1) b (come_to next.places.items)))
        (sym base)
        (goes_on items_work s entries number course.base next.done places hands (era_of_epoch epoch)
        (era_there plan lanes number epoch at) follows (come_to next.places.items) none
        (λ helds are lane. taken lane ∙ ap (λ n. places lane + n)
        (sym (taken_same items_work s places lane course.base epoch.instances epoch.sweep helds hands are))));
  }

-- an instance's actor stands at the instance's place
pub instance_at : (epoch : Epoch) (k : ℕ) (i : InstancePlan) → slice_get epoch.instances k ≡ Some i →
    slice_get (era_of_epoch epoch).actors k ≡ Some (instance_actor i)
instance_at epoch k i at =
    slice_get-append_left (map instance_actor epoch.instances) (sweep_actors epoch.sweep) k (instance_actor i)
    (slice_get-map instance_actor epoch.instances k ∙ ap (option_map instance_actor) at)
