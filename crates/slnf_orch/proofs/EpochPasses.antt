-- An epoch of a plan, from its crew to its end.
use Rattle.std.proofs.Common.{◌≡◌, ℕ, ◌+◌, ◌≤◌, ◌<◌, ◌^◌, Some, List, [], ◌++◌, length, map, slice_get, option_map, refl, ap, ◌∙◌, subst, arith}
use Rattle.std.specs.List.{repeat}
use Rattle.std.specs.Prelude.{replicate}
use Rattle.std.proofs.lemmas.List.{length-append, length-map, length-replicate}
use Rattle.std.proofs.lemmas.Option.{slice_get-map, slice_get_within}
use Rattle.slnf_base.specs.declared.packets.Verdict.{Verdict}
use Rattle.slnf_access.specs.declared.requests.Entry.{Entry}
use Rattle.slnf_plan.specs.declared.plan.Epoch.{Epoch}
use Rattle.slnf_plan.specs.declared.plan.InstancePlan.{InstancePlan}
use Rattle.slnf_plan.specs.declared.plan.Plan.{Plan}
use Rattle.slnf_run.specs.Setting.{Actor}
use Rattle.slnf_run.specs.Jobs.{job_of}
use Rattle.slnf_run.specs.Made.{greatest_last}
use Rattle.slnf_run.specs.Parts.{part_of, at_lane}
use Rattle.slnf_run.specs.Scheduled.{usual_way, by_rounds, turns, round}
use Rattle.slnf_run.specs.SoFar.{IsSoFar}
use Rattle.slnf_run.proofs.Lists.{slice_get-append_left}
use Rattle.slnf_shards.proofs.Laws.{is_first_clock}
use Rattle.slnf_instance.specs.Items.{Workload}
use Rattle.slnf_instance.specs.Errands.{job_in}
use Rattle.slnf_instance.specs.Instances.{Acting, StandsBy}
use Rattle.slnf_flight.specs.declared.flights.AnyFlight.{AnyFlight}
use Rattle.slnf_flight.specs.declared.functions.AnyFunction.{AnyFunction}
use Rattle.slnf_flight.specs.declared.lanes.Lane.{Lane}
use Rattle.slnf_flight.specs.Actors.{instance_actor, sweep_actors, era_of_epoch, eras_of}
use Rattle.slnf_flight.specs.PlanSetting.{setting_of}
use Rattle.slnf_crew.specs.declared.items.ActorItems.{ActorItems}
use Rattle.slnf_crew.specs.Errands.{items_work, IsWorkOn, errand_of}
use Rattle.slnf_orch.specs.Actors.{Stage, at_work, turns_in, AreStanding, AreDone, HasRoom}
use Rattle.slnf_ledger.specs.Ledger.{verdicts_at, places_in, given_from}
use Rattle.slnf_orch.specs.Hiring.{DoStand, AreHired}
use Rattle.slnf_orch.specs.Passing.{IsUnderWay}
use Rattle.slnf_ledger.proofs.Giving.{job_there}
use Rattle.slnf_orch.proofs.Places.{some_at}
use Rattle.slnf_orch.proofs.Plain.{nobody_plain}
use Rattle.slnf_orch.proofs.SettingOut.{stage_of, standing_first, room_first, one_number}
use Rattle.slnf_orch.proofs.UnderWay.{era_there, so_far, passes_of, HasEnded}

-- an instance's actor stands at the instance's place
pub instance_at : (epoch : Epoch) (k : ℕ) (i : InstancePlan) → slice_get epoch.instances k ≡ Some i →
    slice_get (era_of_epoch epoch).actors k ≡ Some (instance_actor i)
instance_at epoch k i at =
    slice_get-append_left (map instance_actor epoch.instances) (sweep_actors epoch.sweep) k (instance_actor i)
    (slice_get-map instance_actor epoch.instances k ∙ ap (option_map instance_actor) at)

-- an epoch has no more instances than actors
pub instances_most : {X : Type 0} (epoch : Epoch) (crew : List X) → length crew ≡ length (era_of_epoch epoch).actors →
    length epoch.instances ≤ length crew
instances_most epoch crew count =
    let all : length (era_of_epoch epoch).actors
    ≡ length (map instance_actor epoch.instances) + length (sweep_actors epoch.sweep) =
    length-append (map instance_actor epoch.instances) (sweep_actors epoch.sweep) in
    let own : length (map instance_actor epoch.instances) ≡ length epoch.instances =
    length-map epoch.instances instance_actor in
    omega arith

-- the job of each actor of an epoch, by its work and its errand, is its incarnation's
abbrev pub HaveJobs : Plan → List Lane → AnyFunction → (ℕ → ℕ) → ℕ → Epoch → Type 0
HaveJobs plan lanes function places base epoch = (k : ℕ) (actor : Actor) (work : Workload AnyFlight) →
    slice_get (era_of_epoch epoch).actors k ≡ Some actor →
    IsWorkOn function lanes base (base + k) actor.lane work → job_in work (errand_of plan places actor work.count)
    ≡ job_of (setting_of plan lanes) (base + k) (at_lane places actor) actor

module _ (plan : Plan) (lanes : List Lane) (number base : ℕ) (epoch : Epoch) (histories : List (List Entry))
    (ledger : List (List Verdict)) (h : IsUnderWay plan lanes number base histories ledger) where
  -- the epoch as its actors see it
  abbrev pub epoch_stage : Stage AnyFlight
  epoch_stage = stage_of (setting_of plan lanes) number base (places_in ledger) (era_of_epoch epoch)

  -- the crew stands before its first access, each actor with the greatest stamp as its clock
  pub crew_stands : (function : AnyFunction) (crew : List (Acting ActorItems AnyFlight)) (clocks : List ℕ)
      (count now : ℕ) → slice_get plan.epochs number ≡ Some epoch →
      HaveJobs plan lanes function (places_in ledger) base epoch →
      AreHired plan function lanes (places_in ledger) base epoch crew →
      length crew ≡ length (era_of_epoch epoch).actors → count ≡ length crew → clocks ≡ replicate count now →
      now ≡ greatest_last histories →
      AreStanding items_work epoch_stage h.list (at_work base histories crew clocks)
  crew_stands function crew clocks count now at jobs hired crew_count count_is clocks_are now_is =
      standing_first items_work (setting_of plan lanes) h.list number base (places_in ledger) (era_of_epoch epoch)
      histories crew clocks h.ready h.base_is (era_there plan number epoch at) crew_count
      (ap length clocks_are ∙ (length-replicate count now ∙ (count_is ∙ crew_count)))
      (λ k x there. one_number clocks count now clocks_are k x there ∙ now_is) is_first_clock
      (λ k i actor i_at actor_at.
      let w = hired k i actor i_at actor_at in
      subst (λ job. StandsBy items_work job [] i) (jobs k actor w.work actor_at w.works) w.stands)

  -- and there are stamps for all its accesses
  pub crew_has_room : (crew : List (Acting ActorItems AnyFlight)) (clocks : List ℕ) →
      slice_get plan.epochs number ≡ Some epoch →
      AreStanding items_work epoch_stage h.list (at_work base histories crew clocks) →
      ((m : List Entry) → IsSoFar (setting_of plan lanes) (usual_way (eras_of plan.epochs)) number base
      (places_in ledger) m → length m < 2 ^ 41) →
      HasRoom items_work (at_work base histories crew clocks)
  crew_has_room crew clocks at stands few =
      room_first items_work (setting_of plan lanes) h.list number base (places_in ledger) (era_of_epoch epoch)
      histories crew clocks stands
      (λ numbers. few (turns (setting_of plan lanes) (usual_way (eras_of plan.epochs)) base (places_in ledger)
      (era_of_epoch epoch) numbers h.list) (so_far plan lanes number base epoch histories ledger at h numbers))

  module _ (next : List (List Entry)) (crew : List (Acting ActorItems AnyFlight)) (clocks : List ℕ)
      (at : slice_get plan.epochs number ≡ Some epoch)
      (done : AreDone items_work epoch_stage (turns_in epoch_stage epoch.schedule h.list)
      (at_work base next crew clocks)) where
    -- the accesses up to its end
    abbrev pub end_list : List Entry
    end_list = turns_in epoch_stage (repeat done.rounds (round (era_of_epoch epoch)))
        (turns_in epoch_stage epoch.schedule h.list)

    -- the instances' actors stand behind them
    pub end_stands : DoStand items_work
        (λ k i. job_there (setting_of plan lanes) (places_in ledger) (base + k) (instance_actor i))
        (λ k. part_of (base + k) end_list) crew epoch.instances
    end_stands k actor i actor_at i_at =
        let there : slice_get (era_of_epoch epoch).actors k ≡ Some (instance_actor i) = instance_at epoch k i i_at in
        let inside : k < length crew = slice_get_within crew k actor actor_at in
        let count : length crew ≡ length (era_of_epoch epoch).actors = done.stands.count in
        let clocks_count : length clocks ≡ length (era_of_epoch epoch).actors = done.stands.clocks_are in
        let c = some_at clocks k (omega arith) in
        (done.stands.each k (instance_actor i) actor c.0 there actor_at c.1).stands

    -- and the epoch has ended
    pub has_ended : (after : List (List Verdict)) →
        ((lane : ℕ) → verdicts_at after lane ≡ verdicts_at ledger lane
        ++ given_from (λ k i. job_there (setting_of plan lanes) (places_in ledger) (base + k) (instance_actor i))
        (λ k. part_of (base + k) end_list) 0 epoch.instances lane) →
        HasEnded plan lanes number base epoch histories ledger at h end_list after next
    has_ended after given = record {
      passes = record {
        rounds = done.rounds;
        turned = passes_of (setting_of plan lanes) number base (places_in ledger) (era_of_epoch epoch) h.list done.rounds
            end_list refl;
        nothing = nobody_plain (setting_of plan lanes) by_rounds (places_in ledger) end_list base
            (era_of_epoch epoch).actors done.nothing;
      };
      kept = done.stands.kept;
      given = given;
    }
