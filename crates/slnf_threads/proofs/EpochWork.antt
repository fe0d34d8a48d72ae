-- An epoch's actors on the shared store: what their desks, their reports and their works come to.
use Rattle.std.proofs.Common.{◌≡◌, ℕ, zero, suc, ◌+◌, ◌≤◌, Some, Result, List, [], ◌∷◌, length, map, slice_get, slice_index, option_map, refl, sym, ap, ◌∙◌, subst, arith}
use Rattle.std.proofs.lemmas.List.{length-append, length-map}
use Rattle.std.proofs.lemmas.Option.{same_Some, slice_get-map}
use Rattle.slnf_bucket.specs.declared.errors.BucketError.{BucketError}
use Rattle.slnf_plan.specs.declared.plan.Epoch.{Epoch}
use Rattle.slnf_plan.specs.declared.plan.InstancePlan.{InstancePlan}
use Rattle.slnf_plan.specs.declared.plan.Plan.{Plan}
use Rattle.slnf_turns.specs.declared.views.View.{View}
use Rattle.slnf_turns.specs.Passes.{IsRoot}
use Rattle.slnf_run.specs.Setting.{Actor, base_of}
use Rattle.slnf_run.specs.Jobs.{job_of}
use Rattle.slnf_run.specs.Parts.{at_lane}
use Rattle.slnf_run.proofs.Lists.{slice_get-append_left}
use Rattle.slnf_instance.specs.declared.endings.Work.{Work}
use Rattle.slnf_instance.specs.Errands.{job_in}
use Rattle.slnf_instance.specs.Items.{Workload}
use Rattle.slnf_flight.specs.Actors.{instance_actor, sweep_actors, era_of_epoch, eras_of}
use Rattle.slnf_flight.specs.Functions.{IsFunctionOf}
use Rattle.slnf_flight.specs.Lanes.{lane_sizes, packet_count, packets_on}
use Rattle.slnf_flight.specs.PlanSetting.{setting_of}
use Rattle.slnf_flight.specs.declared.flights.AnyFlight.{AnyFlight}
use Rattle.slnf_flight.specs.declared.functions.AnyFunction.{AnyFunction}
use Rattle.slnf_flight.specs.declared.lanes.Lane.{Lane}
use Rattle.slnf_crew.specs.declared.items.ActorItems.{ActorItems}
use Rattle.slnf_crew.specs.Errands.{items_work, errand_of, IsWorkOn, AreItemsFor}
use Rattle.slnf_threads.specs.declared.plans.Run.{Run}
use Rattle.slnf_threads.specs.declared.reports.Desk.{Desk}
use Rattle.slnf_threads.specs.declared.reports.Report.{Report}
use Rattle.slnf_ledger.specs.Ledger.{places_in}
use Rattle.slnf_threads.specs.Crews.{EachAt, Pairwise, IsSent}
use Rattle.slnf_threads.specs.Passing.{after_splits}
use Rattle.slnf_threads.specs.UnderWay.{IsUnderWay}
use Rattle.slnf_threads.proofs.Reporting.{ArePasses, AreReports}
use Rattle.slnf_threads.proofs.Seating.{splits_number}

-- an instance's actor stands at the instance's place
pub instance_at : (epoch : Epoch) (k : ℕ) (i : InstancePlan) → slice_get epoch.instances k ≡ Some i →
    slice_get (era_of_epoch epoch).actors k ≡ Some (instance_actor i)
instance_at epoch k i at =
    slice_get-append_left (map instance_actor epoch.instances) (sweep_actors epoch.sweep) k (instance_actor i)
    (slice_get-map instance_actor epoch.instances k ∙ ap (option_map instance_actor) at)

-- an epoch has no more instances than actors
pub instances_most : (epoch : Epoch) → length epoch.instances ≤ length (era_of_epoch epoch).actors
instances_most epoch =
    let all : length (era_of_epoch epoch).actors
    ≡ length (map instance_actor epoch.instances) + length (sweep_actors epoch.sweep) =
    length-append (map instance_actor epoch.instances) (sweep_actors epoch.sweep) in
    let own : length (map instance_actor epoch.instances) ≡ length epoch.instances =
    length-map epoch.instances instance_actor in
    omega arith

pub era_there : (plan : Plan) (number : ℕ) (epoch : Epoch) → slice_get plan.epochs number ≡ Some epoch →
    slice_get (eras_of plan.epochs) number ≡ Some (era_of_epoch epoch)
era_there plan number epoch at =
    slice_get-map era_of_epoch plan.epochs number ∙ ap (option_map era_of_epoch) at

-- how many packets a lane has
pub lane_size : (lanes : List Lane) (lane : ℕ) → slice_index (lane_sizes lanes) lane ≡ length (packets_on lanes lane)
lane_size [] lane = refl
lane_size (l ∷ lanes) zero = refl
lane_size (l ∷ lanes) (suc lane) = lane_size lanes lane

pub lane_most : (lanes : List Lane) (lane : ℕ) → length (packets_on lanes lane) ≤ packet_count lanes
lane_most [] lane = omega arith
lane_most (l ∷ lanes) zero = omega arith
lane_most (l ∷ lanes) (suc lane) =
    let rest : length (packets_on lanes lane) ≤ packet_count lanes = lane_most lanes lane in omega arith

-- what holds at a place
each_from : {X : Type 0} (P : ℕ → X → Type 0) (from : ℕ) (xs : List X) (k : ℕ) (x : X) → EachAt P from xs →
    slice_get xs k ≡ Some x → P (from + k) x
each_from P from [] k x h at = absurd (cc)
each_from P from (y ∷ ys) zero x h at =
    let q : from ≡ from + 0 = omega arith in
    subst (λ n. P n x) q (subst (P from) (same_Some y x at) h.0)
each_from P from (y ∷ ys) (suc k) x h at =
    let q : from + 1 + k ≡ from + suc k = omega arith in
    subst (λ n. P n x) q (each_from P (from + 1) ys k x h.1 at)

pub each_at : {X : Type 0} (P : ℕ → X → Type 0) (xs : List X) (k : ℕ) (x : X) → EachAt P 0 xs → slice_get xs k ≡ Some x →
    P k x
each_at P xs k x h at = let q : 0 + k ≡ k = omega arith in subst (λ n. P n x) q (each_from P 0 xs k x h at)

pub pair_at : {X Y : Type 0} (P : X → Y → Type 0) (xs : List X) (ys : List Y) (k : ℕ) (y : Y) → Pairwise P xs ys →
    slice_get ys k ≡ Some y → (x : X) × (slice_get xs k ≡ Some x) × P x y
pair_at P [] [] k y h at = absurd (cc)
pair_at P [] (z ∷ ys) k y h at = absurd h
pair_at P (x ∷ xs) [] k y h at = absurd h
pair_at P (x ∷ xs) (z ∷ ys) zero y h at = (x, refl, subst (P x) (same_Some z y at) h.0)
pair_at P (x ∷ xs) (z ∷ ys) (suc k) y h at = pair_at P xs ys k y h.1 at

abbrev pub known_by : Report → View
known_by r = r.pass.known

abbrev pub clock_by : Report → ℕ
clock_by r = r.pass.clock

abbrev pub outcome_by : Report → Result Work BucketError
outcome_by r = r.outcome

-- the job of each actor of an epoch, by its work and its errand, is its incarnation's
abbrev pub HaveJobs : Plan → List Lane → AnyFunction → (ℕ → ℕ) → ℕ → Epoch → Type 0
HaveJobs plan lanes function places base epoch =
    (k : ℕ) (actor : Actor) (work : Workload AnyFlight) → slice_get (era_of_epoch epoch).actors k ≡ Some actor →
    IsWorkOn function lanes base (base + k) actor.lane work →
    job_in work (errand_of plan places actor work.count)
    ≡ job_of (setting_of plan lanes) (base + k) (at_lane places actor) actor

-- An epoch is seated on these items and has these reports.
pub record HasReports (plan : Plan) (lanes : List Lane) (number : ℕ) (run : Run) (epoch : Epoch)
    (items : List ActorItems) (desks : List (Desk ActorItems AnyFlight)) (reports : List Report) : Type 0 where
  pub function : AnyFunction
  pub at : slice_get plan.epochs number ≡ Some epoch
  pub jobs : HaveJobs plan lanes function (places_in run.ledger) run.base epoch
  pub for_items : AreItemsFor function lanes run.base epoch items
  pub items_count : length items ≡ length (era_of_epoch epoch).actors
  pub sent : EachAt (λ k d. IsSent plan epoch (places_in run.ledger) items k d.instance) 0 desks
  pub passes : ArePasses run.store run.root 0 desks
  pub reported : AreReports run.store run.root desks reports
  pub desks_count : length desks ≡ length items

-- no lane's instance comes before the packets that are left of it
pub seat_fits : (plan : Plan) (lanes : List Lane) (number : ℕ) (run : Run) (epoch : Epoch) (function : AnyFunction)
    (items : List ActorItems) → IsUnderWay plan lanes number run → AreItemsFor function lanes run.base epoch items →
    (k : ℕ) (item : ActorItems) (i : InstancePlan) → slice_get items k ≡ Some item →
    slice_get epoch.instances k ≡ Some i → places_in run.ledger i.lane ≤ (items_work item).count
seat_fits plan lanes number run epoch function items h for_items k item i item_at i_at =
    let work = for_items k item (instance_actor i) item_at (instance_at epoch k i i_at) in
    subst (λ (w : Workload AnyFlight). places_in run.ledger i.lane ≤ w.count) (sym work) (h.fits i.lane)

-- splits keep the root
pub root_stays : (n : ℕ) (v w : View) → IsRoot v → w ≡ after_splits n v → IsRoot w
root_stays n v w root same = ap (λ (x : View). x.number) same ∙ (splits_number n v ∙ root)

-- the law of slnf_crew
abbrev pub JobsAreIncarnations : Type 0
JobsAreIncarnations =
    (plan : Plan) (lanes : List Lane) (number base : ℕ) (epoch : Epoch) (function : AnyFunction) (places : ℕ → ℕ) (k : ℕ)
    (actor : Actor) (work : Workload AnyFlight) → slice_get plan.epochs number ≡ Some epoch →
    base ≡ base_of (eras_of plan.epochs) number → IsFunctionOf plan.function (Some epoch) function →
    slice_get (era_of_epoch epoch).actors k ≡ Some actor → IsWorkOn function lanes base (base + k) actor.lane work →
    job_in work (errand_of plan places actor work.count)
    ≡ job_of (setting_of plan lanes) (base + k) (at_lane places actor) actor

module _ (plan : Plan) (lanes : List Lane) (number : ℕ) (run : Run) (h : IsUnderWay plan lanes number run)
    (epoch : Epoch) (at : slice_get plan.epochs number ≡ Some epoch) (function : AnyFunction)
    (is : IsFunctionOf plan.function (slice_get plan.epochs number) function) (law : JobsAreIncarnations)
    (all items : List ActorItems) (items_are : items ≡ all)
    (for_items : AreItemsFor function lanes run.base epoch all)
    (items_count : length all ≡ length (era_of_epoch epoch).actors) (desks : List (Desk ActorItems AnyFlight))
    (desks_count : length desks ≡ length items)
    (sent : EachAt (λ k d. IsSent plan epoch (places_in run.ledger) items k d.instance) 0 desks)
    (passes : ArePasses run.store run.root 0 desks) (reports : List Report)
    (reported : AreReports run.store run.root desks reports) where
  pub has_reports : HasReports plan lanes number run epoch items desks reports
  has_reports = record {
    function = function;
    at = at;
    jobs = λ k actor work.
        law plan lanes number run.base epoch function (places_in run.ledger) k actor work at h.passed.base_is
        (subst (λ o. IsFunctionOf plan.function o function) at is);
    for_items = subst (AreItemsFor function lanes run.base epoch) (sym items_are) for_items;
    items_count = ap length items_are ∙ items_count;
    sent = sent;
    passes = passes;
    reported = reported;
    desks_count = desks_count;
  }
