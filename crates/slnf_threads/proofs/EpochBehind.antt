-- What is known behind an epoch on the shared store: it has passed, or stamps are said to be spent.
use Rattle.std.proofs.Common.{◌≡◌, ℕ, ◌+◌, ◌-◌, ◌*◌, ◌<◌, ◌≤◌, Option, Some, None, Ok, List, [], ◌++◌, length, map, replicate, slice_get, slice_index, option_map, MatchResult, refl, sym, ap, ap₂, ◌∙◌, subst, arith, eq-eqb}
use Rattle.std.specs.List.{range_with_len}
use Rattle.std.proofs.lemmas.List.{length-append, length-map, length-replicate}
use Rattle.std.proofs.lemmas.Option.{slice_get-map, slice_get_within}
use Rattle.slnf_base.specs.declared.packets.Verdict.{Verdict}
use Rattle.slnf_access.specs.declared.requests.Entry.{Entry}
use Rattle.slnf_plan.specs.declared.plan.Epoch.{Epoch}
use Rattle.slnf_plan.specs.declared.plan.InstancePlan.{InstancePlan}
use Rattle.slnf_plan.specs.declared.plan.Plan.{Plan}
use Rattle.slnf_turns.specs.declared.views.View.{View}
use Rattle.slnf_turns.specs.Passes.{AllJoined, IsRoot}
use Rattle.slnf_turns.specs.Views.{joined_of}
use Rattle.slnf_store.specs.Passes.{PassState, entries_of, own_entries}
use Rattle.slnf_store.specs.Closes.{list_of}
use Rattle.slnf_store.specs.Stores.{IsOf, shards_of}
use Rattle.slnf_run.specs.Setting.{Actor, Era, Setting}
use Rattle.slnf_run.specs.Jobs.{Job, by_rounds, job_of, wanted_in}
use Rattle.slnf_run.specs.Parts.{part_of, at_lane, places_after}
use Rattle.slnf_run.proofs.LanePosts.{slice_get_of_map}
use Rattle.slnf_instance.specs.declared.endings.Work.{Work}
use Rattle.slnf_instance.specs.Ends.{verdicts_in}
use Rattle.slnf_instance.specs.Errands.{job_in}
use Rattle.slnf_flight.specs.Actors.{instance_actor, era_of_epoch}
use Rattle.slnf_flight.specs.Flights.{Arrival}
use Rattle.slnf_flight.specs.Lanes.{packets_on}
use Rattle.slnf_flight.specs.PlanSetting.{setting_of}
use Rattle.slnf_flight.specs.declared.flights.AnyFlight.{AnyFlight}
use Rattle.slnf_flight.specs.declared.lanes.Lane.{Lane}
use Rattle.slnf_setting.proofs.LanesApart.{lanes_once}
use Rattle.slnf_crew.specs.declared.items.ActorItems.{ActorItems}
use Rattle.slnf_crew.specs.Errands.{items_work}
use Rattle.slnf_threads.specs.declared.plans.Run.{Run}
use Rattle.slnf_threads.specs.declared.reports.Desk.{Desk}
use Rattle.slnf_threads.specs.declared.reports.Report.{Report}
use Rattle.slnf_ledger.specs.Ledger.{verdicts_at, places_in, IsFitting, DidSo, given_from}
use Rattle.slnf_ledger.specs.Told.{IsToldSoFar}
use Rattle.slnf_ledger.proofs.Giving.{job_there, given_on, given_is, taken_on_is}
use Rattle.slnf_ledger.proofs.Told.{told_next}
use Rattle.slnf_threads.specs.Crews.{IsSent, SomeSpent}
use Rattle.slnf_threads.specs.Passing.{joined_number, after_splits, after_joins, clock_after, root_with, AgreesBefore, HavePassed, AreAtWork, IsClockOf, HasLateStamp}
use Rattle.slnf_threads.specs.Reports.{job_by, IsReport, IsRefused, IsWorkOf}
use Rattle.slnf_threads.specs.UnderWay.{IsGathered, IsUnderWay, IsStuck}
use Rattle.slnf_threads.specs.Worked.{IsWorked, HasWorked}
use Rattle.slnf_threads.proofs.EpochWork.{instance_at, instances_most, era_there, lane_size, each_at, pair_at, known_by, clock_by, outcome_by, HasReports}
use Rattle.slnf_threads.proofs.Fitting.{AreApart, took_by, given_within}
use Rattle.slnf_threads.proofs.Gathering.{clock_next, late_next}
use Rattle.slnf_threads.proofs.Pairs.{count_pairs}
use Rattle.slnf_threads.proofs.Passing.{splits_root, joins_root, list_new, agrees_old, parts_here, passed_next, work_next}
use Rattle.slnf_threads.proofs.Reporting.{numbers_in_row}
use Rattle.slnf_threads.proofs.Rooms.{took_most}
use Rattle.slnf_threads.proofs.Rules.{some_at}

module _ (plan : Plan) (lanes : List Lane) (number : ℕ) (run : Run) (epoch : Epoch) (items : List ActorItems)
    (desks : List (Desk ActorItems AnyFlight)) (reports : List Report) (h : IsUnderWay plan lanes number run)
    (e : HasReports plan lanes number run epoch items desks reports) where
  abbrev s : Setting AnyFlight Arrival
  s = setting_of plan lanes

  abbrev places : ℕ → ℕ
  places = places_in run.ledger

  abbrev era : Era
  era = era_of_epoch epoch

  abbrev root : View
  root = run.root.known

  abbrev vs : List View
  vs = map known_by reports

  abbrev job_at : ℕ → Actor → Job AnyFlight
  job_at k actor = job_of s (run.base + k) (at_lane places actor) actor

  there : slice_get s.eras number ≡ Some era
  there = era_there plan number epoch e.at

  abbrev IsReportOf : Desk ActorItems AnyFlight → Report → Type 0
  IsReportOf d r = IsReport items_work run.store d.instance d.pass r.pass r.outcome

  -- an actor's job is its incarnation's
  job_is : (k : ℕ) (actor : Actor) (d : Desk ActorItems AnyFlight) → slice_get desks k ≡ Some d →
      slice_get era.actors k ≡ Some actor → job_by items_work d.instance ≡ job_at k actor
  job_is k actor d d_at actor_at =
      let is_sent : IsSent plan epoch (places_in run.ledger) items k d.instance =
      each_at (λ k (d : Desk ActorItems AnyFlight). IsSent plan epoch (places_in run.ledger) items k d.instance) desks k d
      e.sent d_at in
      let l : k < length era.actors = slice_get_within era.actors k actor actor_at in
      let x : (item : ActorItems) × (slice_get items k ≡ Some item) =
      some_at items k (omega (arith, l, e.items_count)) in
      (is_sent.stands x.0 x.1).job_is
      ∙ (ap (job_in (items_work x.0)) (is_sent.errand actor x.0 actor_at x.1)
      ∙ e.jobs k actor (items_work x.0) actor_at (e.for_items k x.0 actor x.1 actor_at))

  -- what is reported of an actor
  report_at : (k : ℕ) (actor : Actor) (r : Report) → slice_get reports k ≡ Some r → slice_get era.actors k ≡ Some actor →
      (d : Desk ActorItems AnyFlight) × IsReportOf d r × (job_by items_work d.instance ≡ job_at k actor)
  report_at k actor r r_at actor_at =
      let d = pair_at IsReportOf desks reports k r e.reported r_at in
      (d.0, d.2, job_is k actor d.0 d.1 actor_at)

  working : (k : ℕ) (actor : Actor) (v : View) → slice_get era.actors k ≡ Some actor → slice_get vs k ≡ Some v →
      IsWorked (job_at k actor) [] (entries_of v.own)
  working k actor v actor_at v_at =
      let r = slice_get_of_map known_by reports k v v_at in
      let d = report_at k actor r.0 r.1 actor_at in
      subst (λ (w : View). IsWorked (job_at k actor) [] (entries_of w.own)) r.2
      (subst (λ (job : Job AnyFlight). IsWorked job [] (own_entries (r.0).pass)) d.2 (d.1).worked)

  reports_count : length reports ≡ length era.actors
  reports_count = count_pairs IsReportOf desks reports e.reported ∙ (e.desks_count ∙ e.items_count)

  count : length vs ≡ length era.actors
  count = length-map reports known_by ∙ reports_count

  numbers : map (λ (v : View). v.number) vs ≡ range_with_len (run.base + 1) (length vs)
  numbers =
      let first : length root.before + 0 + 1 ≡ run.base + 1 = omega (arith, h.passed.splits) in
      numbers_in_row run.store run.root 0 desks reports e.passes e.reported
      ∙ ap₂ range_with_len first (sym (length-map reports known_by))

  abbrev behind : View
  behind = root_with (root.before ++ replicate (length era.actors) (map joined_number root.joined))
      (root.joined ++ map joined_of vs)

  root_after : after_joins vs (after_splits (length items) root) ≡ behind
  root_after =
      ap (λ v. after_joins vs (after_splits (length items) v)) h.passed.root_is
      ∙ (ap (λ n. after_joins vs (after_splits n (root_with root.before root.joined))) e.items_count
      ∙ (ap (after_joins vs) (splits_root (length era.actors) root.before root.joined)
      ∙ joins_root vs (root.before ++ replicate (length era.actors) (map joined_number root.joined)) root.joined))

  all_joined : AllJoined behind
  all_joined =
      let before : length behind.before
      ≡ length root.before + length (replicate (length era.actors) (map joined_number root.joined)) =
      length-append root.before (replicate (length era.actors) (map joined_number root.joined)) in
      let new : length (replicate (length era.actors) (map joined_number root.joined)) ≡ length era.actors =
      length-replicate (length era.actors) (map joined_number root.joined) in
      let joined : length behind.joined ≡ length root.joined + length (map joined_of vs) =
      length-append root.joined (map joined_of vs) in
      let passes : length (map joined_of vs) ≡ length vs = length-map vs joined_of in
      let was : length root.joined ≡ length root.before = h.gathered.joined in
      omega (arith, before, new, joined, passes, was, count)

  -- The root has all passes back.
  pub record IsBack (back : PassState) : Type 0 where
    pub here : IsOf run.store back
    pub known : back.known ≡ after_joins (map known_by reports) (after_splits (length items) run.root.known)
    pub clock : back.clock ≡ clock_after (map clock_by reports) run.root.clock

  module _ (back : PassState) (is : IsBack back) where
    known_is : behind ≡ back.known
    known_is = sym (is.known ∙ root_after)

    pub gathered : (next : Run) → next.store ≡ run.store → next.root ≡ back → IsGathered plan next
    gathered next store_is root_is = record {
      here = subst (λ p. IsOf next.store p) (sym root_is) (subst (λ st. IsOf st back) (sym store_is) is.here);
      shards = h.gathered.shards ∙ ap shards_of (sym store_is);
      root = subst (λ (p : PassState). IsRoot p.known) (sym root_is) (subst IsRoot known_is refl);
      joined = subst (λ (p : PassState). AllJoined p.known) (sym root_is) (subst AllJoined known_is all_joined);
      clock = subst (λ (p : PassState). IsClockOf p.known p.clock) (sym root_is)
          (subst (IsClockOf back.known) (sym is.clock)
          (subst (λ v. IsClockOf v (clock_after (map clock_by reports) run.root.clock)) known_is
          (clock_next run.store run.root root behind desks reports e.passes e.reported h.gathered.clock refl)));
    }

    pub stuck : SomeSpent (map outcome_by reports) →
        IsStuck plan lanes (record { store = run.store; root = back; ledger = run.ledger; base = run.base })
    stuck spent = record {
      gathered = gathered (record { store = run.store; root = back; ledger = run.ledger; base = run.base }) refl refl;
      upto = run.base + length era.actors;
      at_work = subst (AreAtWork s (run.base + length era.actors)) known_is
          (work_next s number run.base places root era h.passed there vs count numbers working);
      late = subst (λ n. HasLateStamp n back.known back.clock) (sym h.gathered.shards)
          (subst (HasLateStamp (shards_of run.store) back.known) (sym is.clock)
          (subst (λ v. HasLateStamp (shards_of run.store) v (clock_after (map clock_by reports) run.root.clock)) known_is
          (late_next run.store run.root root behind run.root.clock desks reports e.reported spent refl)));
    }

  module _ (works : List Work) (all : map Ok works ≡ map outcome_by reports) where
    works_count : length works ≡ length era.actors
    works_count = sym (length-map works Ok) ∙ (ap length all ∙ (length-map reports outcome_by ∙ reports_count))

    pub works_most : length epoch.instances ≤ length works
    works_most = let most = instances_most epoch in omega (arith, most, works_count)

    -- what an actor did
    work_at : (k : ℕ) (actor : Actor) (r : Report) (w : Work) → slice_get reports k ≡ Some r →
        slice_get era.actors k ≡ Some actor → r.outcome ≡ Ok w →
        (quota : Option ℕ) × IsWorkOf (job_at k actor) quota (own_entries r.pass) w
    work_at k actor r w r_at actor_at done =
        let d = report_at k actor r r_at actor_at in
        let ended = subst (λ o. MatchResult o
        (λ x. IsWorkOf (job_by items_work (d.0).instance) ((d.0).instance).errand.quota (own_entries r.pass) x)
        (λ refusal. IsRefused (shards_of run.store) r.pass refusal)) done (d.1).ended in (
          ((d.0).instance).errand.quota,
          subst (λ (job : Job AnyFlight). IsWorkOf job ((d.0).instance).errand.quota (own_entries r.pass) w) d.2 ended,
        )

    worked : (k : ℕ) (actor : Actor) (v : View) → slice_get era.actors k ≡ Some actor → slice_get vs k ≡ Some v →
        HasWorked (job_at k actor) (entries_of v.own)
    worked k actor v actor_at v_at =
        let r = slice_get_of_map known_by reports k v v_at in
        let outcome : slice_get (map Ok works) k ≡ Some (r.0).outcome =
        ap (λ l. slice_get l k) all ∙ (slice_get-map outcome_by reports k ∙ ap (option_map outcome_by) r.1) in
        let w = slice_get_of_map Ok works k (r.0).outcome outcome in
        let done = work_at k actor r.0 w.0 r.1 actor_at (sym w.2) in (
          working k actor v actor_at v_at,
          subst (λ (x : View). wanted_in by_rounds (job_at k actor) (entries_of x.own) ≡ None) r.2 (done.1).none,
        )

    -- an instance's verdicts are its entries'
    told_at : (k : ℕ) (i : InstancePlan) (w : Work) → slice_get epoch.instances k ≡ Some i →
        slice_get works k ≡ Some w → (r : Report) × (slice_get reports k ≡ Some r)
        × (w.verdicts.items ≡ verdicts_in (job_at k (instance_actor i)) (own_entries r.pass))
    told_at k i w i_at w_at =
        let outcome : slice_get (map outcome_by reports) k ≡ Some (Ok w) =
        sym (ap (λ l. slice_get l k) all) ∙ (slice_get-map Ok works k ∙ ap (option_map Ok) w_at) in
        let r = slice_get_of_map outcome_by reports k (Ok w) outcome in
        let done = work_at k (instance_actor i) r.0 w r.1 (instance_at epoch k i i_at) r.2 in
        (r.0, r.1, (done.1).verdicts)

    abbrev jobs : ℕ → InstancePlan → Job AnyFlight
    jobs k i = job_there s places (run.base + k) (instance_actor i)

    -- they did what lists tell that are their passes'
    abbrev ArePassLists : (ℕ → List Entry) → Type 0
    ArePassLists owns = (k : ℕ) (v : View) → slice_get vs k ≡ Some v → owns k ≡ entries_of v.own

    did : (owns : ℕ → List Entry) → ArePassLists owns → DidSo jobs owns works epoch.instances
    did owns parts k w i w_at i_at =
        let v = told_at k i w i_at w_at in
        v.2 ∙ ap (verdicts_in (job_at k (instance_actor i)))
        (sym (parts k (known_by v.0) (slice_get-map known_by reports k ∙ ap (option_map known_by) v.1)))

    apart : AreApart epoch.instances
    apart a b i j i_at j_at same =
        lanes_once plan.epochs plan.lanes_apart number era there i.lane a b (instance_actor i) (instance_actor j)
        (instance_at epoch a i i_at) (instance_at epoch b j j_at) (eq-eqb i.lane i.lane refl)
        (eq-eqb j.lane i.lane (sym same))

    module _ (after : List (List Verdict)) (added : (jobs : ℕ → InstancePlan → Job AnyFlight) (owns : ℕ → List Entry) →
        DidSo jobs owns works epoch.instances → (lane : ℕ) → verdicts_at after lane
        ≡ verdicts_at run.ledger lane ++ given_from jobs owns 0 epoch.instances lane) where
      -- no lane comes farther than its packets
      given_fits : IsFitting lanes after
      given_fits lane =
          let owns : ℕ → List Entry = λ k. list_of (run.base + k) behind in
          let room : ℕ → ℕ = λ l. length (packets_on lanes l) - places l in
          let mine : List Verdict = given_from jobs owns 0 epoch.instances lane in
          let size : places_in after lane ≡ places lane + length mine =
          ap length (added jobs owns (did owns
          (list_new s number run.base places root era h.passed there vs count numbers)) lane)
          ∙ length-append (verdicts_at run.ledger lane) mine in
          let most : length mine ≤ length (packets_on lanes lane) - places lane =
          given_within jobs owns lane room 0 epoch.instances apart (λ k i i_at.
          let q : k ≡ 0 + k = omega arith in
          let here : slice_index s.lanes i.lane ≡ length (packets_on lanes i.lane) = lane_size lanes i.lane in
          let took : took_by jobs owns lane k i ≤ slice_index s.lanes i.lane - places i.lane =
          took_most s (owns k) i.lane (run.base + k) (places i.lane) (instance_actor i) (eq-eqb i.lane i.lane refl) in
          subst (λ n. took_by jobs owns lane n i ≤ room i.lane) q (omega (arith, here, took))) in
          let was : places lane ≤ length (packets_on lanes lane) = h.fits lane in
          omega (arith, size, most, was)

      -- what lists give whose parts are the passes'
      given_of : (es : List Entry) → ArePassLists (λ k. part_of (run.base + k) es) → (lane : ℕ) →
          verdicts_at after lane ≡ verdicts_at run.ledger lane ++ given_on s es places lane run.base era.actors
      given_of es parts lane =
          let first : run.base + 0 ≡ run.base = omega arith in
          added jobs (λ k. part_of (run.base + k) es) (did (λ k. part_of (run.base + k) es) parts) lane
          ∙ ap (λ l. verdicts_at run.ledger lane ++ l)
          (given_is s es places lane run.base 0 epoch.instances epoch.sweep
          ∙ ap (λ n. given_on s es places lane n era.actors) first)

      moved : (es : List Entry) → ArePassLists (λ k. part_of (run.base + k) es) → (lane : ℕ) →
          places_in after lane ≡ places_after s es run.base places era lane
      moved es parts lane =
          ap length (given_of es parts lane)
          ∙ (length-append (verdicts_at run.ledger lane) (given_on s es places lane run.base era.actors)
          ∙ ap (λ n. places lane + n) (sym (taken_on_is s es places lane run.base era.actors)))

      -- the ledger tells of the packets that were taken up to now
      given_told : IsToldSoFar s (AgreesBefore (run.base + length era.actors) behind) (number + 1)
          (run.base + length era.actors) after
      given_told = told_next s number run.base era (AgreesBefore run.base root)
          (AgreesBefore (run.base + length era.actors) behind) run.ledger after there
          (agrees_old s number run.base places root era h.passed there vs count numbers)
          (λ es agrees. given_of es
          (parts_here s number run.base places root era h.passed there vs count numbers es agrees))
          h.told (lanes_once plan.epochs plan.lanes_apart number era there)

      -- the epoch has passed
      pub goes_on : (next : Run) → IsBack next.root → next.store ≡ run.store → next.ledger ≡ after →
          length after ≡ length run.ledger → next.base ≡ run.base + length era.actors →
          length era.actors ≤ 33 → IsUnderWay plan lanes (number + 1) next
      goes_on next is store_is ledger_is lanes_are base_is few = record {
        gathered = gathered next.root is next store_is refl;
        passed = subst (λ l. HavePassed s (number + 1) next.base (places_in l) next.root.known) (sym ledger_is)
            (subst (λ b. HavePassed s (number + 1) b (places_in after) next.root.known) (sym base_is)
            (subst (HavePassed s (number + 1) (run.base + length era.actors) (places_in after))
            (known_is next.root is)
            (passed_next s number run.base places root era h.passed there vs count numbers (places_in after)
            worked moved)));
        told = subst (IsToldSoFar s (AgreesBefore next.base next.root.known) (number + 1) next.base) (sym ledger_is)
            (subst (λ b. IsToldSoFar s (AgreesBefore b next.root.known) (number + 1) b after) (sym base_is)
            (subst (λ v. IsToldSoFar s (AgreesBefore (run.base + length era.actors) v) (number + 1)
            (run.base + length era.actors) after) (known_is next.root is) given_told));
        fits = subst (IsFitting lanes) (sym ledger_is) given_fits;
        lanes_are = ap length ledger_is ∙ (lanes_are ∙ h.lanes_are);
        base = let was : run.base ≤ 33 * number = h.base in omega (arith, was, base_is, few);
      }
