-- What is decided of a packet in a run is what is written for it, if it isn't lost.
use Rattle.std.proofs.Common.{◌≡◌, ◌⊎◌, inl, inr, ℕ, ◌+◌, ◌==◌, Bool, true, false, cond, Option, Some, None, List, [], ◌∷◌, ◌++◌, length, slice_get, refl, sym, ap, ◌∙◌, subst}
use Rattle.std.specs.Prelude.{IsTrue}
use Rattle.std.specs.List.{AllByRecursion, range_with_len, flat_map}
use Rattle.std.specs.Option.{option_and_then, unwrap_or}
use Rattle.std.proofs.lemmas.Bool.{and_parts}
use Rattle.std.proofs.lemmas.Option.{same_Some}
use Rattle.slnf_base.specs.declared.packets.Verdict.{Verdict}
use Rattle.slnf_base.specs.declared.packets.Verdict.TheVariants.{Lost}
use Rattle.slnf_access.specs.declared.requests.Entry.{Entry}
use Rattle.slnf_access.specs.Machines.{Flies, Ends}
use Rattle.slnf_plan.specs.declared.plan.FunctionPlan.{FunctionPlan}
use Rattle.slnf_plan.specs.declared.plan.FunctionPlan.TheVariants.{Nat, Firewall, Balancer}
use Rattle.slnf_plan.specs.declared.plan.Plan.{Plan}
use Rattle.slnf_run.specs.OneBox.{IsTold, IsGiven, IsDecided, Took}
use Rattle.slnf_run.specs.Parts.{Post}
use Rattle.slnf_run.specs.Run.{IsRun}
use Rattle.slnf_run.specs.Setting.{Actor, Setting, is_on}
use Rattle.slnf_run.specs.Steady.{IsSteady}
use Rattle.slnf_run.specs.Verdicts.{verdict_of}
use Rattle.slnf_run.specs.Visits.{Decision, decision_at}
use Rattle.slnf_run.proofs.DecidedOnce.{IsDecision, is_decision, once}
use Rattle.slnf_run.proofs.LanePosts.{actor_at}
use Rattle.slnf_flight.specs.declared.flights.AnyFlight.{AnyFlight}
use Rattle.slnf_flight.specs.declared.lanes.Lane.{Lane}
use Rattle.slnf_flight.specs.Flights.{Arrival}
use Rattle.slnf_flight.specs.PlanSetting.{setting_of}
use Rattle.slnf_setting.specs.Fits.{has_types}
use Rattle.slnf_setting.specs.OneBoxOfPlan.{IsOneBoxBy}
use Rattle.slnf_setting.proofs.PlanWhole.{plan_sound, one_box_of_plan}
use Rattle.slnf_replay.specs.BoxText.{box_answers}
use Rattle.slnf_replay.specs.Decided.{decided_here, decided_with_place, decided_lines, IsWritten}
use Rattle.slnf_replay.specs.Lines.{lane_of}
use Rattle.slnf_replay.proofs.DecidedAnswers.{decided_answers}
use Rattle.slnf_replay.proofs.Sightings.{on_lane}

-- what holds of all that each number gives holds of all that a list of numbers gives
all_both : {X : Type 0} (P : X → Type 0) (xs ys : List X) → AllByRecursion P xs → AllByRecursion P ys →
    AllByRecursion P (xs ++ ys)
all_both P [] ys h k = k
all_both P (x ∷ xs) ys h k = (h.0, all_both P xs ys h.1 k)

all_flat : {X : Type 0} (P : X → Type 0) (f : ℕ → List X) (ns : List ℕ) → ((n : ℕ) → AllByRecursion P (f n)) →
    AllByRecursion P (flat_map f ns)
all_flat P f [] each = tt
all_flat P f (n ∷ ns) each = all_both P (f n) (flat_map f ns) (each n) (all_flat P f ns each)

module _ {F A : Type 0} (s : Setting F A) (es : List Entry) (steady : (i : ℕ) → IsSteady (s.scene.machine i))
    (told : IsTold s es) where
  -- the lane of an incarnation that took a packet
  lane_same : (lane number i : ℕ) → Took s es lane number i → lane_of s i ≡ lane
  lane_same lane number i took =
      let post : Post = took.0 in
      let on : is_on lane post.actor ≡ true = (and_parts _ _ took.2).0 in
      ap (λ (o : Option Actor). unwrap_or (option_and_then (λ actor. actor.lane) o) 0) (actor_at s es i post took.1)
      ∙ ap (λ (o : Option ℕ). unwrap_or o 0) (on_lane lane post.actor on)

  module _ (d : ℕ) (e : Entry) (x : Decision F) (at : slice_get es d ≡ Some e)
      (decided : decision_at s.scene es d ≡ Some x) where
    -- two decisions of one packet are one
    same_decision : (b : ℕ) (y : Decision F) → IsDecided s es e.incarnation e.item b y → y ≡ x
    same_decision b y by =
        let q : (f : Entry) × IsDecision s.scene es d x f = is_decision s.scene es d x decided in
        let r : (f : Entry) × IsDecision s.scene es b y f = is_decision s.scene es b y by.decided in
        let mine : q.0 ≡ e = same_Some q.0 e (sym q.1.at ∙ at) in
        let its : r.0 ≡ by.e = same_Some r.0 by.e (sym r.1.at ∙ by.at) in
        let one : b ≡ d = once s.scene es d b x y q.0 r.0 steady q.1 r.1
        (ap (λ (f : Entry). f.incarnation) its ∙ by.by ∙ ap (λ (f : Entry). f.incarnation) (sym mine))
        (ap (λ (f : Entry). f.item) its ∙ by.of ∙ ap (λ (f : Entry). f.item) (sym mine)) in
        same_Some y x (sym by.decided ∙ ap (decision_at s.scene es) one ∙ decided)

    written_by : (verdict : Verdict) → IsGiven s es e.incarnation e.item verdict →
        (verdict ≡ x.verdict) ⊎ (verdict ≡ Lost)
    written_by verdict (inl r) =
        let q : (f : Entry) × IsDecision s.scene es d x f = is_decision s.scene es d x decided in
        let mine : q.0 ≡ e = same_Some q.0 e (sym q.1.at ∙ at) in
        let begins : s.scene.begins e.incarnation e.item ≡ Flies x.first =
        ap (λ (f : Entry). s.scene.begins f.incarnation f.item) (sym mine) ∙ q.1.begins in
        absurd (let no : Flies x.first ≡ Ends _ = sym begins ∙ r.1 in cc)
    written_by verdict (inr (inl r)) = inr r.0
    written_by verdict (inr (inr r)) = inl (sym r.3 ∙ ap (λ (y : Decision F). y.verdict) (same_decision r.0 r.1 r.2))

    written : (place : ℕ) → IsWritten s es (record {
      place = place;
      lane = lane_of s e.incarnation;
      number = e.item;
      verdict = x.verdict;
    })
    written place =
        let taken : (lane : ℕ) × Took s es lane e.item e.incarnation = told.taken d e x at decided in
        subst (λ lane. (verdict_of s es lane e.item ≡ x.verdict) ⊎ (verdict_of s es lane e.item ≡ Lost))
        (sym (lane_same taken.0 e.item e.incarnation taken.1))
        (written_by (verdict_of s es taken.0 e.item) (told.given taken.0 e.item e.incarnation taken.1))

  written_here : (t d : ℕ) → AllByRecursion (IsWritten s es)
      (decided_here s es t d (slice_get es d) (decision_at s.scene es d))
  written_here t d = go (slice_get es d) refl (decision_at s.scene es d) refl
    where
      at : (e : Entry) → slice_get es d ≡ Some e → (x : Decision F) → decision_at s.scene es d ≡ Some x →
          (b : Bool) → (s.scene.place es d x.first x.verdict == t) ≡ b →
          AllByRecursion (IsWritten s es) (decided_here s es t d (Some e) (Some x))
      at e w x v b k = subst (λ b. AllByRecursion (IsWritten s es) (cond b (record {
        place = t + 1;
        lane = lane_of s e.incarnation;
        number = e.item;
        verdict = x.verdict;
      } ∷ []) [])) (sym k) (by b)
        where
          by : (b : Bool) → AllByRecursion (IsWritten s es) (cond b (record {
            place = t + 1;
            lane = lane_of s e.incarnation;
            number = e.item;
            verdict = x.verdict;
          } ∷ []) [])
          by true = (written d e x w v (t + 1), tt)
          by false = tt

      go : (o : Option Entry) → slice_get es d ≡ o → (q : Option (Decision F)) → decision_at s.scene es d ≡ q →
          AllByRecursion (IsWritten s es) (decided_here s es t d o q)
      go None w q v = tt
      go (Some e) w None v = tt
      go (Some e) w (Some x) v = at e w x v (s.scene.place es d x.first x.verdict == t) refl

  pub all_written : AllByRecursion (IsWritten s es) (decided_lines s es)
  all_written = all_flat (IsWritten s es) (decided_with_place s es) (range_with_len 0 (length es))
      (λ t. all_flat (IsWritten s es)
      (λ d. decided_here s es t d (slice_get es d) (decision_at s.scene es d)) (range_with_len 0 (length es))
      (λ d. written_here t d))

-- The same of the answers of the box of a plan's function.
told_by : (f : FunctionPlan) (s : Setting AnyFlight Arrival) (es : List Entry) → IsOneBoxBy f s es → IsTold s es
told_by (Nat pool) s es whole = whole.one_box.told
told_by (Firewall inside rules) s es whole = whole.one_box.told
told_by (Balancer service) s es whole = whole.one_box.told

pub written_answers : (plan : Plan) (lanes : List Lane) (es : List Entry) → IsTrue (has_types plan.function) →
    IsRun (setting_of plan lanes) es → AllByRecursion (IsWritten (setting_of plan lanes) es) (box_answers plan lanes es)
written_answers plan lanes es types run =
    subst (AllByRecursion (IsWritten (setting_of plan lanes) es)) (sym (decided_answers plan lanes es types run))
    (all_written (setting_of plan lanes) es (plan_sound plan lanes).steady
    (told_by plan.function (setting_of plan lanes) es (one_box_of_plan plan lanes es types run)))
