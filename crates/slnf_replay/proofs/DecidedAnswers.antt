-- What a box answers that explains a list is what the list decides.
use Rattle.std.proofs.Common.{◌≡◌, ℕ, suc, zero, ◌+◌, ◌<◌, ◌≤◌, ◌==◌, Bool, true, false, cond, Option, Some, None, List, [], ◌∷◌, ◌++◌, length, map, slice_get, refl, sym, ap, ◌∙◌, subst, arith}
use Rattle.std.specs.Prelude.{filter_map, IsTrue}
use Rattle.std.specs.List.{range_with_len, flat_map, cons_option}
use Rattle.std.specs.Option.{option_and_then}
use Rattle.slnf_access.specs.declared.requests.Entry.{Entry}
use Rattle.slnf_access.specs.Map.{Cells}
use Rattle.slnf_plan.specs.declared.plan.FunctionPlan.{FunctionPlan}
use Rattle.slnf_plan.specs.declared.plan.FunctionPlan.TheVariants.{Nat, Firewall, Balancer}
use Rattle.slnf_plan.specs.declared.plan.Plan.{Plan}
use Rattle.slnf_run.specs.Run.{IsRun}
use Rattle.slnf_run.specs.Setting.{Setting}
use Rattle.slnf_run.specs.Boxes.{Box, Agrees, content_through, content_after, IsExplained}
use Rattle.slnf_run.specs.Visits.{Decision, Visit, removal, decision_at, visit_by}
use Rattle.slnf_run.proofs.DecidedOnce.{IsDecision, is_decision}
use Rattle.slnf_run.proofs.Splits.{IsSplit, split_at}
use Rattle.slnf_flight.specs.declared.flights.AnyFlight.{AnyFlight}
use Rattle.slnf_flight.specs.declared.lanes.Lane.{Lane}
use Rattle.slnf_flight.specs.Flights.{Arrival}
use Rattle.slnf_flight.specs.PlanSetting.{setting_of}
use Rattle.slnf_setting.specs.Fits.{has_types}
use Rattle.slnf_setting.specs.OneBoxOfPlan.{IsOneBoxBy}
use Rattle.slnf_setting.proofs.PlanWhole.{one_box_of_plan}
use Rattle.slnf_journal.specs.declared.box_lines.BoxLine.{BoxLine}
use Rattle.slnf_replay.specs.BoxText.{answers_by_function, box_answers}
use Rattle.slnf_replay.specs.Decided.{decided_here, decided_with_place, decided_lines}
use Rattle.slnf_replay.specs.Lines.{lane_of, content_with, answer_of, answers_by, answers_at, answers_of}

-- removals first, and then what the box agrees with
past_removals : {A C : Type 0} (box : Box A C) (content : C) (gone : List A) (visits : List (Visit A)) →
    Agrees box content (map removal gone ++ visits) → Agrees box (content_through box content (map removal gone)) visits
past_removals box content [] visits h = h
past_removals box content (x ∷ gone) visits h = past_removals box (box.next content x) gone visits h.1

-- two functions that give the same of the numbers of a range give the same of the range
flat_map_same : {X : Type 0} (f g : ℕ → List X) (a n : ℕ) → ((m : ℕ) → a ≤ m → m < a + n → f m ≡ g m) →
    flat_map f (range_with_len a n) ≡ flat_map g (range_with_len a n)
flat_map_same f g a zero h = refl
flat_map_same f g a (suc n) h =
    ap (λ l. l ++ flat_map f (range_with_len (a + 1) n)) (h a (omega arith) (omega arith))
    ∙ ap (λ l. g a ++ l) (flat_map_same f g (a + 1) n (λ m low high. h m (omega arith) (omega arith)))

module _ {F A C : Type 0} (s : Setting F A) (box : Box A C) (es : List Entry) (t : ℕ) (e : Entry) where
  abbrev visit : ℕ → Option (Visit A)
  visit d = visit_by s.scene es t e d

  abbrev here : ℕ → List BoxLine
  here d = decided_here s es t d (slice_get es d) (decision_at s.scene es d)

  abbrev seen : Decision F → Visit A
  seen x = record { arrival = s.scene.arrival x.first e; verdict = Some x.verdict }

  abbrev seen_if : Decision F → Bool → Option (Visit A)
  seen_if x b = cond b (Some (seen x)) None

  abbrev line : Entry → Decision F → BoxLine
  line f x = record { place = t + 1; lane = lane_of s f.incarnation; number = f.item; verdict = x.verdict }

  abbrev answers_with : C → ℕ → List ℕ → Option (Visit A) → List BoxLine
  answers_with content d ds o =
      answer_of s box content (t + 1) (slice_get es d) o ++ answers_by s box es t e (content_with box content o) ds

  -- no entry decides nothing
  undecided : (d : ℕ) (o : Option Entry) → decided_here s es t d o None ≡ []
  undecided d None = refl
  undecided d (Some f) = refl

  answer_none : (content : C) (o : Option Entry) → answer_of s box content (t + 1) o None ≡ []
  answer_none content None = refl
  answer_none content (Some f) = refl

  -- what is answered to the packets that are decided at these entries is what was decided of them
  answered_so : (content : C) (a n : ℕ) → Agrees box content (filter_map visit (range_with_len a n)) →
      answers_by s box es t e content (range_with_len a n) ≡ flat_map here (range_with_len a n)
  answered_so content a zero h = refl
  answered_so content a (suc n) h =
      go (decision_at s.scene es a) refl h (λ c k. answered_so c (a + 1) n k)
    where
      at : (x : Decision F) → decision_at s.scene es a ≡ Some x → (f : Entry) → slice_get es a ≡ Some f →
          (b : Bool) → Agrees box content (cons_option (seen_if x b) (filter_map visit (range_with_len (a + 1) n))) →
          ((c : C) → Agrees box c (filter_map visit (range_with_len (a + 1) n)) →
          answers_by s box es t e c (range_with_len (a + 1) n) ≡ flat_map here (range_with_len (a + 1) n)) →
          answers_with content a (range_with_len (a + 1) n) (seen_if x b)
          ≡ cond b (line f x ∷ []) [] ++ flat_map here (range_with_len (a + 1) n)
      at x w f v true k later =
          ap (λ o. answer_of s box content (t + 1) o (Some (seen x))
          ++ answers_by s box es t e (box.next content (s.scene.arrival x.first e)) (range_with_len (a + 1) n)) v
          ∙ ap (λ z. record { place = t + 1; lane = lane_of s f.incarnation; number = f.item; verdict = z } ∷
          answers_by s box es t e (box.next content (s.scene.arrival x.first e)) (range_with_len (a + 1) n)) k.0
          ∙ ap (λ l. line f x ∷ l) (later (box.next content (s.scene.arrival x.first e)) k.1)
      at x w f v false k later =
          ap (λ l. l ++ answers_by s box es t e content (range_with_len (a + 1) n))
          (answer_none content (slice_get es a))
          ∙ later content k

      go : (o : Option (Decision F)) → decision_at s.scene es a ≡ o →
          Agrees box content (cons_option (visit a) (filter_map visit (range_with_len (a + 1) n))) →
          ((c : C) → Agrees box c (filter_map visit (range_with_len (a + 1) n)) →
          answers_by s box es t e c (range_with_len (a + 1) n) ≡ flat_map here (range_with_len (a + 1) n)) →
          answers_with content a (range_with_len (a + 1) n) (visit a)
          ≡ here a ++ flat_map here (range_with_len (a + 1) n)
      go None w k later =
          let none : visit a ≡ None =
          ap (option_and_then (λ (x : Decision F). seen_if x (s.scene.place es a x.first x.verdict == t))) w in
          ap (answers_with content a (range_with_len (a + 1) n)) none
          ∙ ap (λ l. l ++ answers_by s box es t e content (range_with_len (a + 1) n))
          (answer_none content (slice_get es a))
          ∙ later content
          (subst (λ o. Agrees box content (cons_option o (filter_map visit (range_with_len (a + 1) n)))) none k)
          ∙ ap (λ l. l ++ flat_map here (range_with_len (a + 1) n))
          (sym (ap (decided_here s es t a (slice_get es a)) w ∙ undecided a (slice_get es a)))
      go (Some x) w k later =
          let d : (f : Entry) × IsDecision s.scene es a x f = is_decision s.scene es a x w in
          let b : Bool = s.scene.place es a x.first x.verdict == t in
          let is : visit a ≡ seen_if x b =
          ap (option_and_then (λ (x : Decision F). seen_if x (s.scene.place es a x.first x.verdict == t))) w in
          ap (answers_with content a (range_with_len (a + 1) n)) is
          ∙ at x w d.0 d.1.at b
          (subst (λ o. Agrees box content (cons_option o (filter_map visit (range_with_len (a + 1) n)))) is k) later
          ∙ ap (λ l. l ++ flat_map here (range_with_len (a + 1) n))
          (sym (ap (decided_here s es t a (slice_get es a)) w
          ∙ ap (λ o. decided_here s es t a o (Some x)) d.1.at))

-- The answers of a box that explains a list are what is decided of its packets.
pub explained_answers : {F A C : Type 0} (s : Setting F A) (box : Box A C) (Same : C → Cells → Type 0)
    (es : List Entry) → IsExplained s.scene box Same es → answers_of s box es ≡ decided_lines s es
explained_answers s box Same es explained =
    flat_map_same (λ t. answers_at s box es t (slice_get es t)) (decided_with_place s es) 0 (length es)
    (λ t low high. at t (omega (arith, high)))
  where
    at : (t : ℕ) → t < length es → answers_at s box es t (slice_get es t) ≡ decided_with_place s es t
    at t within =
        let r : (e : Entry) × IsSplit es t e = split_at es t within in
        let content = content_after s.scene box es t in
        ap (answers_at s box es t) r.1.at
        ∙ answered_so s box es t r.0 (content_through box content (map removal (s.scene.removals r.0))) 0 (length es)
        (past_removals box content (s.scene.removals r.0)
        (filter_map (visit_by s.scene es t r.0) (range_with_len 0 (length es)))
        (explained.verdicts t r.0 r.1.at))

-- The same of the box of a plan's function.
by_function : (f : FunctionPlan) (s : Setting AnyFlight Arrival) (es : List Entry) → IsOneBoxBy f s es →
    answers_by_function f s es ≡ decided_lines s es
by_function (Nat pool) s es whole = explained_answers s _ _ es whole.one_box.explained
by_function (Firewall inside rules) s es whole = explained_answers s _ _ es whole.one_box.explained
by_function (Balancer service) s es whole = explained_answers s _ _ es whole.one_box.explained

pub decided_answers : (plan : Plan) (lanes : List Lane) (es : List Entry) → IsTrue (has_types plan.function) →
    IsRun (setting_of plan lanes) es → box_answers plan lanes es ≡ decided_lines (setting_of plan lanes) es
decided_answers plan lanes es types run =
    by_function plan.function (setting_of plan lanes) es (one_box_of_plan plan lanes es types run)
