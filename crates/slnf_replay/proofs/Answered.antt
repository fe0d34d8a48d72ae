-- What the box answers at one entry more.
use Rattle.std.proofs.Common.{◌≡◌, inl, inr, ℕ, suc, zero, ◌+◌, ◌-◌, ◌<◌, ◌≤◌, ◌==◌, Bool, true, false, ◌||◌, cond, Option, Some, None, List, [], ◌∷◌, ◌++◌, length, map, get_or, slice_get, refl, sym, ap, ◌∙◌, arith, append_assoc, append-nil, eqb-true, eq-eqb}
use Rattle.std.specs.List.{list_any, range_with_len, flat_map}
use Rattle.std.specs.Option.{option_map, option_and_then}
use Rattle.std.proofs.lemmas.Bool.{cases_eq}
use Rattle.std.proofs.lemmas.List.FromFn.{get_or-map-range_with_len}
use Rattle.std.proofs.lemmas.Option.{slice_get_within}
use Rattle.slnf_access.specs.declared.requests.Entry.{Entry}
use Rattle.slnf_plan.specs.declared.plan.Plan.{Plan}
use Rattle.slnf_run.specs.Scene.{Scene}
use Rattle.slnf_run.specs.Setting.{Setting}
use Rattle.slnf_run.specs.Run.{IsRun}
use Rattle.slnf_run.specs.Steady.{IsSteady, HasOwnPlaces}
use Rattle.slnf_run.specs.Boxes.{Box, content_through, content_step, content_after}
use Rattle.slnf_run.specs.Visits.{Decision, Visit, removal, decision_at, visit_by, visits_of}
use Rattle.slnf_run.proofs.DecidedOnce.{IsDecision, is_decision, once}
use Rattle.slnf_run.proofs.NextAccess.{same_flight}
use Rattle.slnf_run.proofs.OneVisit.{IsVisit, is_visit, own_visit, one_visit, no_visit}
use Rattle.slnf_flight.specs.declared.flights.AnyFlight.{AnyFlight}
use Rattle.slnf_flight.specs.declared.lanes.Lane.{Lane}
use Rattle.slnf_flight.specs.Flights.{Arrival}
use Rattle.slnf_flight.specs.PlanSetting.{setting_of}
use Rattle.slnf_setting.proofs.PlanWhole.{plan_sound}
use Rattle.slnf_journal.specs.declared.box_lines.BoxLine.{BoxLine}
use Rattle.slnf_replay.specs.declared.seats.Seat.{Seat}
use Rattle.slnf_replay.specs.declared.packets.Sighting.{Sighting}
use Rattle.slnf_replay.specs.Boxes.{arrival_of}
use Rattle.slnf_replay.specs.Lines.{lane_of, content_with, answer_to, answer_of, answers_by, answers_at, answers_of}
use Rattle.slnf_replay.specs.Packets.{sighting_of, choice_at}
use Rattle.slnf_replay.specs.Places.{place_of, is_there, is_place, places_by}
use Rattle.slnf_replay.specs.Seats.{seats_from, seat_in}
use Rattle.slnf_replay.proofs.AtEntries.{IsAtEntry, at_entry}
use Rattle.slnf_replay.proofs.Scenes.{own_places, no_removals, arrival_is}
use Rattle.slnf_replay.proofs.Seating.{seated_lane}
use Rattle.slnf_replay.proofs.Sightings.{IsSighting, starts, seated_seen, decided_seated}

-- a number of a range that passes, and all that don't
some_of : (p : ℕ → Bool) (a n : ℕ) → list_any p (range_with_len a n) ≡ true → (d : ℕ) × (p d ≡ true)
some_of p a zero h = absurd (cc)
some_of p a (suc n) h = go (p a) refl h (some_of p (a + 1) n)
  where
    go : (b : Bool) → p a ≡ b → (b || list_any p (range_with_len (a + 1) n)) ≡ true →
        (list_any p (range_with_len (a + 1) n) ≡ true → (d : ℕ) × (p d ≡ true)) → (d : ℕ) × (p d ≡ true)
    go true w k later = (a, w)
    go false w k later = later k

none_of : (p : ℕ → Bool) (a n : ℕ) → list_any p (range_with_len a n) ≡ false → (d : ℕ) → a ≤ d → d < a + n →
    p d ≡ false
none_of p a zero h d low high = absurd (omega arith)
none_of p a (suc n) h d low high = go (p a) refl h (λ k above. none_of p (a + 1) n k d above (omega arith))
  where
    here : p a ≡ false → d ≡ a → p d ≡ false
    here w same = ap p same ∙ w

    go : (b : Bool) → p a ≡ b → (b || list_any p (range_with_len (a + 1) n)) ≡ false →
        (list_any p (range_with_len (a + 1) n) ≡ false → a + 1 ≤ d → p d ≡ false) → p d ≡ false
    go true w k later = absurd (cc)
    go false w k later = elim (cases_eq d a) [
      | inl same ↦ here w same
      | inr other ↦ later k (omega (arith, other, low))
    ]

-- the answers so far, and those at the entries from the number n on, are all
abbrev pub AreAnswersFrom : {F A C : Type 0} → Setting F A → Box A C → List Entry → ℕ → List BoxLine → Type 0
AreAnswersFrom s box j n answers =
    answers ++ flat_map (λ t. answers_at s box j t (slice_get j t)) (range_with_len n (length j - n)) ≡ answers_of s box j

-- one entry's answers more
answers_next : (f : ℕ → List BoxLine) (n size : ℕ) (answers more here total : List BoxLine) → n < size → f n ≡ here →
    more ≡ answers ++ here → answers ++ flat_map f (range_with_len n (size - n)) ≡ total →
    more ++ flat_map f (range_with_len (n + 1) (size - (n + 1))) ≡ total
answers_next f n size answers more here total l is push h =
    let q : size - n ≡ suc (size - (n + 1)) = omega arith in
    let rest : List BoxLine = flat_map f (range_with_len (n + 1) (size - (n + 1))) in
    ap (λ m. m ++ rest) push ∙ append_assoc answers here rest
    ∙ ap (λ m. answers ++ (m ++ rest)) (sym is)
    ∙ ap (λ m. answers ++ flat_map f (range_with_len n m)) (sym q) ∙ h

-- no entry is left
pub answers_all : {F A C : Type 0} (s : Setting F A) (box : Box A C) (j : List Entry) (n : ℕ) (answers : List BoxLine) →
    length j ≤ n → AreAnswersFrom s box j n answers → answers ≡ answers_of s box j
answers_all s box j n answers l h =
    let q : length j - n ≡ 0 = omega arith in
    sym (append-nil answers)
    ∙ ap (λ m. answers ++ flat_map (λ t. answers_at s box j t (slice_get j t)) (range_with_len n m)) (sym q) ∙ h

module _ {F A C : Type 0} (s : Setting F A) (box : Box A C) (j : List Entry) (t : ℕ) (e : Entry) where
  answer_none : (content : C) (place : ℕ) (o : Option Entry) → answer_of s box content place o None ≡ []
  answer_none content place None = refl
  answer_none content place (Some f) = refl

  abbrev visit : ℕ → Option (Visit A)
  visit d = visit_by s.scene j t e d

  abbrev answers_with : C → ℕ → List ℕ → Option (Visit A) → List BoxLine
  answers_with content d ds o =
      answer_of s box content (t + 1) (slice_get j d) o ++ answers_by s box j t e (content_with box content o) ds

  -- no packet has its place there
  answers_none : (content : C) (a n : ℕ) → ((d : ℕ) → a ≤ d → visit d ≡ None) →
      answers_by s box j t e content (range_with_len a n) ≡ []
  answers_none content a zero none = refl
  answers_none content a (suc n) none =
      ap (answers_with content a (range_with_len (a + 1) n)) (none a (omega arith))
      ∙ ap (λ l. l ++ answers_by s box j t e content (range_with_len (a + 1) n))
      (answer_none content (t + 1) (slice_get j a))
      ∙ answers_none content (a + 1) n (λ d low. none d (omega arith))

  -- one packet has
  answers_one : (content : C) (a n d : ℕ) (v : Visit A) → a ≤ d → d < a + n → visit d ≡ Some v →
      ((b : ℕ) (w : Visit A) → visit b ≡ Some w → b ≡ d) → answers_by s box j t e content (range_with_len a n)
      ≡ answer_of s box content (t + 1) (slice_get j d) (Some v)
  answers_one content a zero d v low high is one = absurd (omega arith)
  answers_one content a (suc n) d v low high is one = elim (cases_eq a d) [
    | inl same ↦
        ap (answers_with content a (range_with_len (a + 1) n)) (ap visit same ∙ is)
        ∙ ap (λ l. answer_of s box content (t + 1) (slice_get j a) (Some v) ++ l)
        (answers_none (box.next content v.arrival) (a + 1) n
        (λ b above. another b (λ e. omega (arith, same, e, above)) (visit b) refl))
        ∙ append-nil (answer_of s box content (t + 1) (slice_get j a) (Some v))
        ∙ ap (λ m. answer_of s box content (t + 1) (slice_get j m) (Some v)) same
    | inr other ↦
        ap (answers_with content a (range_with_len (a + 1) n)) (another a other (visit a) refl)
        ∙ ap (λ l. l ++ answers_by s box j t e content (range_with_len (a + 1) n))
        (answer_none content (t + 1) (slice_get j a))
        ∙ answers_one content (a + 1) n d v (omega (arith, other, low)) (omega arith) is one
  ]
    where
      another : (b : ℕ) → (b ≡ d → ⊥) → (o : Option (Visit A)) → visit b ≡ o → visit b ≡ None
      another b other None w = w
      another b other (Some x) w = absurd (other (one b x w))

  -- the visit of a packet that has its place there
  visit_there : (d : ℕ) (x : Decision F) → decision_at s.scene j d ≡ Some x → s.scene.place j d x.first x.verdict ≡ t →
      visit d ≡ Some (record { arrival = s.scene.arrival x.first e; verdict = Some x.verdict })
  visit_there d x decided place =
      ap (option_and_then (λ (x : Decision F). cond (s.scene.place j d x.first x.verdict == t)
      (Some (let v : Visit A = record { arrival = s.scene.arrival x.first e; verdict = Some x.verdict } in v)) None))
      decided
      ∙ ap (λ b. cond b (Some (let v : Visit A = record {
        arrival = s.scene.arrival x.first e;
        verdict = Some x.verdict;
      } in v)) None) (eq-eqb (s.scene.place j d x.first x.verdict) t place)

  -- a packet has its place there
  pub record IsCome : Type 0 where
    pub d : ℕ
    pub x : Decision F
    pub decided : decision_at s.scene j d ≡ Some x
    pub place : s.scene.place j d x.first x.verdict ≡ t

  come : is_place s.scene j (length j) t ≡ true → IsCome
  come h =
      let r : (d : ℕ) × (is_there t (place_of s.scene j d) ≡ true) =
      some_of (λ d. is_there t (place_of s.scene j d)) 0 (length j) h in
      go r.0 (decision_at s.scene j r.0) refl r.1
    where
      go : (d : ℕ) (o : Option (Decision F)) → decision_at s.scene j d ≡ o → is_there t
          (option_map (λ (x : Decision F). s.scene.place j d x.first x.verdict) o) ≡ true → IsCome
      go d None w k = absurd (cc)
      go d (Some x) w k = record {
        d = d;
        x = x;
        decided = w;
        place = eqb-true (s.scene.place j d x.first x.verdict) t k;
      }

  -- or none has
  not_come : is_place s.scene j (length j) t ≡ false → (d : ℕ) → visit d ≡ None
  not_come h d = go (decision_at s.scene j d) refl
    where
      at : (x : Decision F) → decision_at s.scene j d ≡ Some x → (b : Bool) →
          (s.scene.place j d x.first x.verdict == t) ≡ b → visit d ≡ None
      at x w true b =
          let r : (f : Entry) × IsDecision s.scene j d x f = is_decision s.scene j d x w in
          let within : d < length j = slice_get_within j d r.0 r.1.at in
          let no : is_there t (place_of s.scene j d) ≡ false =
          none_of (λ d. is_there t (place_of s.scene j d)) 0 (length j) h d (omega arith) (omega arith) in
          let yes : is_there t (place_of s.scene j d) ≡ true =
          ap (λ o. is_there t (option_map (λ (x : Decision F). s.scene.place j d x.first x.verdict) o)) w ∙ b in
          absurd (cc)
      at x w false b =
          ap (option_and_then (λ (x : Decision F). cond (s.scene.place j d x.first x.verdict == t)
          (Some (let v : Visit A = record { arrival = s.scene.arrival x.first e; verdict = Some x.verdict } in v)) None)) w
          ∙ ap (λ b. cond b (Some (let v : Visit A = record {
            arrival = s.scene.arrival x.first e;
            verdict = Some x.verdict;
          } in v)) None) b

      go : (o : Option (Decision F)) → decision_at s.scene j d ≡ o → visit d ≡ None
      go None w = ap (option_and_then (λ (x : Decision F). cond (s.scene.place j d x.first x.verdict == t)
          (Some (let v : Visit A = record { arrival = s.scene.arrival x.first e; verdict = Some x.verdict } in v)) None)) w
      go (Some x) w = at x w (s.scene.place j d x.first x.verdict == t) refl

  module _ (there : slice_get j t ≡ Some e) (clear : s.scene.removals e ≡ []) where
    abbrev content : C
    content = content_after s.scene box j t

    content_next : (visits : List (Visit A)) → visits_of s.scene j t e ≡ map removal (s.scene.removals e) ++ visits →
        content_after s.scene box j (t + 1) ≡ content_through box content visits
    content_next visits is =
        let q : t + 1 ≡ suc t = omega arith in
        ap (content_after s.scene box j) q
        ∙ ap (content_step s.scene box j t content) there
        ∙ ap (content_through box content) (is ∙ ap (λ l. map removal l ++ visits) clear)

    answers_here : answers_at s box j t (slice_get j t) ≡ answers_by s box j t e content (range_with_len 0 (length j))
    answers_here =
        ap (answers_at s box j t) there
        ∙ ap (λ l. answers_by s box j t e (content_through box content (map removal l)) (range_with_len 0 (length j)))
        clear

    pub unmarked_content : is_place s.scene j (length j) t ≡ false → content_after s.scene box j (t + 1) ≡ content
    unmarked_content h = content_next [] (no_visit s.scene j t e (not_come h))

    pub unmarked_answers : is_place s.scene j (length j) t ≡ false → answers_at s box j t (slice_get j t) ≡ []
    unmarked_answers h = answers_here ∙ answers_none content 0 (length j) (λ d low. not_come h d)

    module _ (steady : (i : ℕ) → IsSteady (s.scene.machine i)) (own : HasOwnPlaces s.scene j)
        (marked : is_place s.scene j (length j) t ≡ true) where
      pub comes : IsCome
      comes = come marked

      abbrev seen : Visit A
      seen = record { arrival = s.scene.arrival comes.x.first e; verdict = Some comes.x.verdict }

      visits : visit comes.d ≡ Some seen
      visits = visit_there comes.d comes.x comes.decided comes.place

      -- the decision's own entry
      pub decider : (f : Entry) × IsDecision s.scene j comes.d comes.x f
      decider = is_decision s.scene j comes.d comes.x comes.decided

      pub own_item : (e.incarnation ≡ decider.0.incarnation) × (e.item ≡ decider.0.item)
      own_item = own comes.d decider.0 e comes.x decider.1.at comes.decided (ap (slice_get j) comes.place ∙ there)

      only : (b : ℕ) (w : Visit A) → visit b ≡ Some w → b ≡ comes.d
      only b w k =
          let r : IsVisit s.scene j t e b w = is_visit s.scene j t e b w k in
          let its : (e.incarnation ≡ r.decider.incarnation) × (e.item ≡ r.decider.item) =
          own_visit s.scene j t e b w own there r in
          once s.scene j comes.d b comes.x r.decision decider.0 r.decider steady decider.1 r.whole
          (sym its.0 ∙ own_item.0) (sym its.1 ∙ own_item.1)

      pub marked_content : content_after s.scene box j (t + 1) ≡ box.next content (s.scene.arrival comes.x.first e)
      marked_content =
          content_next (seen ∷ []) (one_visit s.scene j t e comes.d seen steady own there visits)

      pub marked_answers : answers_at s box j t (slice_get j t) ≡ record {
        place = t + 1;
        lane = lane_of s e.incarnation;
        number = e.item;
        verdict = box.verdict content (s.scene.arrival comes.x.first e);
      } ∷ []
      marked_answers =
          let within : comes.d < length j = slice_get_within j comes.d decider.0 decider.1.at in
          answers_here
          ∙ answers_one content 0 (length j) comes.d seen (omega arith) (omega arith) visits only
          ∙ ap (λ o. answer_of s box content (t + 1) o (Some seen)) decider.1.at
          ∙ ap (λ i. answer_to box content (t + 1) (lane_of s i) decider.0.item (Some seen)) (sym own_item.0)
          ∙ ap (λ k. answer_to box content (t + 1) (lane_of s e.incarnation) k (Some seen)) (sym own_item.1)

-- The same in a run of a plan, by the packet of the entry.
module _ {C : Type 0} (plan : Plan) (lanes : List Lane) (box : Box Arrival C) (j : List Entry)
    (run : IsRun (setting_of plan lanes) j) (t : ℕ) (e : Entry) (there : slice_get j t ≡ Some e) where
  abbrev s : Setting AnyFlight Arrival
  s = setting_of plan lanes

  abbrev clear : s.scene.removals e ≡ []
  clear = no_removals plan.function plan.epochs lanes e

  abbrev steady : (i : ℕ) → IsSteady (s.scene.machine i)
  steady = (plan_sound plan lanes).steady

  abbrev own : HasOwnPlaces s.scene j
  own = own_places plan.function plan.epochs lanes j

  pub plan_unmarked_content : is_place s.scene j (length j) t ≡ false → content_after s.scene box j (t + 1)
      ≡ content_after s.scene box j t
  plan_unmarked_content h = unmarked_content s box j t e there clear h

  pub plan_unmarked_answers : is_place s.scene j (length j) t ≡ false → answers_at s box j t (slice_get j t) ≡ []
  plan_unmarked_answers h = unmarked_answers s box j t e there clear h

  -- so the answers so far stay
  pub plan_unmarked_next : is_place s.scene j (length j) t ≡ false → (answers : List BoxLine) →
      AreAnswersFrom s box j t answers → AreAnswersFrom s box j (t + 1) answers
  plan_unmarked_next h answers so_far =
      answers_next (λ t. answers_at s box j t (slice_get j t)) t (length j) answers answers [] (answers_of s box j)
      (slice_get_within j t e there) (plan_unmarked_answers h) (sym (append-nil answers)) so_far

  module _ (marked : is_place s.scene j (length j) t ≡ true) where
    abbrev at : IsAtEntry s.scene j t e
    at = at_entry s j run t e there

    abbrev here : IsCome s box j t e
    here = comes s box j t e there clear steady own marked

    abbrev by : (f : Entry) × IsDecision s.scene j here.d here.x f
    by = decider s box j t e there clear steady own marked

    mine : (e.incarnation ≡ by.0.incarnation) × (e.item ≡ by.0.item)
    mine = own_item s box j t e there clear steady own marked

    first_same : here.x.first ≡ at.first
    first_same =
        same_flight here.x.first at.first
        (sym by.1.begins ∙ ap (λ i. s.scene.begins i by.0.item) (sym mine.0)
        ∙ ap (s.scene.begins e.incarnation) (sym mine.1) ∙ at.begins)

    -- a packet comes where there is a place
    pub plan_marked_seen : sighting_of lanes (seats_from 0 plan.epochs) e ≡ None → ⊥
    plan_marked_seen none =
        let seat : (seat : Seat) × (seat_in (seats_from 0 plan.epochs) by.0.incarnation ≡ Some seat) =
        decided_seated plan lanes j run here.d by.0 here.x by.1.at here.decided in
        let seated : seat_in (seats_from 0 plan.epochs) e.incarnation ≡ Some seat.0 =
        ap (seat_in (seats_from 0 plan.epochs)) mine.0 ∙ seat.1 in
        let seen : (x : Sighting) × (sighting_of lanes (seats_from 0 plan.epochs) e ≡ Some x) =
        seated_seen plan lanes j t e at seat.0 seated in
        let no : ◌≡◌ {A = Option Sighting} None (Some seen.0) = sym none ∙ seen.1 in
        cc

    module _ (x : Sighting) (r : IsSighting lanes (seats_from 0 plan.epochs) e x) where
      abbrev arrives : Arrival
      arrives = arrival_of x.packet (choice_at plan.function (slice_get plan.epochs x.epoch) x.packet e)

      arrival_same : s.scene.arrival here.x.first e ≡ arrives
      arrival_same =
          ap (λ first. s.scene.arrival first e) first_same
          ∙ arrival_is plan.function plan.epochs lanes (slice_get plan.epochs x.epoch) x.packet e at.first
          (starts plan lanes j t e at x r)

      pub plan_marked_content : content_after s.scene box j (t + 1) ≡ box.next (content_after s.scene box j t) arrives
      plan_marked_content =
          marked_content s box j t e there clear steady own marked
          ∙ ap (box.next (content_after s.scene box j t)) arrival_same

      plan_marked_answers : answers_at s box j t (slice_get j t) ≡ record {
        place = t + 1;
        lane = x.lane;
        number = e.item;
        verdict = box.verdict (content_after s.scene box j t) arrives;
      } ∷ []
      plan_marked_answers =
          marked_answers s box j t e there clear steady own marked
          ∙ ap (λ v. record {
            place = t + 1;
            lane = lane_of s e.incarnation;
            number = e.item;
            verdict = box.verdict (content_after s.scene box j t) v;
          } ∷ []) arrival_same
          ∙ ap (λ l. record {
            place = t + 1;
            lane = l;
            number = e.item;
            verdict = box.verdict (content_after s.scene box j t) arrives;
          } ∷ []) (seated_lane plan lanes e.incarnation r.seat r.seated ∙ sym r.lane)

      -- and there is one answer more
      pub plan_marked_next : (answers more : List BoxLine) (answer : BoxLine) → answer ≡ record {
        place = t + 1;
        lane = x.lane;
        number = e.item;
        verdict = box.verdict (content_after s.scene box j t) arrives;
      } → more ≡ answers ++ answer ∷ [] → AreAnswersFrom s box j t answers → AreAnswersFrom s box j (t + 1) more
      plan_marked_next answers more answer is push so_far =
          answers_next (λ t. answers_at s box j t (slice_get j t)) t (length j) answers more (answer ∷ [])
          (answers_of s box j) (slice_get_within j t e there) (plan_marked_answers ∙ ap (λ a. a ∷ []) (sym is)) push so_far

-- whether an entry is a place
pub mark_at : {F A : Type 0} (s : Scene F A) (j : List Entry) (places : List Bool) (n : ℕ) (d : Bool) → n < length j →
    places ≡ places_by s j (length j) → get_or places n d ≡ is_place s j (length j) n
mark_at s j places n d l are =
    let q : 0 + n ≡ n = omega arith in
    ap (λ l. get_or l n d) are
    ∙ get_or-map-range_with_len (is_place s j (length j)) 0 (length j) n n d l q
