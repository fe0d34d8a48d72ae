-- A box that keeps up with each entry explains the list: for places at entries of the packets' own, and for deciding
-- entries.
use Rattle.std.proofs.Common.{◌≡◌, ℕ, zero, suc, ◌<◌, ◌≤◌, ◌⊎◌, inl, inr, Option, Some, None, List, [], ◌∷◌, ◌++◌, length, map, take, slice_get, refl, ap, sym, ◌∙◌, subst, arith}
use Rattle.std.proofs.Math.Seq.{take-append_seam}
use Rattle.std.proofs.Math.Nat.{eq-or-lt_of_le}
use Rattle.std.specs.Option.{option_and_then}
use Rattle.std.proofs.lemmas.Bool.{eq-eqb}
use Rattle.std.proofs.lemmas.Option.{slice_get_within, same_Some}
use Rattle.slnf_base.specs.declared.packets.Verdict.{Verdict}
use Rattle.slnf_access.specs.declared.requests.Entry.{Entry}
use Rattle.slnf_access.specs.Map.{Cells, empty, map_after, IsLegal}
use Rattle.slnf_access.specs.Machines.{Machine, Flies, stand_step, stand_after, decided_at}
use Rattle.slnf_run.specs.Scene.{Scene, own_of, stand_of}
use Rattle.slnf_run.specs.Visits.{Decision, Visit, removal, newly, decided_by, decision_of, decision_at, visit_by, visits_of}
use Rattle.slnf_run.specs.Boxes.{Box, content_through, Agrees, IsExplained}
use Rattle.slnf_run.specs.Steady.{IsSteady, HasOwnPlaces}
use Rattle.slnf_run.specs.Keeps.{HasPaths, IsNext, IsKept, cleared, IsPlaced, Comes, Keeps, Recalled}
use Rattle.slnf_run.proofs.Splits.{slice_get-split}
use Rattle.slnf_run.proofs.Picks.{picks_none}
use Rattle.slnf_run.proofs.DecidedOnce.{IsDecision, is_decision, decision_of_parts}
use Rattle.slnf_run.proofs.OneVisit.{IsVisit, is_visit, own_visit, one_visit}
use Rattle.slnf_run.proofs.Explaining.{explained}
use Rattle.slnf_run.proofs.NextAccess.{same_flight, map_after-push, is_next}
use Rattle.slnf_run.proofs.Recalled.{recalled}
use Rattle.slnf_access.specs.Order.{RisesOnKeys}

-- among the first n numbers there is one at which something is picked, or none
searched : {Y : Type 0} (f : ℕ → Option Y) (n : ℕ) → ((d : ℕ) × (y : Y) × (f d ≡ Some y))
    ⊎ ((d : ℕ) → d < n → f d ≡ None)
searched f zero = inr (λ d h. absurd (omega arith))
searched {Y = Y} f (suc n) = go (searched f n)
  where
    both : ((d : ℕ) → d < n → f d ≡ None) → f n ≡ None → (d : ℕ) → (d ≡ n) ⊎ (d < n) → f d ≡ None
    both none w d (inl same) = ap f same ∙ w
    both none w d (inr less) = none d less

    here : ((d : ℕ) → d < n → f d ≡ None) → (o : Option Y) → f n ≡ o → ((d : ℕ) × (y : Y) × (f d ≡ Some y))
        ⊎ ((d : ℕ) → d < suc n → f d ≡ None)
    here none (Some y) w = inl (n, y, w)
    here none None w = inr (λ d h. let le : d ≤ n = omega arith in both none w d (eq-or-lt_of_le le))

    go : ((d : ℕ) × (y : Y) × (f d ≡ Some y)) ⊎ ((d : ℕ) → d < n → f d ≡ None) → ((d : ℕ) × (y : Y) × (f d ≡ Some y))
        ⊎ ((d : ℕ) → d < suc n → f d ≡ None)
    go (inl there) = inl there
    go (inr none) = here none (f n) refl

-- a box agrees with removals
agrees_removals : {A C : Type 0} (box : Box A C) (c : C) (xs : List A) (vs : List (Visit A)) →
    Agrees box (content_through box c (map removal xs)) vs → Agrees box c (map removal xs ++ vs)
agrees_removals box c [] vs h = h
agrees_removals box c (x ∷ xs) vs h = (tt, agrees_removals box (box.next c x) xs vs h)

content_removals : {A C : Type 0} (box : Box A C) (c : C) (xs : List A) (vs : List (Visit A)) →
    content_through box c (map removal xs ++ vs) ≡ content_through box (content_through box c (map removal xs)) vs
content_removals box c [] vs = refl
content_removals box c (x ∷ xs) vs = content_removals box (box.next c x) xs vs

-- a decision that has its place here comes here
visit_of_decision : {F A : Type 0} (s : Scene F A) (es : List Entry) (number : ℕ) (e : Entry) (d : ℕ)
    (x : Decision F) → decision_at s es d ≡ Some x → s.place es d x.first x.verdict ≡ number →
    visit_by s es number e d ≡ Some (record { arrival = s.arrival x.first e; verdict = Some x.verdict })
visit_of_decision s es number e d x h place = rw (h, eq-eqb (s.place es d x.first x.verdict) number place) refl

-- What holds at first of what the box keeps, and after each entry if it did before, shows that the box explains the
-- list, where each packet has its place at an entry of its own.
module _ {F A C : Type 0} (s : Scene F A) (box : Box A C) (es : List Entry) (Inv : List Entry → C → Type 0)
    (steady : (i : ℕ) → IsSteady (s.machine i)) (own : HasOwnPlaces s es) (legal : IsLegal es) (paths : HasPaths s es)
    (at_first : Inv [] box.empty) (at_entry : (before later : List Entry) (e : Entry) (first flight : F) (c : C) → es
    ≡ before ++ e ∷ later → IsNext s (map_after empty before) (own_of e.incarnation e.item before) e first flight →
    Inv before c → (o : Option Verdict) → Comes s es (length before) e first o →
    IsKept box (Inv (before ++ e ∷ [])) (cleared s box c e) (s.arrival first e) o) where
  step : (before later : List Entry) (e : Entry) (c : C) → es ≡ before ++ e ∷ later → Inv before c →
      Agrees box c (visits_of s es (length before) e)
      × Inv (before ++ e ∷ []) (content_through box c (visits_of s es (length before) e))
  step before later e c split inv =
      let r : (first : F) × (flight : F) × IsNext s (map_after empty before)
      (own_of e.incarnation e.item before) e first flight = is_next s es legal paths before later e split in
      go r.0 r.1 r.2 (searched (visit_by s es n e) (length es))
    where
      n : ℕ
      n = length before

      at : slice_get es n ≡ Some e
      at = ap (λ xs. slice_get xs n) split ∙ slice_get-split before later e

      Right : List (Visit A) → Type 0
      Right vs = Agrees box c vs × Inv (before ++ e ∷ []) (content_through box c vs)

      right : (vs : List (Visit A)) → Agrees box (cleared s box c e) vs →
          Inv (before ++ e ∷ []) (content_through box (cleared s box c e) vs) → visits_of s es n e
          ≡ map removal (s.removals e) ++ vs → Right (visits_of s es n e)
      right vs h k w = subst Right (sym w) (
        agrees_removals box c (s.removals e) vs h,
        subst (Inv (before ++ e ∷ [])) (sym (content_removals box c (s.removals e) vs)) k,
      )

      go : (first flight : F) → IsNext s (map_after empty before)
          (own_of e.incarnation e.item before) e first flight →
          ((d : ℕ) × (v : Visit A) × (visit_by s es n e d ≡ Some v))
          ⊎ ((d : ℕ) → d < length es → visit_by s es n e d ≡ None) → Right (visits_of s es n e)
      go first flight next (inr none) =
          let comes : Comes s es n e first None = λ d x h place. let q : (f : Entry) × IsDecision s es d x f =
          is_decision s es d x h in let within : d < length es = slice_get_within es d q.0 q.1.at in
          let gone : visit_by s es n e d ≡ None = none d within in let there : visit_by s es n e d
          ≡ Some (record { arrival = s.arrival x.first e; verdict = Some x.verdict }) =
          visit_of_decision s es n e d x h place in cc in
          right [] tt (at_entry before later e first flight c split next inv None comes)
          (ap (λ ys. map removal (s.removals e) ++ ys)
          (picks_none (visit_by s es n e) 0 (length es) (λ d low high. none d (omega arith))))
      go first flight next (inl there) =
          let d : ℕ = there.0 in
          let v : Visit A = there.1 in
          let q : IsVisit s es n e d v = is_visit s es n e d v there.2 in
          let mine : (e.incarnation ≡ q.decider.incarnation) × (e.item ≡ q.decider.item) =
          own_visit s es n e d v own at q in
          let Begins : ℕ → ℕ → Type 0 = λ i k. s.begins i k ≡ Flies q.decision.first in
          let begins : s.begins e.incarnation e.item ≡ Flies q.decision.first =
          subst (λ i. Begins i e.item) (sym mine.0)
          (subst (λ k. Begins q.decider.incarnation k) (sym mine.1) q.whole.begins) in
          let same : q.decision.first ≡ first = same_flight q.decision.first first (sym begins ∙ next.begins) in
          let placed : IsPlaced s es n e q.decision.first q.decision.verdict =
          record {
            d = d;
            decider = q.decider;
            decided = q.decided;
            at = q.whole.at;
            incarnation =
                sym mine.0;
            item = sym mine.1;
            place = q.place;
          } in
          let kept : IsKept box (Inv (before ++ e ∷ [])) (cleared s box c e) (s.arrival q.decision.first e)
          (Some q.decision.verdict) =
          subst (λ f. IsKept box (Inv (before ++ e ∷ [])) (cleared s box c e) (s.arrival f e)
          (Some q.decision.verdict)) (sym same)
          (at_entry before later e first flight c split next inv (Some q.decision.verdict)
          (subst (λ f. IsPlaced s es n e f q.decision.verdict) same placed)) in
          let visit : Visit A = record {
            arrival = s.arrival q.decision.first e;
            verdict =
                Some q.decision.verdict;
          } in
          right (visit ∷ []) (kept.0, tt) kept.1 (one_visit s es n e d v steady own at there.2
          ∙ ap (λ w. map removal (s.removals e) ++ w ∷ []) q.visit)

  pub explained_by : (Same : C → Cells → Type 0) →
      ((before : List Entry) (c : C) → Inv before c → Same c (map_after empty before)) → IsExplained s box Same es
  explained_by Same same = explained s box es Inv at_first step Same same

-- places that are deciding entries are the packets' own
pub own_deciders : {F A : Type 0} (s : Scene F A) (es : List Entry) →
    ((es : List Entry) (number : ℕ) (first : F) (verdict : Verdict) → s.place es number first verdict ≡ number) →
    HasOwnPlaces s es
own_deciders s es at_decider number e place decision at decided there =
    let same : place ≡ e = same_Some place e (sym there
    ∙ ap (slice_get es) (at_decider es number decision.first decision.verdict) ∙ at) in
    (ap (λ (f : Entry). f.incarnation) same, ap (λ (f : Entry). f.item) same)

-- the decision at an entry, as the machine goes there
pub decision_here : {F A : Type 0} (s : Scene F A) (es before later : List Entry) (e : Entry) (cells : Cells)
    (first flight : F) → es ≡ before ++ e ∷ later →
    IsNext s cells (own_of e.incarnation e.item before) e first flight → decision_at s es (length before)
    ≡ decision_of (Flies first) (newly ((s.machine e.incarnation).decided flight)
    (decided_at (s.machine e.incarnation) ((s.machine e.incarnation).goes flight e.reply)))
decision_here {F = F} s es before later e cells first flight split next =
    let m : Machine F = s.machine e.incarnation in
    let at : slice_get es (length before) ≡ Some e = ap (λ xs. slice_get xs (length before)) split
    ∙ slice_get-split before later e in
    let front : take (length before) es ≡ before = ap (take (length before)) split
    ∙ take-append_seam before (e ∷ later) in
    let stands : stand_of s e.incarnation e.item before ≡ Flies flight =
    ap (λ st. stand_after m st (own_of e.incarnation e.item before)) next.begins ∙ next.stands in
    ap (option_and_then (λ f. decision_of (s.begins f.incarnation f.item) (decided_by s (take (length before) es) f)))
    at
    ∙ ap (λ xs. decision_of (s.begins e.incarnation e.item) (decided_by s xs e)) front
    ∙ ap (λ st. decision_of st (decided_by s before e)) next.begins
    ∙ ap (λ st. decision_of (Flies first) (newly (decided_at m st) (decided_at m (stand_step m st e)))) stands

-- A box that keeps up with its machines explains each legal list of paths.
pub kept_explained : {F A C : Type 0} (s : Scene F A) (box : Box A C) (Same : C → Cells → Type 0) (Known : Cells →
    List Entry → Entry → Type 0) (es : List Entry) → Keeps s box Same Known → IsLegal es → HasPaths s es →
    ((before later : List Entry) (e : Entry) → es ≡ before ++ e ∷ later →
    Known (map_after empty before) (own_of e.incarnation e.item before) e) → IsExplained s box Same es
kept_explained {F = F} {C = C} s box Same Known es keeps legal paths known =
    explained_by s box es (λ before c. Same c (map_after empty before)) keeps.steady
    (own_deciders s es keeps.at_decider) legal paths keeps.at_first at_entry Same (λ before c h. h)
  where
    at_entry : (before later : List Entry) (e : Entry) (first flight : F) (c : C) → es ≡ before ++ e ∷ later →
        IsNext s (map_after empty before) (own_of e.incarnation e.item before) e first flight →
        Same c (map_after empty before) → (o : Option Verdict) → Comes s es (length before) e first o →
        IsKept box (λ now. Same now (map_after empty (before ++ e ∷ []))) (cleared s box c e) (s.arrival first e) o
    at_entry before later e first flight c split next same o comes =
        subst (λ cells. IsKept box (λ now. Same now cells) (cleared s box c e) (s.arrival first e) o)
        (sym (map_after-push before e))
        (go o comes (newly ((s.machine e.incarnation).decided flight)
        (decided_at (s.machine e.incarnation) ((s.machine e.incarnation).goes flight e.reply)))
        (decision_here s es before later e (map_after empty before) first flight split next)
        (keeps.at_entry (map_after empty before) (own_of e.incarnation e.item before) e first flight c next
        (known before later e split) same))
      where
        At : Option Verdict → Type 0
        At o = IsKept box (λ now. Same now (map_after (map_after empty before) (e ∷ []))) (cleared s box c e)
            (s.arrival first e) o

        go : (o : Option Verdict) → Comes s es (length before) e first o → (q : Option Verdict) →
            decision_at s es (length before) ≡ decision_of (Flies first) q → At q → At o
        go None comes None h kept = kept
        go None comes (Some v) h kept = absurd (comes (length before) (record { first = first; verdict = v }) h
            (keeps.at_decider es (length before) first v))
        go (Some v) comes q h kept =
            let number : comes.d ≡ length before = sym (keeps.at_decider es comes.d first v) ∙ comes.place in
            let there : decision_of (Flies first) q ≡ Some (record { first = first; verdict = v }) = sym h
            ∙ ap (decision_at s es) (sym number) ∙ comes.decided in
            subst At (decision_of_parts (Flies first) q (record { first = first; verdict = v }) there).1 kept

-- The same where a version names the value that an item found with it.
pub recalled_explained : {F A C : Type 0} (s : Scene F A) (box : Box A C) (Same : C → Cells → Type 0)
    (es : List Entry) → Keeps s box Same Recalled → RisesOnKeys es → IsLegal es → HasPaths s es →
    IsExplained s box Same es
recalled_explained s box Same es keeps rises legal paths =
    kept_explained s box Same Recalled es keeps legal paths (recalled es rises legal)
