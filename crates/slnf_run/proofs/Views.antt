-- What a box explains of the part of arrivals that it looks at, it explains of whole arrivals.
use Rattle.std.proofs.Common.{◌≡◌, ℕ, zero, suc, cond, ◌==◌, true, false, Option, Some, None, List, [], ◌∷◌, ◌++◌, length, map, take, filter_map, slice_get, refl, ap, ap₂, sym, ◌∙◌, subst}
use Rattle.std.specs.Option.{option_and_then, option_map}
use Rattle.std.specs.List.{range_with_len, cons_option}
use Rattle.slnf_access.specs.declared.requests.Entry.{Entry}
use Rattle.slnf_access.specs.Map.{Cells, empty, map_after}
use Rattle.slnf_run.specs.Scene.{Scene}
use Rattle.slnf_run.specs.Visits.{Decision, decision_at, Visit, removal, visit_by, visits_of}
use Rattle.slnf_run.specs.Boxes.{Box, content_through, content_step, content_after, Agrees, IsExplained}
use Rattle.slnf_run.specs.Cases.{viewed, box_through}

module _ {G A B C : Type 0} (view : B → A) (t : Scene G B) (box : Box A C) where
  -- a visit, as it is seen
  abbrev visit_view : Visit B → Visit A
  visit_view visit = record { arrival = view visit.arrival; verdict = visit.verdict }

  map_append : (xs ys : List (Visit B)) → map visit_view (xs ++ ys) ≡ map visit_view xs ++ map visit_view ys
  map_append [] ys = refl
  map_append (x ∷ xs) ys = ap (λ l. visit_view x ∷ l) (map_append xs ys)

  removals_view : (xs : List B) → map removal (map view xs) ≡ map visit_view (map removal xs)
  removals_view [] = refl
  removals_view (x ∷ xs) = ap (λ l. removal (view x) ∷ l) (removals_view xs)

  by_view : (es : List Entry) (number : ℕ) (e : Entry) (d : ℕ) → visit_by (viewed view t) es number e d
      ≡ option_map visit_view (visit_by t es number e d)
  by_view es number e d = go (decision_at t es d)
    where
      by : (x : Decision G) (b : _) → cond b (Some (let v : Visit A =
          record { arrival = view (t.arrival x.first e); verdict = Some x.verdict } in v)) None
          ≡ option_map visit_view (cond b (Some (record { arrival = t.arrival x.first e; verdict = Some x.verdict }))
          None)
      by x true = refl
      by x false = refl

      go : (o : Option (Decision G)) → option_and_then {U = Visit A}
          (λ x. cond (t.place es d x.first x.verdict == number)
          (Some (record { arrival = view (t.arrival x.first e); verdict = Some x.verdict })) None) o
          ≡ option_map visit_view (option_and_then {U = Visit B}
          (λ x. cond (t.place es d x.first x.verdict == number)
          (Some (record { arrival = t.arrival x.first e; verdict = Some x.verdict })) None) o)
      go None = refl
      go (Some x) = by x (t.place es d x.first x.verdict == number)

  cons_view : (o : Option (Visit B)) (visits : List (Visit B)) →
      cons_option (option_map visit_view o) (map visit_view visits) ≡ map visit_view (cons_option o visits)
  cons_view None visits = refl
  cons_view (Some v) visits = refl

  picks_view : (es : List Entry) (number : ℕ) (e : Entry) (ds : List ℕ) →
      filter_map (visit_by (viewed view t) es number e) ds ≡ map visit_view (filter_map (visit_by t es number e) ds)
  picks_view es number e [] = refl
  picks_view es number e (d ∷ ds) =
      ap₂ cons_option (by_view es number e d) (picks_view es number e ds)
      ∙ cons_view (visit_by t es number e d) (filter_map (visit_by t es number e) ds)

  visits_view : (es : List Entry) (number : ℕ) (e : Entry) → visits_of (viewed view t) es number e
      ≡ map visit_view (visits_of t es number e)
  visits_view es number e =
      ap₂ (λ xs ys. xs ++ ys) (removals_view (t.removals e)) (picks_view es number e (range_with_len 0 (length es)))
      ∙ sym (map_append (map removal (t.removals e))
      (filter_map (visit_by t es number e) (range_with_len 0 (length es))))

  through_view : (c : C) (visits : List (Visit B)) → content_through box c (map visit_view visits)
      ≡ content_through (box_through view box) c visits
  through_view c [] = refl
  through_view c (v ∷ visits) = through_view (box.next c (view v.arrival)) visits

  content_view : (es : List Entry) (n : ℕ) → content_after (viewed view t) box es n
      ≡ content_after t (box_through view box) es n
  content_view es zero = refl
  content_view es (suc n) =
      ap (λ c. content_step (viewed view t) box es n c (slice_get es n)) (content_view es n)
      ∙ go (content_after t (box_through view box) es n) (slice_get es n)
    where
      go : (c : C) (o : Option Entry) → content_step (viewed view t) box es n c o
          ≡ content_step t (box_through view box) es n c o
      go c None = refl
      go c (Some e) = ap (content_through box c) (visits_view es n e) ∙ through_view c (visits_of t es n e)

  agrees_view : (c : C) (visits : List (Visit B)) → Agrees box c (map visit_view visits) →
      Agrees (box_through view box) c visits
  agrees_view c [] h = tt
  agrees_view c (v ∷ visits) h = (h.0, agrees_view (box.next c (view v.arrival)) visits h.1)

  pub explained_view : (Same : C → Cells → Type 0) (es : List Entry) → IsExplained (viewed view t) box Same es →
      IsExplained t (box_through view box) Same es
  explained_view Same es r = record {
    verdicts = λ n e at.
        agrees_view (content_after t (box_through view box) es n) (visits_of t es n e)
        (subst (λ c. Agrees box c (map visit_view (visits_of t es n e))) (content_view es n)
        (subst (Agrees box (content_after (viewed view t) box es n)) (visits_view es n e) (r.verdicts n e at)));
    maps = λ n h. subst (λ c. Same c (map_after empty (take n es))) (content_view es n) (r.maps n h);
  }
