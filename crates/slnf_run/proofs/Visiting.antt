-- Each visit with a verdict is of a packet that was taken.
use Rattle.std.proofs.Common.{◌≡◌, ℕ, Option, Some, None, List, [], ◌∷◌, ◌++◌, length, map, filter_map, slice_get, refl, ap, sym, ◌∙◌}
use Rattle.std.specs.List.{range_with_len, cons_option}
use Rattle.std.proofs.lemmas.Option.{same_Some}
use Rattle.slnf_base.specs.declared.packets.Verdict.{Verdict}
use Rattle.slnf_access.specs.declared.requests.Entry.{Entry}
use Rattle.slnf_run.specs.Visits.{Decision, decision_at, Visit, removal, visit_by, visits_of}
use Rattle.slnf_run.specs.Setting.{Setting}
use Rattle.slnf_run.specs.Run.{IsRun}
use Rattle.slnf_run.proofs.OneVisit.{IsVisit, is_visit}
use Rattle.slnf_run.specs.OneBox.{IsSound, Took}
use Rattle.slnf_run.proofs.OneBoxOfRun.{decided_taken}

cons_same : {X : Type 0} (x y : X) (xs ys : List X) → x ∷ xs ≡ y ∷ ys → (x ≡ y) × (xs ≡ ys)
cons_same x y xs ys h = (cc, cc)

-- what has a verdict stands behind the removals
behind_removals : {A : Type 0} (arrivals : List A) (rest earlier later : List (Visit A)) (v : Visit A)
    (verdict : Verdict) → map removal arrivals ++ rest ≡ earlier ++ v ∷ later → v.verdict ≡ Some verdict →
    (front : List (Visit A)) × (rest ≡ front ++ v ∷ later)
behind_removals [] rest earlier later v verdict h is = (earlier, h)
behind_removals {A = A} (a ∷ arrivals) rest [] later v verdict h is =
    let q = cons_same (removal a) v (map removal arrivals ++ rest) later h in
    let no : ◌≡◌ {A = Option Verdict} None (Some verdict) = ap (λ (w : Visit A). w.verdict) q.0 ∙ is in
    absurd (cc)
behind_removals (a ∷ arrivals) rest (w ∷ earlier) later v verdict h is =
    let q = cons_same (removal a) w (map removal arrivals ++ rest) (earlier ++ v ∷ later) h in
    behind_removals arrivals rest earlier later v verdict q.1 is

-- what is picked comes from somewhere
picked : {Y : Type 0} (f : ℕ → Option Y) (ns : List ℕ) (earlier later : List Y) (y : Y) → filter_map f ns ≡ earlier
    ++ y ∷ later → (d : ℕ) × (f d ≡ Some y)
picked f [] [] later y h = absurd (cc)
picked f [] (x ∷ earlier) later y h = absurd (cc)
picked {Y = Y} f (n ∷ ns) earlier later y h = go (f n) refl earlier h (λ xs. picked f ns xs later y)
  where
    go : (o : Option Y) → f n ≡ o → (earlier : List Y) → cons_option o (filter_map f ns) ≡ earlier ++ y ∷ later →
        ((earlier : List Y) → filter_map f ns ≡ earlier ++ y ∷ later → (d : ℕ) × (f d ≡ Some y)) → (d : ℕ)
        × (f d ≡ Some y)
    go None w earlier h r = r earlier h
    go (Some x) w [] h r = (n, w ∙ ap Some (cons_same x y (filter_map f ns) later h).0)
    go (Some x) w (z ∷ earlier) h r = r earlier (cons_same x z (filter_map f ns) (earlier ++ y ∷ later) h).1

pub visit_taken : {F A : Type 0} (s : Setting F A) (j : List Entry) → IsSound s → IsRun s j →
    (t : ℕ) (e : Entry) (earlier later : List (Visit A)) (visit : Visit A) (verdict : Verdict) →
    visits_of s.scene j t e ≡ earlier ++ visit ∷ later → visit.verdict ≡ Some verdict → (lane : ℕ) × (decider : ℕ)
    × (f : Entry) × (decision : Decision F) × (slice_get j decider ≡ Some f)
    × (decision_at s.scene j decider ≡ Some decision) × Took s j lane f.item f.incarnation
    × (s.scene.place j decider decision.first decision.verdict ≡ t) × (decision.verdict ≡ verdict)
visit_taken {F = F} {A = A} s j sound run t e earlier later visit verdict split is =
    let r : (front : List (Visit A)) × (filter_map (visit_by s.scene j t e) (range_with_len 0 (length j)) ≡ front
    ++ visit ∷ later) =
    behind_removals (s.scene.removals e) (filter_map (visit_by s.scene j t e) (range_with_len 0 (length j))) earlier
    later visit verdict split is in
    let d : (d : ℕ) × (visit_by s.scene j t e d ≡ Some visit) =
    picked (visit_by s.scene j t e) (range_with_len 0 (length j)) r.0 later visit r.1 in
    let v : IsVisit s.scene j t e d.0 visit = is_visit s.scene j t e d.0 visit d.1 in
    let taken : (lane : ℕ) × Took s j lane v.decider.item v.decider.incarnation =
    decided_taken s j sound run d.0 v.decider v.decision v.whole.at v.decided in
    let same : v.decision.verdict ≡ verdict = same_Some v.decision.verdict verdict
    (sym (ap (λ (w : Visit A). w.verdict) v.visit) ∙ is) in
    (taken.0, d.0, v.decider, v.decision, v.whole.at, v.decided, taken.1, v.place, same)
