-- The box gives each packet its decided verdict at its place, and no two packets have one place.
use Rattle.std.proofs.Common.{◌≡◌, ℕ, Some, List, [], ◌∷◌, ◌++◌, map, slice_get, refl, ap, sym, ◌∙◌, subst}
use Rattle.std.proofs.lemmas.Bool.{eq-eqb}
use Rattle.slnf_access.specs.declared.requests.Entry.{Entry}
use Rattle.slnf_access.specs.Map.{Cells}
use Rattle.slnf_run.specs.Scene.{Scene}
use Rattle.slnf_run.specs.Visits.{Decision, Visit, removal, decision_at, visit_by, visits_of}
use Rattle.slnf_run.specs.Boxes.{Box, content_through, content_after, Agrees, IsExplained}
use Rattle.slnf_run.specs.Steady.{IsSteady, HasOwnPlaces}
use Rattle.slnf_run.proofs.DecidedOnce.{is_decision, once}
use Rattle.slnf_run.proofs.OneVisit.{one_visit}

-- a box that agrees with two lists of visits agrees with the second where the first leaves it
pub agrees_back : {A C : Type 0} (box : Box A C) (c : C) (xs ys : List (Visit A)) → Agrees box c (xs ++ ys) →
    Agrees box (content_through box c xs) ys
agrees_back box c [] ys h = h
agrees_back box c (x ∷ xs) ys h = agrees_back box (box.next c x.arrival) xs ys h.1

-- The box's verdict at a packet's place, behind the removals there, is the packet's decided verdict.
pub box_verdict : {F A C : Type 0} (s : Scene F A) (box : Box A C) (Same : C → Cells → Type 0) (es : List Entry)
    (d : ℕ) (x : Decision F) (p : Entry) → ((i : ℕ) → IsSteady (s.machine i)) → HasOwnPlaces s es →
    IsExplained s box Same es → decision_at s es d ≡ Some x → slice_get es (s.place es d x.first x.verdict) ≡ Some p →
    box.verdict (content_through box (content_after s box es (s.place es d x.first x.verdict))
    (map removal (s.removals p))) (s.arrival x.first p) ≡ x.verdict
box_verdict s box Same es d x p steady own explained decided at =
    let n : ℕ = s.place es d x.first x.verdict in
    let visit : visit_by s es (s.place es d x.first x.verdict) p d
    ≡ Some (record { arrival = s.arrival x.first p; verdict = Some x.verdict }) =
    rw (decided, eq-eqb (s.place es d x.first x.verdict) (s.place es d x.first x.verdict) refl) refl in
    let one : visits_of s es (s.place es d x.first x.verdict) p ≡ map removal (s.removals p)
    ++ record { arrival = s.arrival x.first p; verdict = Some x.verdict } ∷ [] =
    one_visit s es (s.place es d x.first x.verdict) p d _ steady own at visit in
    (agrees_back box _ (map removal (s.removals p)) _
    (subst (Agrees box (content_after s box es (s.place es d x.first x.verdict))) one
    (explained.verdicts (s.place es d x.first x.verdict) p at))).0

-- Packets with one place are one.
pub one_place : {F A : Type 0} (s : Scene F A) (es : List Entry) (d b : ℕ) (x y : Decision F) (p : Entry) →
    ((i : ℕ) → IsSteady (s.machine i)) → HasOwnPlaces s es → decision_at s es d ≡ Some x → decision_at s es b
    ≡ Some y → slice_get es (s.place es d x.first x.verdict) ≡ Some p → s.place es b y.first y.verdict
    ≡ s.place es d x.first x.verdict → b ≡ d
one_place s es d b x y p steady own decided other at same =
    let r = is_decision s es d x decided in
    let q = is_decision s es b y other in
    let mine = own d r.0 p x r.1.at decided at in
    let its = own b q.0 p y q.1.at other (ap (slice_get es) same ∙ at) in
    once s es d b x y r.0 q.0 steady r.1 q.1 (sym its.0 ∙ mine.0) (sym its.1 ∙ mine.1)
