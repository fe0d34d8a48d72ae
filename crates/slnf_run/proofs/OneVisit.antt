-- Where each packet has its place at an entry of its own, at most one packet comes to the box at an entry.
use Rattle.std.proofs.Common.{◌≡◌, ℕ, ◌<◌, Bool, true, false, cond, ◌==◌, Option, Some, None, List, [], ◌∷◌, ◌++◌, length, map, slice_get, refl, ap, sym, ◌∙◌, arith}
use Rattle.std.specs.Option.{option_and_then}
use Rattle.std.proofs.lemmas.Bool.{eqb-true}
use Rattle.std.proofs.lemmas.Option.{slice_get_within, same_Some}
use Rattle.slnf_access.specs.declared.requests.Entry.{Entry}
use Rattle.slnf_run.specs.Scene.{Scene}
use Rattle.slnf_run.specs.Visits.{Decision, Visit, removal, decision_at, visit_by, visits_of}
use Rattle.slnf_run.specs.Steady.{IsSteady, HasOwnPlaces}
use Rattle.slnf_run.proofs.Picks.{picks_none, picks_one}
use Rattle.slnf_run.proofs.DecidedOnce.{IsDecision, is_decision, once}

-- A visit at the entry with this number, with the decision that makes it.
pub record IsVisit {F A : Type 0} (s : Scene F A) (es : List Entry) (number : ℕ) (e : Entry) (d : ℕ)
    (v : Visit A) : Type 0 where
  pub decision : Decision F
  pub decider : Entry
  pub decided : decision_at s es d ≡ Some decision
  pub whole : IsDecision s es d decision decider
  pub place : s.place es d decision.first decision.verdict ≡ number
  pub visit : v ≡ record { arrival = s.arrival decision.first e; verdict = Some decision.verdict }

pub is_visit : {F A : Type 0} (s : Scene F A) (es : List Entry) (number : ℕ) (e : Entry) (d : ℕ) (v : Visit A) →
    visit_by s es number e d ≡ Some v → IsVisit s es number e d v
is_visit {F = F} {A = A} s es number e d v h = go (decision_at s es d) refl h
  where
    at : (x : Decision F) → decision_at s es d ≡ Some x → (b : Bool) → (s.place es d x.first x.verdict == number)
        ≡ b → cond b (Some (record { arrival = s.arrival x.first e; verdict = Some x.verdict })) None ≡ Some v →
        IsVisit s es number e d v
    at x w false b h = cc
    at x w true b h =
        let r : (f : Entry) × IsDecision s es d x f = is_decision s es d x w in
        record {
          decision = x;
          decider = r.0;
          decided = w;
          whole = r.1;
          place = eqb-true (s.place es d x.first x.verdict) number b;
          visit = sym (same_Some _ v h);
        }

    go : (o : Option (Decision F)) → decision_at s es d ≡ o →
        option_and_then (λ decision. cond (s.place es d decision.first decision.verdict == number)
        (Some (record { arrival = s.arrival decision.first e; verdict = Some decision.verdict })) None) o ≡ Some v →
        IsVisit s es number e d v
    go None w h = cc
    go (Some x) w h = at x w (s.place es d x.first x.verdict == number) refl h

-- the decider of a visit at an entry is of the entry's own item
pub own_visit : {F A : Type 0} (s : Scene F A) (es : List Entry) (number : ℕ) (e : Entry) (d : ℕ) (v : Visit A) →
    HasOwnPlaces s es → slice_get es number ≡ Some e → (r : IsVisit s es number e d v) →
    (e.incarnation ≡ r.decider.incarnation) × (e.item ≡ r.decider.item)
own_visit s es number e d v own at r =
    own d r.decider e r.decision r.whole.at r.decided (rw r.place at)

-- two visits at one entry are one
one_decider : {F A : Type 0} (s : Scene F A) (es : List Entry) (number : ℕ) (e : Entry) (d b : ℕ) (v w : Visit A) →
    ((i : ℕ) → IsSteady (s.machine i)) → HasOwnPlaces s es → slice_get es number ≡ Some e → visit_by s es number e d
    ≡ Some v → visit_by s es number e b ≡ Some w → b ≡ d
one_decider s es number e d b v w steady own at h k =
    let r : IsVisit s es number e d v = is_visit s es number e d v h in
    let q : IsVisit s es number e b w = is_visit s es number e b w k in
    let mine : (e.incarnation ≡ r.decider.incarnation) × (e.item ≡ r.decider.item) =
    own_visit s es number e d v own at r in
    let its : (e.incarnation ≡ q.decider.incarnation) × (e.item ≡ q.decider.item) =
    own_visit s es number e b w own at q in
    once s es d b r.decision q.decision r.decider q.decider steady r.whole q.whole (sym its.0 ∙ mine.0) (sym its.1
    ∙ mine.1)

pub one_visit : {F A : Type 0} (s : Scene F A) (es : List Entry) (number : ℕ) (e : Entry) (d : ℕ) (v : Visit A) →
    ((i : ℕ) → IsSteady (s.machine i)) → HasOwnPlaces s es → slice_get es number ≡ Some e → visit_by s es number e d
    ≡ Some v → visits_of s es number e ≡ map removal (s.removals e) ++ v ∷ []
one_visit s es number e d v steady own at h =
    let within : d < length es = let r : IsVisit s es number e d v = is_visit s es number e d v h in
    slice_get_within es d r.decider r.whole.at in
    ap (λ ys. map removal (s.removals e) ++ ys) (picks_one (visit_by s es number e) 0 (length es) d v (omega arith)
    (omega arith) h (λ b w k. one_decider s es number e d b v w steady own at h k))

pub no_visit : {F A : Type 0} (s : Scene F A) (es : List Entry) (number : ℕ) (e : Entry) →
    ((d : ℕ) → visit_by s es number e d ≡ None) → visits_of s es number e ≡ map removal (s.removals e) ++ []
no_visit s es number e none =
    ap (λ ys. map removal (s.removals e) ++ ys) (picks_none (visit_by s es number e) 0 (length es)
    (λ d low high. none d))
