-- Places that look back are the packets' own, and how packets come at them.
use Rattle.std.proofs.Common.{◌≡◌, inl, inr, ℕ, zero, suc, Bool, true, false, cond, ◌==◌, Option, Some, None, List, [], ◌∷◌, ◌++◌, length, slice_get, refl, ap, sym, ◌∙◌, subst, subst₂, arith, eqb-true}
use Rattle.std.proofs.lemmas.Bool.{and_parts}
use Rattle.std.proofs.lemmas.Option.{same_Some}
use Rattle.slnf_base.specs.declared.packets.Verdict.{Verdict}
use Rattle.slnf_access.specs.declared.requests.Entry.{Entry}
use Rattle.slnf_access.specs.Map.{Cells, empty, map_after, IsLegal}
use Rattle.slnf_access.specs.Machines.{Flies, decided_at}
use Rattle.slnf_run.specs.Scene.{Scene, is_of, own_of}
use Rattle.slnf_run.specs.Visits.{Decision, newly, decision_of, decision_at}
use Rattle.slnf_run.specs.Boxes.{Box, IsExplained}
use Rattle.slnf_run.specs.Steady.{IsSteady, HasOwnPlaces}
use Rattle.slnf_run.specs.Keeps.{HasPaths, IsNext, IsKept, cleared, IsPlaced, Comes}
use Rattle.slnf_run.specs.Looks.{first_of, first_of_own, looking_back, ComesLookingBack}
use Rattle.slnf_run.proofs.DecidedOnce.{is_of-itself, decision_of_parts}
use Rattle.slnf_run.proofs.KeepingBoxes.{decision_here, explained_by}

-- what stands at the first entry of an item that has one is of the item
first_is_own : (i k : ℕ) (es : List Entry) (n : ℕ) (e g : Entry) → slice_get es n ≡ Some e → is_of i k e ≡ true →
    slice_get es (first_of i k es) ≡ Some g → is_of i k g ≡ true
first_is_own i k [] n e g at own there = absurd (let no : ◌≡◌ {A = Option Entry} None (Some e) = at in cc)
first_is_own i k (x ∷ xs) n e g at own there = go (is_of i k x) refl there (λ m. first_is_own i k xs m e g)
  where
    elsewhere : (n : ℕ) → is_of i k x ≡ false → slice_get (x ∷ xs) n ≡ Some e → (m : ℕ) × (slice_get xs m ≡ Some e)
    elsewhere zero w at = let same : x ≡ e = same_Some x e at in
        absurd (let no : false ≡ true = sym w ∙ ap (is_of i k) same ∙ own in cc)
    elsewhere (suc m) w at = (m, at)

    go : (b : Bool) → is_of i k x ≡ b → slice_get (x ∷ xs) (cond b zero (suc (first_of i k xs))) ≡ Some g →
        ((m : ℕ) → slice_get xs m ≡ Some e → is_of i k e ≡ true → slice_get xs (first_of i k xs) ≡ Some g →
        is_of i k g ≡ true) → is_of i k g ≡ true
    go true w there later = ap (is_of i k) (sym (same_Some x g there)) ∙ w
    go false w there later = let m : (m : ℕ) × (slice_get xs m ≡ Some e) = elsewhere n w at in later m.0 m.1 own there

-- an item has no entry before its first
none_before : (i k : ℕ) (before after : List Entry) → first_of i k (before ++ after) ≡ length before →
    own_of i k before ≡ []
none_before i k [] after h = refl
none_before i k (x ∷ xs) after h = go (is_of i k x) h (none_before i k xs after)
  where
    go : (b : Bool) → cond b zero (suc (first_of i k (xs ++ after))) ≡ suc (length xs) →
        (first_of i k (xs ++ after) ≡ length xs → own_of i k xs ≡ []) → cond b (x ∷ own_of i k xs) (own_of i k xs)
        ≡ []
    go true h later = absurd (omega arith)
    go false h later = later (omega arith)

-- places that look back are the packets' own
pub own_looking : {F A : Type 0} (s : Scene F A) (looks_back : F → Verdict → Bool) (es : List Entry) →
    ((es : List Entry) (number : ℕ) (first : F) (verdict : Verdict) → s.place es number first verdict
    ≡ looking_back looks_back es number first verdict) → HasOwnPlaces s es
own_looking {F = F} s looks_back es place_is number e place decision at decided there =
    go (looks_back decision.first decision.verdict)
    (ap (slice_get es) (sym (place_is es number decision.first decision.verdict)) ∙ there)
  where
    go : (b : Bool) → slice_get es (cond b (first_of_own es number (slice_get es number)) number) ≡ Some place →
        (place.incarnation ≡ e.incarnation) × (place.item ≡ e.item)
    go false h = let same : place ≡ e = same_Some place e (sym h ∙ at) in
        (ap (λ (f : Entry). f.incarnation) same, ap (λ (f : Entry). f.item) same)
    go true h =
        let first : slice_get es (first_of e.incarnation e.item es) ≡ Some place =
        ap (λ o. slice_get es (first_of_own es number o)) (sym at) ∙ h in
        let own : is_of e.incarnation e.item place ≡ true =
        first_is_own e.incarnation e.item es number e place at (is_of-itself e) first in
        let parts : ((place.incarnation == e.incarnation) ≡ true) × ((place.item == e.item) ≡ true) =
        and_parts (place.incarnation == e.incarnation) (place.item == e.item) own in
        (eqb-true place.incarnation e.incarnation parts.0, eqb-true place.item e.item parts.1)

-- how a packet comes at an entry
pub comes_so : {F A : Type 0} (s : Scene F A) (looks_back : F → Verdict → Bool) (es before later : List Entry)
    (e : Entry) (cells : Cells) (first flight : F) →
    ((es : List Entry) (number : ℕ) (first : F) (verdict : Verdict) → s.place es number first verdict
    ≡ looking_back looks_back es number first verdict) → es ≡ before ++ e ∷ later →
    IsNext s cells (own_of e.incarnation e.item before) e first flight → (o : Option Verdict) →
    Comes s es (length before) e first o → ComesLookingBack looks_back (own_of e.incarnation e.item before)
    (newly ((s.machine e.incarnation).decided flight)
    (decided_at (s.machine e.incarnation) ((s.machine e.incarnation).goes flight e.reply))) first o
comes_so {F = F} s looks_back es before later e cells first flight place_is split next o comes =
    by o comes (newly ((s.machine e.incarnation).decided flight)
    (decided_at (s.machine e.incarnation) ((s.machine e.incarnation).goes flight e.reply)))
    (decision_here s es before later e cells first flight split next)
  where
    place_as : (d : ℕ) (v : Verdict) (b : Bool) → looks_back first v ≡ b → s.place es d first v
        ≡ cond b (first_of_own es d (slice_get es d)) d
    place_as d v b w = place_is es d first v ∙ ap (λ b. cond b (first_of_own es d (slice_get es d)) d) w

    some : (v : Verdict) → IsPlaced s es (length before) e first v → (now : Option Verdict) →
        decision_at s es (length before) ≡ decision_of (Flies first) now → (b : Bool) → looks_back first v ≡ b →
        ComesLookingBack looks_back (own_of e.incarnation e.item before) now first (Some v)
    some v placed now here false w =
        let number : placed.d ≡ length before = sym (place_as placed.d v false w) ∙ placed.place in
        let there : decision_of (Flies first) now ≡ Some (record { first = first; verdict = v }) = sym here
        ∙ ap (decision_at s es) (sym number) ∙ placed.decided in
        inl ((decision_of_parts (Flies first) now (record { first = first; verdict = v }) there).1, w)
    some v placed now here true w =
        let first_decider : first_of placed.decider.incarnation placed.decider.item es ≡ length before =
        ap (first_of_own es placed.d) (sym placed.at) ∙ sym (place_as placed.d v true w) ∙ placed.place in
        let first_e : first_of e.incarnation e.item es ≡ length before =
        subst₂ (λ i k. first_of i k es ≡ length before) placed.incarnation placed.item first_decider in
        inr (
          none_before e.incarnation e.item before (e ∷ later)
              (subst (λ xs. first_of e.incarnation e.item xs ≡ length before) split first_e),
          w,
        )

    none : ((d : ℕ) (x : Decision F) → decision_at s es d ≡ Some x → s.place es d x.first x.verdict ≡ length before →
        ⊥) → (v : Verdict) → decision_at s es (length before) ≡ Some (record { first = first; verdict = v }) →
        (b : Bool) → looks_back first v ≡ b → ComesLookingBack looks_back (own_of e.incarnation e.item before)
        (Some v) first None
    none never v here true w = inr (v, refl, w)
    none never v here false w = absurd (never (length before) (record { first = first; verdict = v }) here
        (place_as (length before) v false w))

    by : (o : Option Verdict) → Comes s es (length before) e first o → (now : Option Verdict) →
        decision_at s es (length before) ≡ decision_of (Flies first) now →
        ComesLookingBack looks_back (own_of e.incarnation e.item before) now first o
    by None comes None here = inl refl
    by None comes (Some v) here = none comes v here (looks_back first v) refl
    by (Some v) comes now here = some v comes now here (looks_back first v) refl

-- A box explains a list with places that look back, where at each entry it does what it owes, however a packet comes
-- there.
pub explained_looking : {F A C : Type 0} (s : Scene F A) (looks_back : F → Verdict → Bool) (box : Box A C)
    (es : List Entry) (Inv : List Entry → C → Type 0) →
    ((es : List Entry) (number : ℕ) (first : F) (verdict : Verdict) → s.place es number first verdict
    ≡ looking_back looks_back es number first verdict) → ((i : ℕ) → IsSteady (s.machine i)) → IsLegal es →
    HasPaths s es → Inv [] box.empty → ((before later : List Entry) (e : Entry) (first flight : F) (c : C) → es
    ≡ before ++ e ∷ later → IsNext s (map_after empty before) (own_of e.incarnation e.item before) e first flight →
    Inv before c → (o : Option Verdict) → Comes s es (length before) e first o →
    ComesLookingBack looks_back (own_of e.incarnation e.item before)
    (newly ((s.machine e.incarnation).decided flight)
    (decided_at (s.machine e.incarnation) ((s.machine e.incarnation).goes flight e.reply))) first o →
    IsKept box (Inv (before ++ e ∷ [])) (cleared s box c e) (s.arrival first e) o) → (Same : C → Cells → Type 0) →
    ((before : List Entry) (c : C) → Inv before c → Same c (map_after empty before)) → IsExplained s box Same es
explained_looking s looks_back box es Inv place_is steady legal paths at_first at_entry Same same =
    explained_by s box es Inv steady (own_looking s looks_back es place_is) legal paths at_first
    (λ before later e first flight c split next inv o comes.
    at_entry before later e first flight c split next inv o comes
    (comes_so s looks_back es before later e (map_after empty before) first flight place_is split next o comes))
    Same same
