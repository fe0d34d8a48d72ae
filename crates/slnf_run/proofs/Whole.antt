-- One ordinary box explains each run of a sound setting, with all that is written.
use Rattle.std.proofs.Common.{◌≡◌, ℕ, zero, suc, ◌<◌, ◌≤◌, Bool, true, false, cond, Option, Some, None, List, [], ◌∷◌, length, slice_get, refl, ap, sym, ◌∙◌, subst, arith}
use Rattle.std.proofs.lemmas.Option.{slice_get_within, same_Some}
use Rattle.slnf_base.specs.declared.packets.Verdict.{Verdict}
use Rattle.slnf_access.specs.declared.requests.Entry.{Entry}
use Rattle.slnf_access.specs.Map.{Cells}
use Rattle.slnf_run.specs.Scene.{Scene, is_of}
use Rattle.slnf_run.specs.Boxes.{Box, IsExplained}
use Rattle.slnf_run.specs.Setting.{Setting}
use Rattle.slnf_run.specs.Run.{IsRun}
use Rattle.slnf_run.specs.Keeps.{Keeps, Recalled}
use Rattle.slnf_run.specs.Looks.{first_of, first_of_own, looking_back}
use Rattle.slnf_run.proofs.Splits.{IsSplit, split_at}
use Rattle.slnf_run.proofs.DecidedOnce.{is_of-itself}
use Rattle.slnf_run.proofs.LookingBack.{own_looking}
use Rattle.slnf_run.proofs.Runs.{run_explained}
use Rattle.slnf_run.specs.OneBox.{IsSound, HasPlaces, IsSeen, IsOneBoxWhole}
use Rattle.slnf_run.proofs.OneBoxOfRun.{one_box}
use Rattle.slnf_run.proofs.Visiting.{visit_taken}
use Rattle.slnf_run.proofs.Outcomes.{seen, outcome}
use Rattle.slnf_run.proofs.Ordering.{entries_in_order, places_in_order}
use Rattle.slnf_run.proofs.Leaving.{front}

-- places that are deciding entries are places
pub places_at_decider : {F A : Type 0} (s : Scene F A) (es : List Entry) →
    ((es : List Entry) (number : ℕ) (first : F) (verdict : Verdict) → s.place es number first verdict ≡ number) →
    HasPlaces s es
places_at_decider s es here d e decision at decided =
    let p : s.place es d decision.first decision.verdict ≡ d = here es d decision.first decision.verdict in
    record {
      first = d;
      own = e;
      at = at;
      incarnation = refl;
      item = refl;
      from =
          (let z : d ≤ s.place es d decision.first decision.verdict = omega arith in z);
      upto =
          (let z : s.place es d decision.first decision.verdict ≤ d = omega arith in z);
    }

-- an item's first entry doesn't stand behind any other of its entries
first_upto : (i k : ℕ) (es : List Entry) (n : ℕ) (e : Entry) → slice_get es n ≡ Some e → is_of i k e ≡ true →
    first_of i k es ≤ n
first_upto i k [] n e at own = absurd (let no : ◌≡◌ {A = Option Entry} None (Some e) = at in cc)
first_upto i k (x ∷ xs) n e at own = go (is_of i k x) refl (λ m. first_upto i k xs m e)
  where
    elsewhere : (n : ℕ) → is_of i k x ≡ false → slice_get (x ∷ xs) n ≡ Some e → (m : ℕ) × (n ≡ suc m)
        × (slice_get xs m ≡ Some e)
    elsewhere zero w at = let same : x ≡ e = same_Some x e at in
        absurd (let no : false ≡ true = sym w ∙ ap (is_of i k) same ∙ own in cc)
    elsewhere (suc m) w at = (m, refl, at)

    go : (b : Bool) → is_of i k x ≡ b → ((m : ℕ) → slice_get xs m ≡ Some e → is_of i k e ≡ true →
        first_of i k xs ≤ m) → cond b zero (suc (first_of i k xs)) ≤ n
    go true w later = omega arith
    go false w later =
        let m : (m : ℕ) × (n ≡ suc m) × (slice_get xs m ≡ Some e) = elsewhere n w at in
        let r : first_of i k xs ≤ m.0 = later m.0 m.2 own in
        let size : n ≡ suc m.0 = m.1 in
        omega arith

-- and so are places that look back
pub places_looking : {F A : Type 0} (s : Scene F A) (looks_back : F → Verdict → Bool) (es : List Entry) →
    ((es : List Entry) (number : ℕ) (first : F) (verdict : Verdict) → s.place es number first verdict
    ≡ looking_back looks_back es number first verdict) → HasPlaces s es
places_looking {F = F} s looks_back es place_is d e decision at decided =
    let upto : s.place es d decision.first decision.verdict ≤ d =
    subst (λ n. n ≤ d) (sym (place_is es d decision.first decision.verdict))
    (go (looks_back decision.first decision.verdict)) in
    let size : d < length es = slice_get_within es d e at in
    let r : (f : Entry) × IsSplit es (s.place es d decision.first decision.verdict) f =
    split_at es (s.place es d decision.first decision.verdict) (omega arith) in
    let own : (r.0.incarnation ≡ e.incarnation) × (r.0.item ≡ e.item) =
    own_looking s looks_back es place_is d e r.0 decision at decided r.1.at in
    record {
      first = s.place es d decision.first decision.verdict;
      own = r.0;
      at = r.1.at;
      incarnation = own.0;
      item =
          own.1;
      from = (let z : s.place es d decision.first decision.verdict ≤ s.place es d decision.first
          decision.verdict = omega arith in z);
      upto = upto;
    }
  where
    go : (b : Bool) → cond b (first_of_own es d (slice_get es d)) d ≤ d
    go true = subst (λ n. n ≤ d) (ap (first_of_own es d) (sym at))
        (first_upto e.incarnation e.item es d e at (is_of-itself e))
    go false = omega arith

-- One box explains each run of a sound setting whose packets have places, with all that is written, if it explains
-- its list.
pub one_box_whole : {F A C : Type 0} (s : Setting F A) (box : Box A C) (Same : C → Cells → Type 0) (j : List Entry) →
    IsSound s → IsRun s j → HasPlaces s.scene j → IsExplained s.scene box Same j → IsOneBoxWhole s box Same j
one_box_whole s box Same j sound run places explained = record {
  one_box = one_box s box Same j sound run explained;
  places = places;
  visits = visit_taken s j sound run;
  becomes = outcome s j sound run (IsSeen s.scene box j)
      (λ d e decision at decided. seen s.scene box Same j d e decision places explained at decided);
  front = front s j sound run;
  in_order = entries_in_order s j sound run;
  places_in_order = places_in_order s j sound run places;
}

-- One box that keeps up with its machines explains each run of a sound setting, with all that is written.
pub run_has_one_box : {F A C : Type 0} (s : Setting F A) (box : Box A C) (Same : C → Cells → Type 0)
    (j : List Entry) → IsSound s → Keeps s.scene box Same Recalled → IsRun s j → IsOneBoxWhole s box Same j
run_has_one_box s box Same j sound keeps run =
    one_box_whole s box Same j sound run (places_at_decider s.scene j keeps.at_decider)
    (run_explained s box Same j keeps run)
