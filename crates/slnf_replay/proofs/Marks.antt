-- The places so far, with one more deciding entry.
use Rattle.std.proofs.Common.{◌≡◌, ℕ, suc, zero, ◌+◌, ◌<◌, ◌≤◌, Bool, true, false, ◌||◌, Option, Some, None, List, [], ◌∷◌, ◌++◌, length, map, set, replicate, refl, sym, ap, ◌∙◌, arith, eq-eqb, ne_eqb}
use Rattle.std.specs.List.{list_any, range_with_len}
use Rattle.std.specs.Option.{option_map}
use Rattle.std.proofs.lemmas.List.Folds.{list_any-append}
use Rattle.std.proofs.lemmas.Option.{slice_get_within, same_Some}
use Rattle.slnf_access.specs.declared.requests.Entry.{Entry}
use Rattle.slnf_run.specs.Scene.{Scene}
use Rattle.slnf_run.specs.Visits.{Decision, decision_at}
use Rattle.slnf_run.specs.OneBox.{HasPlaces}
use Rattle.slnf_run.proofs.DecidedOnce.{IsDecision, is_decision}
use Rattle.slnf_replay.specs.Places.{place_of, is_there, is_place, places_by, marked}

-- two functions that give the same in a range
map_same : {X : Type 0} (f g : ℕ → X) (a n : ℕ) → ((m : ℕ) → f m ≡ g m) → map f (range_with_len a n)
    ≡ map g (range_with_len a n)
map_same f g a zero h = refl
map_same f g a (suc n) h = ap (λ x. x ∷ map f (range_with_len (a + 1) n)) (h a)
    ∙ ap (λ l. g a ∷ l) (map_same f g (a + 1) n h)

-- one of the values is another now
set_map : {X : Type 0} (f g : ℕ → X) (a n k : ℕ) (x : X) → k < n → x ≡ g (a + k) →
    ((m : ℕ) → (m ≡ a + k → ⊥) → f m ≡ g m) → set (map f (range_with_len a n)) k x ≡ map g (range_with_len a n)
set_map f g a zero k x l is h = absurd (omega arith)
set_map f g a (suc n) zero x l is h =
    let q : a + 0 ≡ a = omega arith in
    ap (λ y. y ∷ map f (range_with_len (a + 1) n)) (is ∙ ap g q)
    ∙ ap (λ l. g a ∷ l) (rest (a + 1) n (λ m low. h m (λ e. omega arith)))
  where
    rest : (b n : ℕ) → ((m : ℕ) → b ≤ m → f m ≡ g m) → map f (range_with_len b n) ≡ map g (range_with_len b n)
    rest b zero k = refl
    rest b (suc n) k = ap (λ x. x ∷ map f (range_with_len (b + 1) n)) (k b (omega arith))
        ∙ ap (λ l. g b ∷ l) (rest (b + 1) n (λ m low. k m (omega arith)))
set_map f g a (suc n) (suc k) x l is h =
    let q : a + suc k ≡ a + 1 + k = omega arith in
    ap (λ y. y ∷ set (map f (range_with_len (a + 1) n)) k x) (h a (λ e. omega arith))
    ∙ ap (λ l. g a ∷ l) (set_map f g (a + 1) n k x (omega arith) (is ∙ ap g q) (λ m e. h m (λ d. e (d ∙ q))))

-- one number more at the end of a range
range_more : (a n : ℕ) → range_with_len a (n + 1) ≡ range_with_len a n ++ (a + n) ∷ []
range_more a zero = let q : a ≡ a + 0 = omega arith in ap (λ m. m ∷ []) q
range_more a (suc n) =
    let q : a + 1 + n ≡ a + suc n = omega arith in
    let r : suc n + 1 ≡ suc (n + 1) = omega arith in
    ap (range_with_len a) r ∙ ap (λ l. a ∷ l) (range_more (a + 1) n)
    ∙ ap (λ m. a ∷ range_with_len (a + 1) n ++ m ∷ []) q

module _ {F A : Type 0} (s : Scene F A) (j : List Entry) where
  -- a place with one more deciding entry
  more : (n t : ℕ) → is_place s j (n + 1) t ≡ (is_place s j n t || is_there t (place_of s j n))
  more n t =
      let q : 0 + n ≡ n = omega arith in
      ap (list_any (λ d. is_there t (place_of s j d))) (range_more 0 n)
      ∙ list_any-append (λ d. is_there t (place_of s j d)) (range_with_len 0 n) ((0 + n) ∷ [])
      ∙ ap (λ m. is_place s j n t || (is_there t (place_of s j m) || false)) q
      ∙ or_false (is_place s j n t) (is_there t (place_of s j n))
    where
      or_false : (a b : Bool) → (a || (b || false)) ≡ (a || b)
      or_false true b = refl
      or_false false true = refl
      or_false false false = refl

  or_true : (a : Bool) → true ≡ (a || true)
  or_true true = refl
  or_true false = refl

  or_none : (a : Bool) → a ≡ (a || false)
  or_none true = refl
  or_none false = refl

  -- nothing is decided there
  marks_stay : (n : ℕ) (places : List Bool) → place_of s j n ≡ None → places ≡ places_by s j n →
      places ≡ places_by s j (n + 1)
  marks_stay n places none are =
      are ∙ map_same (is_place s j n) (is_place s j (n + 1)) 0 (length j)
      (λ t. or_none (is_place s j n t) ∙ ap (λ o. is_place s j n t || is_there t o) (sym none) ∙ sym (more n t))

  -- a packet with this place is decided there
  mark_set : (n place : ℕ) (places : List Bool) → place < length j → place_of s j n ≡ Some place →
      places ≡ places_by s j n → set places place true ≡ places_by s j (n + 1)
  mark_set n place places within is are =
      let q : 0 + place ≡ place = omega arith in
      ap (λ l. set l place true) are
      ∙ set_map (is_place s j n) (is_place s j (n + 1)) 0 (length j) place true within
      (or_true (is_place s j n (0 + place))
      ∙ ap (λ b. is_place s j n (0 + place) || b) (sym (eq-eqb place (0 + place) (sym q)))
      ∙ ap (λ o. is_place s j n (0 + place) || is_there (0 + place) o) (sym is) ∙ sym (more n (0 + place)))
      (λ m other. or_none (is_place s j n m)
      ∙ ap (λ b. is_place s j n m || b) (sym (ne_eqb place m (λ same. other (sym same ∙ sym q))))
      ∙ ap (λ o. is_place s j n m || is_there m o) (sym is) ∙ sym (more n m))

  -- a place is in the list
  place_within : HasPlaces s j → (n place : ℕ) → place_of s j n ≡ Some place → place < length j
  place_within places n place h = go (decision_at s j n) refl h
    where
      go : (o : Option (Decision F)) → decision_at s j n ≡ o →
          option_map (λ (x : Decision F). s.place j n x.first x.verdict) o ≡ Some place → place < length j
      go None w k = absurd (cc)
      go (Some x) w k =
          let d : (e : Entry) × IsDecision s j n x e = is_decision s j n x w in
          let r = places n d.0 x d.1.at w in
          let upto : s.place j n x.first x.verdict ≤ n = r.upto in
          let size : n < length j = slice_get_within j n d.0 d.1.at in
          let same : s.place j n x.first x.verdict ≡ place = same_Some _ place k in
          omega arith

  -- there is a mark for each entry
  pub marks_count : (n : ℕ) (places : List Bool) → places ≡ places_by s j n → length places ≡ length j
  marks_count n places are = ap length are ∙ count (is_place s j n) 0 (length j)
    where
      count : (f : ℕ → Bool) (a n : ℕ) → length (map f (range_with_len a n)) ≡ n
      count f a zero = refl
      count f a (suc n) = ap suc (count f (a + 1) n)

  -- what the code marks is among the marks
  pub marks_fit : HasPlaces s j → (n : ℕ) (place : Option ℕ) (places : List Bool) → place ≡ place_of s j n →
      places ≡ places_by s j n → (number : ℕ) → place ≡ Some number → number < length places
  marks_fit has n place places told are number is =
      let within : number < length j = place_within has n number (sym told ∙ is) in
      let count : length places ≡ length j = marks_count n places are in
      omega arith

  -- one entry more
  pub marks_next : HasPlaces s j → (n : ℕ) (place : Option ℕ) (places more : List Bool) → place ≡ place_of s j n →
      places ≡ places_by s j n → more ≡ marked places place → more ≡ places_by s j (n + 1)
  marks_next has n None places more told are is = is ∙ marks_stay n places (sym told) are
  marks_next has n (Some number) places more told are is =
      is ∙ mark_set n number places (place_within has n number (sym told)) (sym told) are

-- at first there is none
pub no_marks : {F A : Type 0} (s : Scene F A) (j : List Entry) → replicate (length j) false ≡ places_by s j 0
no_marks s j = go 0 (length j)
  where
    go : (a n : ℕ) → replicate n false ≡ map (is_place s j 0) (range_with_len a n)
    go a zero = refl
    go a (suc n) = ap (λ l. false ∷ l) (go (a + 1) n)
