-- The numbers that are left of a range, where a property holds of all others.
use Rattle.std.proofs.Common.{◌≡◌, inl, inr, ℕ, zero, suc, ◌+◌, ◌<◌, ◌≤◌, Some, List, [], ◌∷◌, ◌++◌, remove, slice_get, refl, sym, ap, ◌∙◌, subst, arith}
use Rattle.std.specs.List.{range_with_len}
use Rattle.std.proofs.lemmas.Bool.{cases_eq}
use Rattle.std.proofs.lemmas.Option.{same_Some}
use Rattle.slnf_orch.specs.Actors.{AreLeft}

-- at first all are left
pub all_left : (P : ℕ → Type 0) (from count : ℕ) → AreLeft P from count (range_with_len from count)
all_left P from zero = tt
all_left P from (suc count) = inl (refl, all_left P (from + 1) count)

-- what is left is in the range
left_from : (P : ℕ → Type 0) (from count : ℕ) (live : List ℕ) (place number : ℕ) → AreLeft P from count live →
    slice_get live place ≡ Some number → from ≤ number
left_from P from count [] place number h at = absurd (cc)
left_from P from zero (x ∷ live) place number h at = absurd h
left_from P from (suc count) (x ∷ live) zero number (inl h) at =
    let same : x ≡ number = same_Some x number at in
    let first : from ≡ x = h.0 in
    omega arith
left_from P from (suc count) (x ∷ live) (suc place) number (inl h) at =
    let more : from + 1 ≤ number = left_from P (from + 1) count live place number h.1 at in
    omega arith
left_from P from (suc count) (x ∷ live) place number (inr h) at =
    let more : from + 1 ≤ number = left_from P (from + 1) count (x ∷ live) place number h.1 at in
    omega arith

left_below : (P : ℕ → Type 0) (from count : ℕ) (live : List ℕ) (place number : ℕ) → AreLeft P from count live →
    slice_get live place ≡ Some number → number < from + count
left_below P from count [] place number h at = absurd (cc)
left_below P from zero (x ∷ live) place number h at = absurd h
left_below P from (suc count) (x ∷ live) zero number (inl h) at =
    let same : x ≡ number = same_Some x number at in
    let first : from ≡ x = h.0 in
    omega arith
left_below P from (suc count) (x ∷ live) (suc place) number (inl h) at =
    let more : number < from + 1 + count = left_below P (from + 1) count live place number h.1 at in
    omega arith
left_below P from (suc count) (x ∷ live) place number (inr h) at =
    let more : number < from + 1 + count = left_below P (from + 1) count (x ∷ live) place number h.1 at in
    omega arith

pub left_inside : (P : ℕ → Type 0) (count : ℕ) (live : List ℕ) (place number : ℕ) → AreLeft P 0 count live →
    slice_get live place ≡ Some number → number < count
left_inside P count live place number h at =
    let l : number < 0 + count = left_below P 0 count live place number h at in omega arith

-- the property may change to one that follows from it
pub left_weaker : (P Q : ℕ → Type 0) (from count : ℕ) (live : List ℕ) → ((k : ℕ) → from ≤ k → P k → Q k) →
    AreLeft P from count live → AreLeft Q from count live
left_weaker P Q from zero [] f h = tt
left_weaker P Q from zero (x ∷ live) f h = absurd h
left_weaker P Q from (suc count) [] f h =
    (f from (omega arith) h.0, left_weaker P Q (from + 1) count [] (λ k l. f k (omega arith)) h.1)
left_weaker P Q from (suc count) (x ∷ live) f (inl h) =
    inl (h.0, left_weaker P Q (from + 1) count live (λ k l. f k (omega arith)) h.1)
left_weaker P Q from (suc count) (x ∷ live) f (inr h) =
    inr (f from (omega arith) h.0, left_weaker P Q (from + 1) count (x ∷ live) (λ k l. f k (omega arith)) h.1)

-- of a number that is left nothing has to follow
pub left_still : (P Q : ℕ → Type 0) (from count : ℕ) (live : List ℕ) (place number : ℕ) →
    slice_get live place ≡ Some number → ((k : ℕ) → (k ≡ number → ⊥) → P k → Q k) → AreLeft P from count live →
    AreLeft Q from count live
left_still P Q from count [] place number at f h = absurd (cc)
left_still P Q from zero (x ∷ live) place number at f h = absurd h
left_still P Q from (suc count) (x ∷ live) zero number at f (inl h) =
    let same : x ≡ number = same_Some x number at in
    let first : from ≡ x = h.0 in
    inl (first, left_weaker P Q (from + 1) count live (λ k l. f k (λ q. omega arith)) h.1)
left_still P Q from (suc count) (x ∷ live) (suc place) number at f (inl h) =
    inl (h.0, left_still P Q (from + 1) count live place number at f h.1)
left_still P Q from (suc count) (x ∷ live) place number at f (inr h) =
    let more : from + 1 ≤ number = left_from P (from + 1) count (x ∷ live) place number h.1 at in
    inr (f from (λ q. omega arith) h.0, left_still P Q (from + 1) count (x ∷ live) place number at f h.1)

skip_first : (P : ℕ → Type 0) (from count : ℕ) (live : List ℕ) → P from → AreLeft P (from + 1) count live →
    AreLeft P from (suc count) live
skip_first P from count [] p h = (p, h)
skip_first P from count (x ∷ live) p h = inr (p, h)

-- one of which the property holds may be left out
pub left_without : (P : ℕ → Type 0) (from count : ℕ) (live : List ℕ) (place number : ℕ) →
    slice_get live place ≡ Some number → P number → AreLeft P from count live →
    AreLeft P from count (remove live place)
left_without P from count [] place number at p h = absurd (cc)
left_without P from zero (x ∷ live) place number at p h = absurd h
left_without P from (suc count) (x ∷ live) zero number at p (inl h) =
    skip_first P from count live (subst P (sym (h.0 ∙ same_Some x number at)) p) h.1
left_without P from (suc count) (x ∷ live) (suc place) number at p (inl h) =
    inl (h.0, left_without P (from + 1) count live place number at p h.1)
left_without P from (suc count) (x ∷ live) place number at p (inr h) =
    skip_first P from count (remove (x ∷ live) place) h.0
    (left_without P (from + 1) count (x ∷ live) place number at p h.1)

-- where none is left, the property holds of all
pub none_left : (P : ℕ → Type 0) (from count k : ℕ) → AreLeft P from count [] → from ≤ k → k < from + count → P k
none_left P from zero k h l u = absurd (omega arith)
none_left P from (suc count) k h l u = elim (cases_eq k from) [
  | inl q ↦ subst P (sym q) h.0
  | inr apart ↦ none_left P (from + 1) count k h.1 (omega arith) (omega arith)
]

-- one number more of a range
pub range_more : (a n : ℕ) → range_with_len a (n + 1) ≡ range_with_len a n ++ (a + n) ∷ []
range_more a zero = let q : a ≡ a + 0 = omega arith in ap (λ k. k ∷ []) q
range_more a (suc n) =
    let q : a + 1 + n ≡ a + suc n = omega arith in
    let r : suc n + 1 ≡ suc (n + 1) = omega arith in
    ap (range_with_len a) r
    ∙ (ap (λ l. a ∷ l) (range_more (a + 1) n) ∙ ap (λ k. a ∷ range_with_len (a + 1) n ++ k ∷ []) q)
