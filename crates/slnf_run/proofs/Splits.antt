-- A list split at one of its elements.
use Rattle.std.proofs.Common.{◌≡◌, ℕ, zero, suc, ◌<◌, Some, List, [], ◌∷◌, ◌++◌, length, take, drop, slice_get, refl, ap, arith, le_of_suc-le-suc}

-- a list split at an element: what stands there, and the front with and without it
pub record IsSplit {X : Type 0} (xs : List X) (t : ℕ) (x : X) : Type 0 where
  pub at : slice_get xs t ≡ Some x
  pub whole : xs ≡ take t xs ++ x ∷ drop (suc t) xs
  pub front : take (suc t) xs ≡ take t xs ++ x ∷ []
  pub size : length (take t xs) ≡ t

-- a list can be split at each place
pub split_at : {X : Type 0} (xs : List X) (t : ℕ) → t < length xs → (x : X) × IsSplit xs t x
split_at [] t h = absurd (omega arith)
split_at (x ∷ xs) zero h = (x, record { at = refl; whole = refl; front = refl; size = refl })
split_at (x ∷ xs) (suc t) h =
    let r : (y : _) × IsSplit xs t y = split_at xs t (le_of_suc-le-suc h) in (
      r.0,
      record {
        at = r.1.at;
        whole = ap (λ ys. x ∷ ys) r.1.whole;
        front = ap (λ ys. x ∷ ys) r.1.front;
        size =
            ap suc r.1.size;
      },
    )

-- the element behind a front
pub slice_get-split : {X : Type 0} (xs ys : List X) (x : X) → slice_get (xs ++ x ∷ ys) (length xs) ≡ Some x
slice_get-split [] ys x = refl
slice_get-split (y ∷ xs) ys x = slice_get-split xs ys x

-- a list has one split behind a front of one length
pub split_same : {X : Type 0} (xs us ys vs : List X) (x u : X) → xs ++ x ∷ ys ≡ us ++ u ∷ vs → length xs ≡ length us →
    (xs ≡ us) × (x ≡ u) × (ys ≡ vs)
split_same [] [] ys vs x u e h = (refl, cc, cc)
split_same [] (u' ∷ us) ys vs x u e h = absurd (omega arith)
split_same (x' ∷ xs) [] ys vs x u e h = absurd (omega arith)
split_same (x' ∷ xs) (u' ∷ us) ys vs x u e h =
    let tail : xs ++ x ∷ ys ≡ us ++ u ∷ vs = cc in
    let size : length xs ≡ length us = omega arith in
    let r : (xs ≡ us) × (x ≡ u) × (ys ≡ vs) = split_same xs us ys vs x u tail size in
    let front : xs ≡ us = r.0 in
    (cc, r.1, r.2)
