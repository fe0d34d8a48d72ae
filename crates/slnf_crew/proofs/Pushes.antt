-- Lists that grow by one, and what stands in them.
use Rattle.std.proofs.Common.{◌≡◌, ℕ, zero, suc, ◌+◌, ◌<◌, List, [], ◌∷◌, ◌++◌, Some, length, get_or, slice_get, sym, ap, ◌∙◌, subst, arith}
use Rattle.std.proofs.lemmas.Option.{same_Some, slice_get-get_or}

here : {X : Type 0} (P : ℕ → X → Type 0) (xs : List X) (x : X) (n : ℕ) →
    ((k : ℕ) (y : X) → slice_get xs k ≡ Some y → P (n + k) y) → P (n + length xs) x → (k : ℕ) (y : X) →
    slice_get (xs ++ x ∷ []) k ≡ Some y → P (n + k) y
here P [] x n h new zero y is = subst (P (n + 0)) (same_Some x y is) new
here P [] x n h new (suc k) y is = absurd (cc)
here P (z ∷ xs) x n h new zero y is = h 0 y is
here P (z ∷ xs) x n h new (suc k) y is =
    let last : n + length (z ∷ xs) ≡ n + 1 + length xs = omega arith in
    let at : n + 1 + k ≡ n + suc k = omega arith in
    subst (λ j. P j y) at (here P xs x (n + 1)
    (λ j w there. let q : n + suc j ≡ n + 1 + j = omega arith in subst (λ i. P i w) q (h (suc j) w there))
    (subst (λ i. P i x) last new) k y is)

-- one more
pub pushed : {X : Type 0} (P : ℕ → X → Type 0) (xs ys : List X) (x : X) (n : ℕ) → ys ≡ xs ++ x ∷ [] →
    length xs ≡ n → ((k : ℕ) (y : X) → slice_get xs k ≡ Some y → P k y) → P n x → (k : ℕ) (y : X) →
    slice_get ys k ≡ Some y → P k y
pushed P xs ys x n whole count h new k y is =
    let last : n ≡ 0 + length xs = omega arith in
    let at : 0 + k ≡ k = omega arith in
    subst (λ j. P j y) at (here P xs x 0
    (λ j w there. let q : j ≡ 0 + j = omega arith in subst (λ i. P i w) q (h j w there))
    (subst (λ i. P i x) last new) k y (subst (λ l. slice_get l k ≡ Some y) whole is))

-- what an index read
pub read_at : {X : Type 0} (Q : X → Type 0) (xs : List X) (k : ℕ) (d : X) → k < length xs → Q (get_or xs k d) →
    (a : X) → slice_get xs k ≡ Some a → Q a
read_at Q xs k d l h a is = subst Q (same_Some (get_or xs k d) a (sym (slice_get-get_or xs k d l) ∙ is)) h

-- what an index into a slice of a list read
pub at_index : {X : Type 0} (xs ys : List X) (k : ℕ) (x : X) → ys ≡ xs → k < length xs → x ≡ get_or ys k x →
    slice_get xs k ≡ Some x
at_index xs ys k x is l read =
    subst (λ l. slice_get l k ≡ Some x) is
    (slice_get-get_or ys k x (subst (λ l. k < length l) (sym is) l) ∙ ap Some (sym read))
