-- What holds of each element of a list, element by element.
use Rattle.std.proofs.Common.{◌≡◌, ℕ, suc, zero, ◌+◌, List, [], ◌∷◌, ◌++◌, Some, length, slice_get, zero-add, suc-add, add-zero, subst, arith}
use Rattle.std.proofs.lemmas.Option.{same_Some}

-- each of these has this
abbrev pub Every : {X : Type 0} → (X → Type 0) → List X → Type 0
Every P [] = Unit {0}
Every P (x ∷ xs) = P x × Every P xs

pub every-weaker : {X : Type 0} (P Q : X → Type 0) → ((x : X) → P x → Q x) → (xs : List X) → Every P xs → Every Q xs
every-weaker P Q w [] h = tt
every-weaker P Q w (x ∷ xs) h = (w x h.0, every-weaker P Q w xs h.1)

-- an element of a front
pub slice_get-append_left : {X : Type 0} (xs ys : List X) (k : ℕ) (x : X) → slice_get xs k ≡ Some x →
    slice_get (xs ++ ys) k ≡ Some x
slice_get-append_left [] ys k x h = absurd (cc)
slice_get-append_left (y ∷ xs) ys zero x h = h
slice_get-append_left (y ∷ xs) ys (suc k) x h = slice_get-append_left xs ys k x h

-- an element of a back
pub slice_get-append_right : {X : Type 0} (xs ys : List X) (k : ℕ) → slice_get (xs ++ ys) (length xs + k)
    ≡ slice_get ys k
slice_get-append_right [] ys k = rw zero-add
slice_get-append_right (x ∷ xs) ys k = rw suc-add (slice_get-append_right xs ys k)

-- each of these, the first of which has this number, has this
abbrev pub EveryAt : {X : Type 0} → (ℕ → X → Type 0) → ℕ → List X → Type 0
EveryAt P number [] = Unit {0}
EveryAt P number (x ∷ xs) = P number x × EveryAt P (number + 1) xs

pub every_at : {X : Type 0} (P : ℕ → X → Type 0) (number : ℕ) (xs : List X) (k : ℕ) (x : X) → EveryAt P number xs →
    slice_get xs k ≡ Some x → P (number + k) x
every_at P number [] k x h e = absurd (cc)
every_at P number (y ∷ xs) zero x h e = rw add-zero (subst (P number) (same_Some y x e) h.0)
every_at P number (y ∷ xs) (suc k) x h e =
    let q : number + 1 + k ≡ number + suc k = omega arith in
    subst (λ n. P n x) q (every_at P (number + 1) xs k x h.1 e)

pub every_at-append : {X : Type 0} (P : ℕ → X → Type 0) (number : ℕ) (xs ys : List X) → EveryAt P number xs →
    EveryAt P (number + length xs) ys → EveryAt P number (xs ++ ys)
every_at-append P number [] ys h k = subst (λ n. EveryAt P n ys) (add-zero number) k
every_at-append P number (x ∷ xs) ys h k =
    let q : number + suc (length xs) ≡ number + 1 + length xs = omega arith in
    (h.0, every_at-append P (number + 1) xs ys h.1 (subst (λ n. EveryAt P n ys) q k))

pub every_at-weaker : {X : Type 0} (P Q : ℕ → X → Type 0) → ((n : ℕ) (x : X) → P n x → Q n x) →
    (number : ℕ) (xs : List X) → EveryAt P number xs → EveryAt Q number xs
every_at-weaker P Q w number [] h = tt
every_at-weaker P Q w number (x ∷ xs) h = (w number x h.0, every_at-weaker P Q w (number + 1) xs h.1)
