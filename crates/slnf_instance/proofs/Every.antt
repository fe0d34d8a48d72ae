-- More of what holds of each element of a list.
use Rattle.std.proofs.Common.{ℕ, zero, suc, ◌+◌, ◌<◌, ◌≤◌, List, [], ◌∷◌, ◌++◌, arith}
use Rattle.std.specs.Prelude.{All}
use Rattle.std.specs.List.{range_with_len, AllByRecursion as Every}

pub each-append : {X : Type 0} (P : X → Type 0) (xs ys : List X) → Every P xs → Every P ys → Every P (xs ++ ys)
each-append P [] ys h k = k
each-append P (x ∷ xs) ys h k = (h.0, each-append P xs ys h.1 k)

pub every_of_all : {X : Type 0} (P : X → Type 0) (xs : List X) → All P xs → Every P xs
every_of_all P [] h = tt
every_of_all P (x ∷ xs) h = (h 0 x (omega arith), every_of_all P xs (λ k d l. h (suc k) d (omega arith)))

pub every_always : {X : Type 0} (P : X → Type 0) → ((x : X) → P x) → (xs : List X) → Every P xs
every_always P h [] = tt
every_always P h (x ∷ xs) = (h x, every_always P h xs)

pub every_both : {X : Type 0} (P Q R : X → Type 0) → ((x : X) → P x → Q x → R x) → (xs : List X) → Every P xs →
    Every Q xs → Every R xs
every_both P Q R w [] h k = tt
every_both P Q R w (x ∷ xs) h k = (w x h.0 k.0, every_both P Q R w xs h.1 k.1)

-- each number of a range
pub every_range : (P : ℕ → Type 0) (from size : ℕ) → ((n : ℕ) → from ≤ n → n < from + size → P n) →
    Every P (range_with_len from size)
every_range P from zero h = tt
every_range P from (suc size) h =
    (h from (omega arith) (omega arith), every_range P (from + 1) size (λ n l u. h n (omega arith) (omega arith)))

pub all_of_every : {X : Type 0} (P : X → Type 0) (xs : List X) → Every P xs → All P xs
all_of_every P [] h k d l = absurd (omega arith)
all_of_every P (x ∷ xs) h zero d l = h.0
all_of_every P (x ∷ xs) h (suc k) d l = all_of_every P xs h.1 k d (omega arith)
