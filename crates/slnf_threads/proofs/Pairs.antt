-- Two lists, place by place, and lists that grow by one.
use Rattle.std.proofs.Common.{◌≡◌, ℕ, suc, ◌+◌, ◌<◌, List, [], ◌∷◌, ◌++◌, length, get_or, refl, ap, subst, arith}
use Rattle.slnf_threads.specs.Crews.{EachAt, Pairwise}

-- from each place
pub pairwise_at : {X Y : Type 0} (P : X → Y → Type 0) (xs : List X) (ys : List Y) → length ys ≡ length xs →
    ((i : ℕ) (d : X) (e : Y) → i < length xs → P (get_or xs i d) (get_or ys i e)) → Pairwise P xs ys
pairwise_at P [] [] n f = tt
pairwise_at P [] (y ∷ ys) n f = absurd (omega arith)
pairwise_at P (x ∷ xs) [] n f = absurd (omega arith)
pairwise_at P (x ∷ xs) (y ∷ ys) n f =
    (f 0 x y (omega arith), pairwise_at P xs ys (omega arith) (λ i d e l. f (suc i) d e (omega arith)))

-- as many
pub count_pairs : {X Y : Type 0} (P : X → Y → Type 0) (xs : List X) (ys : List Y) → Pairwise P xs ys →
    length ys ≡ length xs
count_pairs P [] [] h = refl
count_pairs P [] (y ∷ ys) h = absurd h
count_pairs P (x ∷ xs) [] h = absurd h
count_pairs P (x ∷ xs) (y ∷ ys) h = ap suc (count_pairs P xs ys h.1)

-- one more
pub each_push : {X : Type 0} (P : ℕ → X → Type 0) (n : ℕ) (xs : List X) (x : X) → EachAt P n xs →
    P (n + length xs) x → EachAt P n (xs ++ x ∷ [])
each_push P n [] x h new = let q : n + 0 ≡ n = omega arith in (subst (λ k. P k x) q new, tt)
each_push P n (y ∷ xs) x h new =
    let q : n + suc (length xs) ≡ n + 1 + length xs = omega arith in
    (h.0, each_push P (n + 1) xs x h.1 (subst (λ k. P k x) q new))
