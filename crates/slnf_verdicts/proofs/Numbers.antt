-- Lists that have at each number of a range what a function gives.
use Rattle.std.proofs.Common.{◌≡◌, ℕ, suc, zero, ◌+◌, ◌-◌, ◌<◌, ◌≤◌, List, [], ◌∷◌, ◌++◌, set, map, refl, sym, ap, ◌∙◌, arith}
use Rattle.std.specs.List.{range_with_len}
use Rattle.std.proofs.lemmas.List.{append_assoc}

-- two functions that give the same in the range
pub map_same : {X : Type 0} (f g : ℕ → X) (a n : ℕ) → ((m : ℕ) → a ≤ m → m < a + n → f m ≡ g m) →
    map f (range_with_len a n) ≡ map g (range_with_len a n)
map_same f g a zero h = refl
map_same f g a (suc n) h =
    ap (λ x. x ∷ map f (range_with_len (a + 1) n)) (h a (omega arith) (omega arith))
    ∙ ap (λ l. g a ∷ l) (map_same f g (a + 1) n (λ m l u. h m (omega arith) (omega arith)))

-- one of the values is another now
pub set_map : {X : Type 0} (f g : ℕ → X) (a n k : ℕ) (x : X) → k < n → x ≡ g (a + k) →
    ((m : ℕ) → (m ≡ a + k → ⊥) → f m ≡ g m) → set (map f (range_with_len a n)) k x ≡ map g (range_with_len a n)
set_map f g a zero k x l is h = absurd (omega arith)
set_map f g a (suc n) zero x l is h =
    let q : a + 0 ≡ a = omega arith in
    ap (λ y. y ∷ map f (range_with_len (a + 1) n)) (is ∙ ap g q)
    ∙ ap (λ l. g a ∷ l) (map_same f g (a + 1) n (λ m k u. h m (λ e. omega arith)))
set_map f g a (suc n) (suc k) x l is h =
    let q : a + suc k ≡ a + 1 + k = omega arith in
    ap (λ y. y ∷ set (map f (range_with_len (a + 1) n)) k x) (h a (λ e. omega arith))
    ∙ ap (λ l. g a ∷ l) (set_map f g (a + 1) n k x (omega arith) (is ∙ ap g q) (λ m e. h m (λ d. e (d ∙ q))))

-- one value more of those that are left
pub map_next : {X : Type 0} (f : ℕ → X) (at count place : ℕ) (items more total : List X) (x : X) → place < count →
    x ≡ f (at + place) → more ≡ items ++ x ∷ [] → items ++ map f (range_with_len (at + place) (count - place))
    ≡ total →
    more ++ map f (range_with_len (at + (place + 1)) (count - (place + 1))) ≡ total
map_next f at count place items more total x l is push h =
    let q : count - place ≡ suc (count - (place + 1)) = omega arith in
    let r : at + (place + 1) ≡ at + place + 1 = omega arith in
    ap (λ n. more ++ map f (range_with_len n (count - (place + 1)))) r
    ∙ (ap (λ l. l ++ map f (range_with_len (at + place + 1) (count - (place + 1)))) push
    ∙ (append_assoc items (x ∷ []) _
    ∙ (ap (λ y. items ++ y ∷ map f (range_with_len (at + place + 1) (count - (place + 1)))) is
    ∙ (ap (λ n. items ++ map f (range_with_len (at + place) n)) (sym q) ∙ h))))
