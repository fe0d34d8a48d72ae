-- Lists where one place is set.
use Rattle.std.proofs.Common.{◌≡◌, ℕ, zero, suc, ◌<◌, Some, List, [], ◌∷◌, length, set, slice_get, refl, sym, ap, arith}
use Rattle.std.proofs.lemmas.Option.{same_Some}

-- what stands at the place is what was set there,
pub get-set-own : {X : Type 0} (xs : List X) (k : ℕ) (x y : X) → slice_get (set xs k x) k ≡ Some y → y ≡ x
get-set-own [] k x y h = absurd (cc)
get-set-own (z ∷ xs) zero x y h = sym (same_Some x y h)
get-set-own (z ∷ xs) (suc k) x y h = get-set-own xs k x y h

-- and at each other place what stood there
pub get-set-other : {X : Type 0} (xs : List X) (k n : ℕ) (x y : X) → (n ≡ k → ⊥) →
    slice_get (set xs k x) n ≡ Some y → slice_get xs n ≡ Some y
get-set-other [] k n x y apart h = h
get-set-other (z ∷ xs) zero zero x y apart h = absurd (apart refl)
get-set-other (z ∷ xs) zero (suc n) x y apart h = h
get-set-other (z ∷ xs) (suc k) zero x y apart h = h
get-set-other (z ∷ xs) (suc k) (suc n) x y apart h = get-set-other xs k n x y (λ q. apart (ap suc q)) h

-- a number below the length has an element
pub some_at : {X : Type 0} (xs : List X) (k : ℕ) → k < length xs → (x : X) × (slice_get xs k ≡ Some x)
some_at [] k l = absurd (omega arith)
some_at (x ∷ xs) zero l = (x, refl)
some_at (x ∷ xs) (suc k) l = some_at xs k (omega arith)
