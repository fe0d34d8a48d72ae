-- The first slot in hand, and its value.
use Rattle.std.proofs.Common.{◌≡◌, ℕ, zero, suc, ◌+◌, List, [], ◌∷◌, ◌++◌, map, take, set, get_or, replicate, Bool, false, Option, Some, ap, refl, sym, ◌∙◌, unwrap_or, add-one}
use mathlib.Core.Option.{some, some-injective, some-ne-none}
use mathlib.Core.List.{map-append}
use lib.ListN.{get_elem?}

abbrev pub item_or : {A : Type 0} → A → List (ℕ × A) → A
item_or d [] = d
item_or d (x ∷ xs) = x.1

-- what is found in the slot is what the seat's list says of it
pub same_item : {A : Type 0} (k j : ℕ) (x y : A) (cs xs ys : List (ℕ × A)) → cs ≡ (k, x) ∷ xs → cs ≡ (j, y) ∷ ys → x ≡ y
same_item k j x y cs xs ys p q = ap (item_or x) (sym p ∙ q)

pub same_value : {A : Type 0} (x y : A) → ◌≡◌ {A = Option A} (Some x) (Some y) → x ≡ y
same_value {A} x y e = ap (λ (o : Option A). unwrap_or o x) e

pub take_next : {A : Type 0} (l : List A) (k : ℕ) (a : A) → get_elem? l k ≡ some a → take (suc k) l ≡ take k l ++ a ∷ []
take_next [] k a e = absurd (some-ne-none a (sym e))
take_next (x ∷ xs) zero a e = ap (λ z. z ∷ []) (some-injective x a e)
take_next (x ∷ xs) (suc k) a e = ap (λ z. x ∷ z) (take_next xs k a e)

-- one more value is back
pub more_back : {B : Type 0} (items : List (Option B)) (old new : List B) (k : ℕ) (b : B) → map Some old ≡ take k items
    → get_elem? items k ≡ some (Some b) → new ≡ old ++ b ∷ [] → map Some new ≡ take (k + 1) items
more_back items old new k b so at is =
    ap (map Some) is ∙ (map-append Some old (b ∷ []) ∙ (ap (λ z. z ++ Some b ∷ []) so
    ∙ (sym (take_next items k (Some b) at) ∙ ap (λ (n : ℕ). take n items) (sym (add-one k)))))

-- what was taken out of a place is gone
pub emptied : (fs : List Bool) (k : ℕ) → get_or (set fs k false) k false ≡ false
emptied [] k = refl
emptied (f ∷ fs) zero = refl
emptied (f ∷ fs) (suc k) = emptied fs k

-- a list of one has that one
pub same_one : {A : Type 0} (x y : A) (l : List A) → l ≡ x ∷ [] → l ≡ y ∷ [] → x ≡ y
same_one x y l p q = ap (first_or x) (sym p ∙ q)
  where
    first_or : {A : Type 0} → A → List A → A
    first_or d [] = d
    first_or d (z ∷ zs) = z

pub all_zero : (n i : ℕ) → ◌≡◌ {A = ℕ} (get_or (replicate n 0) i 0) 0
all_zero zero i = refl
all_zero (suc n) zero = refl
all_zero (suc n) (suc i) = all_zero n i
