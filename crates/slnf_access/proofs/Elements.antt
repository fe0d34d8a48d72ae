-- What each element of a list has, by recursion on the list.
use Rattle.std.proofs.Common.{◌≡◌, Bool, true, false, cond, filter, List, [], ◌∷◌, ◌++◌, refl, ap}
use Rattle.std.specs.List.{AllByRecursion}

-- what each element has, one among them has
pub each-at : {X : Type 0} (P : X → Type 0) (xs ys : List X) (x : X) → AllByRecursion P (xs ++ x ∷ ys) → P x
each-at P [] ys x h = h.0
each-at P (y ∷ xs) ys x h = each-at P xs ys x h.1

-- what each element of two lists has, one after the other
pub each-append : {X : Type 0} (P : X → Type 0) (xs ys : List X) →
    AllByRecursion P xs → AllByRecursion P ys → AllByRecursion P (xs ++ ys)
each-append P [] ys h k = k
each-append P (x ∷ xs) ys h k = (h.0, each-append P xs ys h.1 k)

-- and the front and the back alone
pub each-front : {X : Type 0} (P : X → Type 0) (xs ys : List X) → AllByRecursion P (xs ++ ys) → AllByRecursion P xs
each-front P [] ys h = tt
each-front P (x ∷ xs) ys h = (h.0, each-front P xs ys h.1)

pub each-back : {X : Type 0} (P : X → Type 0) (xs ys : List X) → AllByRecursion P (xs ++ ys) → AllByRecursion P ys
each-back P [] ys h = h
each-back P (x ∷ xs) ys h = each-back P xs ys h.1

-- what each element has, for a weaker one
pub each-weaker : {X : Type 0} (P Q : X → Type 0) → ((x : X) → P x → Q x) → (xs : List X) →
    AllByRecursion P xs → AllByRecursion Q xs
each-weaker P Q f [] h = tt
each-weaker P Q f (x ∷ xs) h = (f x h.0, each-weaker P Q f xs h.1)

-- a filter keeps it
pub each-filter : {X : Type 0} (P : X → Type 0) (test : X → Bool) (xs : List X) →
    AllByRecursion P xs → AllByRecursion P (filter test xs)
each-filter P test [] h = tt
each-filter P test (x ∷ xs) h = go (test x) (each-filter P test xs h.1)
  where
    go : (b : Bool) → AllByRecursion P (filter test xs) → AllByRecursion P (cond b (x ∷ filter test xs) (filter test xs))
    go true r = (h.0, r)
    go false r = r

-- each element of a list has it that has it wherever the list is split
pub each-splits : {X : Type 0} (P : X → Type 0) (xs : List X) →
    ((before later : List X) (x : X) → xs ≡ before ++ x ∷ later → P x) → AllByRecursion P xs
each-splits P [] f = tt
each-splits P (x ∷ xs) f =
    (f [] xs x refl, each-splits P xs (λ before later y h. f (x ∷ before) later y (ap (λ zs. x ∷ zs) h)))
