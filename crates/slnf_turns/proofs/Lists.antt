-- Functions changed at one number, sums over views, and elements of lists.
use Rattle.std.proofs.Common.{◌≡◌, ◌≢◌, ℕ, zero, suc, ◌+◌, ◌<◌, ◌≤◌, List, [], ◌∷◌, ◌++◌, length, set, sym, refl, ap, ◌∙◌, ◌⊎◌, inl, inr, ⊎_elim, arith, append_assoc, append-nil, slice_get, Some, None, map}
use Rattle.std.specs.List.{AllByRecursion}
use mathlib.Core.Option.{some, some-injective, some-ne-none}
use native.Mathlib.Decide.{ℕ_discrete}
use lib.ListN.{get_elem?}
use Rattle.slnf_turns.specs.declared.views.View.{View}
use Rattle.slnf_turns.specs.Views.{Begins}
use Rattle.slnf_turns.specs.Rule.{total}

module _ {A : Type 0} where
  abbrev pick : {P : Type 0} → Dec P → A → A → A
  pick (yes _) a b = a
  pick (no _) a b = b

  -- f, but c at i
  pub put : (ℕ → A) → ℕ → A → ℕ → A
  put f i c j = pick (ℕ_discrete j i) c (f j)

  pub put_here : (f : ℕ → A) (i : ℕ) (c : A) (j : ℕ) → j ≡ i → put f i c j ≡ c
  unfolding put
  put_here f i c j same = go (ℕ_discrete j i)
    where
      go : (d : Dec (j ≡ i)) → pick d c (f j) ≡ c
      go (yes _) = refl
      go (no n) = absurd (n same)

  pub put_else : (f : ℕ → A) (i : ℕ) (c : A) (j : ℕ) → j ≢ i → put f i c j ≡ f j
  unfolding put
  put_else f i c j other = go (ℕ_discrete j i)
    where
      go : (d : Dec (j ≡ i)) → pick d c (f j) ≡ f j
      go (yes e) = absurd (other e)
      go (no _) = refl

  pub begins_refl : (xs : List A) → Begins xs xs
  begins_refl xs = ([], sym (append-nil xs))

  pub begins_more : (xs ys zs : List A) → Begins xs ys → Begins xs (ys ++ zs)
  begins_more xs ys zs b = (b.0 ++ zs, ap (λ l. l ++ zs) b.1 ∙ append_assoc xs b.0 zs)

  pub begins_trans : (xs ys zs : List A) → Begins xs ys → Begins ys zs → Begins xs zs
  begins_trans xs ys zs a b = (a.0 ++ b.0, b.1 ∙ (ap (λ l. l ++ b.0) a.1 ∙ append_assoc xs a.0 b.0))

  pub at_within : (l : List A) (i : ℕ) (a : A) → get_elem? l i ≡ some a → i < length l
  at_within [] i a e = absurd (some-ne-none a (sym e))
  at_within (x ∷ xs) zero a e = omega arith
  at_within (x ∷ xs) (suc i) a e = let h = at_within xs i a e in omega arith

  pub within_at : (l : List A) (i : ℕ) → i < length l → (a : A) × (get_elem? l i ≡ some a)
  within_at [] i h = absurd (omega arith)
  within_at (x ∷ xs) zero h = (x, refl)
  within_at (x ∷ xs) (suc i) h = within_at xs i (omega arith)

  -- an element of a list with one more is an old one, or the last
  pub at_end : (l : List A) (a : A) (j : ℕ) (x : A)
      → get_elem? (l ++ a ∷ []) j ≡ some x → (get_elem? l j ≡ some x) ⊎ ((j ≡ length l) × (a ≡ x))
  at_end [] a zero x e = inr (refl, some-injective a x e)
  at_end [] a (suc j) x e = absurd (some-ne-none x (sym e))
  at_end (y ∷ ys) a zero x e = inl e
  at_end (y ∷ ys) a (suc j) x e = ⊎_elim (λ (h : get_elem? ys j ≡ some x). inl h)
      (λ (h : (j ≡ length ys) × (a ≡ x)). inr (ap suc h.0, h.1)) (at_end ys a j x e)

  pub get_more : (l m : List A) (i : ℕ) (a : A) → slice_get l i ≡ Some a → slice_get (l ++ m) i ≡ Some a
  get_more [] m i a e = absurd (none_not_some a e)
    where
      none_not_some : (b : A) → None ≡ Some b → ⊥
      none_not_some b e = grind arith
  get_more (x ∷ xs) m zero a e = e
  get_more (x ∷ xs) m (suc i) a e = get_more xs m i a e

  pub get_last : (l : List A) (a : A) (i : ℕ) → i ≡ length l → slice_get (l ++ a ∷ []) i ≡ Some a
  get_last [] a zero e = refl
  get_last [] a (suc i) e = absurd (omega arith)
  get_last (x ∷ xs) a zero e = absurd (omega arith)
  get_last (x ∷ xs) a (suc i) e = get_last xs a i (omega arith)

  pub one_at : (l : List A) (i : ℕ) (a b : A) → get_elem? l i ≡ some a → get_elem? l i ≡ some b → a ≡ b
  one_at l i a b p q = some-injective a b (sym p ∙ q)

  pub all_map : (P Q : A → Type 0) (l : List A) → ((x : A) → P x → Q x) → AllByRecursion P l → AllByRecursion Q l
  all_map P Q [] f a = tt
  all_map P Q (x ∷ xs) f a = (f x a.0, all_map P Q xs f a.1)

  pub all_snoc : (P : A → Type 0) (l : List A) (x : A) → AllByRecursion P l → P x → AllByRecursion P (l ++ x ∷ [])
  all_snoc P [] x a p = (p, tt)
  all_snoc P (y ∷ ys) x a p = (a.0, all_snoc P ys x a.1 p)

  pub all_last : (P : A → Type 0) (l : List A) (x : A) → AllByRecursion P (l ++ x ∷ []) → P x
  all_last P [] x a = a.0
  all_last P (y ∷ ys) x a = all_last P ys x a.1

pub total_set : (f : View → ℕ) (vs : List View) (i : ℕ) (v w : View)
    → get_elem? vs i ≡ some v → total f (set vs i w) + f v ≡ total f vs + f w
total_set f [] i v w e = absurd (some-ne-none v (sym e))
total_set f (x ∷ xs) zero v w e = let same : f x ≡ f v = ap f (some-injective x v e) in omega arith
total_set f (x ∷ xs) (suc i) v w e = let h = total_set f xs i v w e in omega arith

pub total_snoc : (f : View → ℕ) (vs : List View) (v : View) → total f (vs ++ v ∷ []) ≡ total f vs + f v
total_snoc f [] v = omega arith
total_snoc f (x ∷ xs) v = let h = total_snoc f xs v in omega arith

pub total_most : (f : View → ℕ) (vs : List View) → ((v : View) → f v ≤ 1) → total f vs ≤ length vs
total_most f [] one = omega arith
total_most f (x ∷ xs) one = let h = total_most f xs one in let o = one x in omega arith

pub total_at : (f : View → ℕ) (vs : List View) (i : ℕ) (v : View) → get_elem? vs i ≡ some v → f v ≤ total f vs
total_at f [] i v e = absurd (some-ne-none v (sym e))
total_at f (x ∷ xs) zero v e = let same : f x ≡ f v = ap f (some-injective x v e) in omega arith
total_at f (x ∷ xs) (suc i) v e = let h = total_at f xs i v e in omega arith

pub map_twice : {A B C : Type 0} (f : A → B) (g : B → C) (l : List A) → map g (map f l) ≡ map (λ (x : A). g (f x)) l
map_twice f g [] = refl
map_twice {A} {B} {C} f g (x ∷ xs) = ap (λ (z : List C). g (f x) ∷ z) (map_twice f g xs)
