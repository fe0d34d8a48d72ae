-- Members of lists.
use Rattle.std.proofs.Common.{◌≡◌, Bool, true, false, cond, List, [], ◌∷◌, ◌++◌, refl, sym, ap, ◌∙◌, subst, inl, inr}
use Rattle.std.specs.Prelude.{filter}
use Rattle.std.specs.List.{AllByRecursion}
use Rattle.slnf_access.specs.declared.requests.Entry.{Entry}
use Rattle.slnf_access.specs.Order.{Precedes}
use Rattle.slnf_merge.proofs.Laws.{IsIn, AllBefore}

pub in_left : {A : Type 0} (x : A) (xs ys : List A) → IsIn x xs → IsIn x (xs ++ ys)
in_left x [] ys h = absurd h
in_left x (e ∷ es) ys (inl same) = inl same
in_left x (e ∷ es) ys (inr rest) = inr (in_left x es ys rest)

pub in_right : {A : Type 0} (x : A) (xs ys : List A) → IsIn x ys → IsIn x (xs ++ ys)
in_right x [] ys h = h
in_right x (e ∷ es) ys h = inr (in_right x es ys h)

pub all_in : {A : Type 0} (P : A → Type 0) (x : A) (xs : List A) → AllByRecursion P xs → IsIn x xs → P x
all_in P x [] a h = absurd h
all_in P x (e ∷ es) a (inl same) = subst P same a.0
all_in P x (e ∷ es) a (inr rest) = all_in P x es a.1 rest

pub all_from : {A : Type 0} (P : A → Type 0) (xs : List A) → ((x : A) → IsIn x xs → P x) → AllByRecursion P xs
all_from P [] f = tt
all_from P (e ∷ es) f = (f e (inl refl), all_from P es (λ x i. f x (inr i)))

-- members of a filtered list
pub in_filtered : (p : Entry → Bool) (x : Entry) (es : List Entry) → p x ≡ true → IsIn x es → IsIn x (filter p es)
in_filtered p x [] is h = absurd h
in_filtered p x (e ∷ es) is (inl same) = let test : p e ≡ true = ap p same ∙ is in rw test (inl same)
in_filtered p x (e ∷ es) is (inr rest) = by_test (p e) (in_filtered p x es is rest)
  where
    by_test : (b : Bool) → IsIn x (filter p es) → IsIn x (cond b (e ∷ filter p es) (filter p es))
    by_test true h = inr h
    by_test false h = h

filtered_step : (p : Entry → Bool) (x e : Entry) (es : List Entry) (b : Bool) → p e ≡ b →
    (IsIn x (filter p es) → (p x ≡ true) × IsIn x es) → IsIn x (cond b (e ∷ filter p es) (filter p es)) →
    (p x ≡ true) × IsIn x (e ∷ es)
filtered_step p x e es true is rest (inl same) = (ap p (sym same) ∙ is, inl same)
filtered_step p x e es true is rest (inr h) = let r = rest h in (r.0, inr r.1)
filtered_step p x e es false is rest h = let r = rest h in (r.0, inr r.1)

pub filtered_in : (p : Entry → Bool) (x : Entry) (es : List Entry) → IsIn x (filter p es) → (p x ≡ true) × IsIn x es
filtered_in p x [] h = absurd h
filtered_in p x (e ∷ es) h = filtered_step p x e es (p e) refl (filtered_in p x es) h

pub before_in : (e x : Entry) (es : List Entry) → AllBefore e es → IsIn x es → Precedes e x
before_in e x [] h i = absurd i
before_in e x (f ∷ fs) h (inl same) = subst (λ (y : Entry). Precedes e y) same h.0
before_in e x (f ∷ fs) h (inr rest) = before_in e x fs h.1 rest
