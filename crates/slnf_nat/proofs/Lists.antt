-- Laws of lists with one more entry.
use Rattle.std.proofs.Common.{◌≡◌, ◌⊎◌, inl, inr, ◌<◌, List, [], ◌∷◌, ◌++◌, ap, ◌∙◌, append_assoc}
use Rattle.slnf_access.specs.declared.requests.Entry.{Entry}
use Rattle.slnf_access.specs.Map.{key_of}
use Rattle.slnf_access.specs.Order.{RisesOnKeys}
use Rattle.slnf_access.proofs.Elements.{each-splits}
use Rattle.slnf_nat.specs.Kept.{SomeEntry}
use Rattle.std.specs.List.{AllByRecursion}

-- what one of the entries has, one of more has
pub some_entry-more : (P : Entry → Type 0) (xs ys : List Entry) → SomeEntry P xs → SomeEntry P (xs ++ ys)
some_entry-more P [] ys h = absurd h
some_entry-more P (x ∷ xs) ys (inl h) = inl h
some_entry-more P (x ∷ xs) ys (inr h) = inr (some_entry-more P xs ys h)

pub some_entry-last : (P : Entry → Type 0) (xs : List Entry) (e : Entry) → P e → SomeEntry P (xs ++ e ∷ [])
some_entry-last P [] e h = inl h
some_entry-last P (x ∷ xs) e h = inr (some_entry-last P xs e h)

pub some_entry-parts : (P : Entry → Type 0) (xs : List Entry) (e : Entry) → SomeEntry P (xs ++ e ∷ [])
    → SomeEntry P xs ⊎ P e
some_entry-parts P [] e (inl h) = inr h
some_entry-parts P [] e (inr h) = absurd h
some_entry-parts P (x ∷ xs) e (inl h) = inl (inl h)
some_entry-parts P (x ∷ xs) e (inr h) = elim (some_entry-parts P xs e h) [ inl a ↦ inl (inr a) | inr b ↦ inr b ]

-- what one of them has, with what each has
pub some_entry-each : (P Q : Entry → Type 0) (R : Type 0) (xs : List Entry) → SomeEntry P xs → AllByRecursion Q xs
    → ((f : Entry) → P f → Q f → R) → R
some_entry-each P Q R [] h each both = absurd h
some_entry-each P Q R (x ∷ xs) (inl h) each both = both x h each.0
some_entry-each P Q R (x ∷ xs) (inr h) each both = some_entry-each P Q R xs h each.1 both

-- a weaker one
pub some_entry-weaker : (P Q : Entry → Type 0) (xs : List Entry) → ((f : Entry) → P f → Q f) → SomeEntry P xs
    → SomeEntry Q xs
some_entry-weaker P Q [] weaker h = absurd h
some_entry-weaker P Q (x ∷ xs) weaker (inl h) = inl (weaker x h)
some_entry-weaker P Q (x ∷ xs) weaker (inr h) = inr (some_entry-weaker P Q xs weaker h)

pub each-parts : (P : Entry → Type 0) (xs : List Entry) (e : Entry) → AllByRecursion P (xs ++ e ∷ [])
    → AllByRecursion P xs × P e
each-parts P [] e h = (tt, h.0)
each-parts P (x ∷ xs) e h = let r = each-parts P xs e h.1 in ((h.0, r.0), r.1)

-- where stamps rise on keys, the entries before one that are on its key have lower ones
pub rising_before : (es before later : List Entry) (e : Entry) → RisesOnKeys es → es ≡ before ++ e ∷ later →
    AllByRecursion (λ f. key_of f.request ≡ key_of e.request → f.stamp < e.stamp) before
rising_before es before later e rises split =
    each-splits (λ f. key_of f.request ≡ key_of e.request → f.stamp < e.stamp) before (λ xs ys f h key.
    rises xs ys later f e (split ∙ ap (λ l. l ++ e ∷ later) h ∙ append_assoc xs (f ∷ ys) (e ∷ later)) key)
