-- Vectors of vectors, as lists by number.
use Rattle.std.proofs.Common.{◌≡◌, inl, inr, ℕ, suc, zero, ◌<◌, ◌==◌, if◌then◌else◌, List, [], ◌∷◌, ◌++◌, get_or, set, length, refl, sym, ap, ◌∙◌, arith, eq-eqb, ne_eqb, append-nil}
use Rattle.std.specs.Prelude.{Vec}
use Rattle.std.specs.declared.alloc.Global.{Global}
use Rattle.std.proofs.lemmas.Bool.{cases_eq, cond-true, cond-false}
use Rattle.slnf_verdicts.specs.Tables.{lists, list_at}

-- one empty vector more
pub empty_more : {X : Type 0} (table : List (Vec X Global)) (v : Vec X Global) (i : ℕ) → v.items ≡ [] →
    list_at (lists (table ++ v ∷ [])) i ≡ list_at (lists table) i
empty_more [] v zero h = h
empty_more [] v (suc i) h = refl
empty_more (x ∷ table) v zero h = refl
empty_more (x ∷ table) v (suc i) h = empty_more table v i h

-- one vector is another now
pub at_same : {X : Type 0} (table : List (Vec X Global)) (k : ℕ) (v : Vec X Global) → k < length table →
    list_at (lists (set table k v)) k ≡ v.items
at_same [] k v l = absurd (omega arith)
at_same (x ∷ table) zero v l = refl
at_same (x ∷ table) (suc k) v l = at_same table k v (omega arith)

pub at_other : {X : Type 0} (table : List (Vec X Global)) (k other : ℕ) (v : Vec X Global) → (k ≡ other → ⊥) →
    list_at (lists (set table k v)) other ≡ list_at (lists table) other
at_other [] k other v e = refl
at_other (x ∷ table) zero zero v e = absurd (e refl)
at_other (x ∷ table) zero (suc other) v e = refl
at_other (x ∷ table) (suc k) zero v e = refl
at_other (x ∷ table) (suc k) (suc other) v e = at_other table k other v (λ q. e (ap (λ n. suc n) q))

pub at_there : {X : Type 0} (table : List (Vec X Global)) (k : ℕ) (d : Vec X Global) → k < length table →
    list_at (lists table) k ≡ (get_or table k d).items
at_there [] k d l = absurd (omega arith)
at_there (x ∷ table) zero d l = refl
at_there (x ∷ table) (suc k) d l = at_there table k d (omega arith)

-- items are added to one vector
pub added : {X : Type 0} (table : List (Vec X Global)) (k other : ℕ) (old new : Vec X Global) (more : List X) →
    k < length table → old ≡ get_or table k old → new.items ≡ old.items ++ more →
    list_at (lists (set table k new)) other ≡ list_at (lists table) other ++ (if k == other then more else [])
added table k other old new more l at is = elim (cases_eq k other) [
  | inl e ↦
      let there : list_at (lists table) k ≡ old.items = at_there table k old l
      ∙ ap (λ (v : Vec _ Global). v.items) (sym at) in
      ap (list_at (lists (set table k new))) (sym e)
      ∙ (at_same table k new l
      ∙ (is
      ∙ (ap (λ l. l ++ more) (sym there)
      ∙ (ap (λ n. list_at (lists table) n ++ more) e
      ∙ ap (λ l. list_at (lists table) other ++ l) (sym (cond-true (k == other) more [] (eq-eqb k other e)))))))
  | inr e ↦
      at_other table k other new e
      ∙ (sym (append-nil (list_at (lists table) other))
      ∙ ap (λ l. list_at (lists table) other ++ l) (sym (cond-false (k == other) more [] (ne_eqb k other e))))
]
