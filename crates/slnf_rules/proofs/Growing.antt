-- Lists that grow by a rule, entry by entry of a list that is there.
use Rattle.std.proofs.Common.{◌≡◌, inl, inr, ℕ, suc, ◌+◌, ◌-◌, ◌<◌, ◌≤◌, ◌==◌, if◌then◌else◌, true, false, IsTrue, List, [], ◌∷◌, ◌++◌, Option, Some, None, length, take, get_or, slice_get, refl, sym, ap, ◌∙◌, subst, arith, eq-eqb, ne_eqb, Bool}
use Rattle.std.proofs.lemmas.Option.{same_Some, slice_get_within, slice_get-get_or}
use Rattle.std.proofs.lemmas.Bool.{cases_eq, cond-true, cond-false}
use Rattle.std.proofs.lemmas.List.{take_all}
use Rattle.slnf_access.specs.declared.requests.Entry.{Entry}
use Rattle.slnf_access.specs.declared.requests.Held.{Held}
use Rattle.slnf_access.specs.declared.requests.Request.TheVariants.{Read}
use Rattle.slnf_access.specs.declared.requests.Reply.TheVariants.{Done}
use Rattle.slnf_access.specs.Map.{key_of, cell_after, cell_step, cell_of}
use Rattle.slnf_access.specs.Order.{Precedes}
use Rattle.slnf_access.proofs.Laws.{cell_of-append}
use Rattle.slnf_run.specs.Jobs.{last_of}
use Rattle.slnf_run.specs.Made.{Grown}
use Rattle.slnf_run.proofs.Growth.{grown-append}
use Rattle.slnf_run.proofs.Splits.{split_at}
use Rattle.slnf_local.specs.Rules.{ComesAfter, BreaksAt}

pub take_more : {X : Type 0} (xs : List X) (n : ℕ) (x : X) → slice_get xs n ≡ Some x →
    take (n + 1) xs ≡ take n xs ++ x ∷ []
take_more xs n x at =
    let s = split_at xs n (slice_get_within xs n x at) in
    let q : n + 1 ≡ suc n = omega arith in
    ap (λ k. take k xs) q ∙ (s.1.front ∙ ap (λ y. take n xs ++ y ∷ []) (same_Some s.0 x (sym s.1.at ∙ at)))

-- one entry more is allowed
pub grown_more : (Q : List Entry → Entry → Type 0) (j : List Entry) (n : ℕ) (e : Entry) → slice_get j n ≡ Some e →
    Grown Q [] (take n j) → Q (take n j) e → Grown Q [] (take (n + 1) j)
grown_more Q j n e at grown allowed =
    subst (Grown Q []) (sym (take_more j n e at)) (grown-append Q [] (take n j) (e ∷ []) grown (allowed, tt))

-- or it is the first that isn't
pub breaks_at : (Q : List Entry → Entry → Type 0) (j : List Entry) (n place : ℕ) (e : Entry) →
    slice_get j n ≡ Some e → Grown Q [] (take n j) → (Q (take n j) e → ⊥) → place ≡ n + 1 → BreaksAt Q j place
breaks_at Q j n place e at grown broken is =
    (n, is, record { entry = e; there = at; grown = grown; broken = broken })

-- or there is none left
pub grown_all : (Q : List Entry → Entry → Type 0) (j : List Entry) (n : ℕ) → length j ≤ n → Grown Q [] (take n j) →
    Grown Q [] j
grown_all Q j n l grown = subst (Grown Q []) (take_all n j l) grown

pub last_of_push : (es : List Entry) (e : Entry) → last_of (es ++ e ∷ []) ≡ Some e
last_of_push [] e = refl
last_of_push (x ∷ []) e = refl
last_of_push (x ∷ y ∷ es) e = last_of_push (y ∷ es) e

-- the last of so many
last_of_take : (es : List Entry) (n m : ℕ) (e : Entry) → m + 1 ≡ n → slice_get es m ≡ Some e →
    last_of (take n es) ≡ Some e
last_of_take es n m e q at =
    ap (λ k. last_of (take k es)) (sym q) ∙ (ap last_of (take_more es m e at) ∙ last_of_push (take m es) e)

-- what indexing gives where there is nothing
abbrev pub no_entry : Entry
no_entry = record {
  stamp = 0;
  shard = 0;
  incarnation = 0;
  item = 0;
  request = Read (record { 0 = 0 });
  reply = Done 0;
}

pub follows_told : (es : List Entry) (n : ℕ) (e : Entry) (r : Bool) → 0 < n → n < length es →
    slice_get es n ≡ Some e →
    ((IsTrue r → Precedes (get_or es (n - 1) no_entry) (get_or es n no_entry))
    × (Precedes (get_or es (n - 1) no_entry) (get_or es n no_entry) → IsTrue r)) →
    (IsTrue r → ComesAfter (last_of (take n es)) e) × (ComesAfter (last_of (take n es)) e → IsTrue r)
follows_told es n e r some within at told =
    let last =
    last_of_take es n (n - 1) (get_or es (n - 1) no_entry) (omega arith) (slice_get-get_or es (n - 1) no_entry
    (omega arith)) in
    let here : get_or es n no_entry ≡ e = same_Some _ e (sym (slice_get-get_or es n no_entry within) ∙ at) in
    subst (λ o. (IsTrue r → ComesAfter o e) × (ComesAfter o e → IsTrue r)) (sym last)
    (subst (λ x. (IsTrue r → Precedes (get_or es (n - 1) no_entry) x)
    × (Precedes (get_or es (n - 1) no_entry) x → IsTrue r)) here told)

-- the map after one entry more
pub made_more : (es : List Entry) (n : ℕ) (e : Entry) (old new : ℕ → Option Held) (key : ℕ) (left : Option Held) →
    slice_get es n ≡ Some e → ((k : ℕ) → old k ≡ cell_of k None (take n es)) → key ≡ key_of e.request →
    left ≡ cell_after e.request e.stamp (old key) → ((k : ℕ) → new k ≡ (if key == k then left else old k)) → (k : ℕ) →
    new k ≡ cell_of k None (take (n + 1) es)
made_more es n e old new key left at made is leaves step k =
    let cell : cell_of k None (take (n + 1) es) ≡ cell_step k (cell_of k None (take n es)) e =
    ap (cell_of k None) (take_more es n e at) ∙ cell_of-append k None (take n es) (e ∷ []) in
    step k ∙ (elim (cases_eq key k) [
      | inl q ↦
          let test : (key_of e.request == k) ≡ true = eq-eqb (key_of e.request) k (sym is ∙ q) in
          cond-true (key == k) left (old k) (eq-eqb key k q)
          ∙ (leaves ∙ ap (cell_after e.request e.stamp) (ap old q ∙ made k)
          ∙ sym (cond-true (key_of e.request == k) (cell_after e.request e.stamp (cell_of k None (take n es)))
          (cell_of k None (take n es)) test))
      | inr q ↦
          let test : (key_of e.request == k) ≡ false = ne_eqb (key_of e.request) k (λ p. q (is ∙ p)) in
          cond-false (key == k) left (old k) (ne_eqb key k q)
          ∙ (made k ∙ sym (cond-false (key_of e.request == k)
          (cell_after e.request e.stamp (cell_of k None (take n es))) (cell_of k None (take n es)) test))
    ] ∙ sym cell)
