-- Lists, one element more or one that is set.
use Rattle.std.proofs.Common.{◌≡◌, ℕ, zero, suc, ◌+◌, List, [], ◌∷◌, ◌++◌, Some, set, take, slice_get, sym, ap, ◌∙◌, subst, arith}
use Rattle.std.specs.List.{AllByRecursion}
use Rattle.std.proofs.lemmas.Option.{same_Some, slice_get_within}
use Rattle.slnf_access.specs.declared.requests.Entry.{Entry}
use Rattle.slnf_access.specs.declared.requests.Request.TheVariants.{Read}
use Rattle.slnf_access.specs.declared.requests.Reply.TheVariants.{Done}
use Rattle.slnf_run.proofs.Splits.{split_at}

pub take_more : {X : Type 0} (xs : List X) (n : ℕ) (x : X) → slice_get xs n ≡ Some x →
    take (n + 1) xs ≡ take n xs ++ x ∷ []
take_more xs n x at =
    let s = split_at xs n (slice_get_within xs n x at) in
    let q : n + 1 ≡ suc n = omega arith in
    ap (λ k. take k xs) q ∙ (s.1.front ∙ ap (λ y. take n xs ++ y ∷ []) (same_Some s.0 x (sym s.1.at ∙ at)))

-- what each has, one has
pub each_at : {X : Type 0} (P : X → Type 0) (xs : List X) (k : ℕ) (x : X) → AllByRecursion P xs →
    slice_get xs k ≡ Some x → P x
each_at P [] k x h at = absurd (cc)
each_at P (y ∷ xs) zero x h at = subst P (same_Some y x at) h.0
each_at P (y ∷ xs) (suc k) x h at = each_at P xs k x h.1 at

-- a list where one element is set to what it is
pub set_same : {X : Type 0} (xs : List X) (k : ℕ) (x : X) → slice_get xs k ≡ Some x → set xs k x ≡ xs
set_same [] k x at = absurd (cc)
set_same (y ∷ xs) zero x at = ap (λ z. z ∷ xs) (sym (same_Some y x at))
set_same (y ∷ xs) (suc k) x at = ap (λ zs. y ∷ zs) (set_same xs k x at)

-- what indexing gives where there is no entry
abbrev pub no_entry : Entry
no_entry = record {
  stamp = 0;
  shard = 0;
  incarnation = 0;
  item = 0;
  request = Read (record { 0 = 0 });
  reply = Done 0;
}
