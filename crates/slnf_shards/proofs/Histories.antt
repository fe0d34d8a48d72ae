-- One history a shard: they grow with the list of accesses, and their merge is the list in order.
use Rattle.std.proofs.Common.{◌≡◌, inl, inr, ℕ, zero, suc, ◌+◌, ◌≤◌, ◌<◌, ◌==◌, List, [], ◌∷◌, ◌++◌, length, set, get_or, refl, sym, ap, ap₂, ◌∙◌, subst, arith, append-nil}
use Rattle.std.specs.List.{AllByRecursion}
use Rattle.std.specs.List.Sorted.{IsPermutation}
use Rattle.std.proofs.lemmas.Bool.{cases_eq, cases_lt}
use Rattle.std.proofs.lemmas.List.Elements.{filter-append}
use Rattle.slnf_access.specs.declared.requests.Entry.{Entry}
use Rattle.slnf_access.specs.Order.{InOrder}
use Rattle.slnf_merge.specs.Merge.{AreHistories, all_of}
use Rattle.slnf_merge.proofs.Laws.{merged_part}
use Rattle.slnf_run.specs.Scheduled.{in_order}
use Rattle.slnf_run.specs.Made.{Pairs, of_shard, HaveParts}
use Rattle.slnf_run.proofs.Sorting.{pairs_of_order, in_order-pairs, filter-in_order, apart_of_rises}
use Rattle.slnf_run.proofs.Rising.{rises_of_number}
use Rattle.slnf_run.proofs.Merged.{of_shard-own, of_shard-other, same_of_parts, no_part}

-- empty histories are those of no entries
pub have_parts-none : (shard : ℕ) (histories : List (List Entry)) → ((k : ℕ) → get_or histories k [] ≡ []) →
    HaveParts shard histories []
have_parts-none shard [] h = tt
have_parts-none shard (x ∷ xs) h = (h 0, have_parts-none (shard + 1) xs (λ k. h (suc k)))

-- the history at a place
pub have_parts-at : (shard k : ℕ) (histories : List (List Entry)) (es : List Entry) → k < length histories →
    HaveParts shard histories es → get_or histories k [] ≡ of_shard (shard + k) es
have_parts-at shard k [] es l h = absurd (omega arith)
have_parts-at shard zero (x ∷ xs) es l h =
    let here : shard ≡ shard + 0 = omega arith in h.0 ∙ ap (λ n. of_shard n es) here
have_parts-at shard (suc k) (x ∷ xs) es l h =
    let next : shard + 1 + k ≡ shard + suc k = omega arith in
    have_parts-at (shard + 1) k xs es (omega arith) h.1 ∙ ap (λ n. of_shard n es) next

-- a shard's part with one entry more
push_other : (shard : ℕ) (es : List Entry) (e : Entry) → (e.shard ≡ shard → ⊥) →
    of_shard shard (es ++ e ∷ []) ≡ of_shard shard es
push_other shard es e n =
    filter-append (λ f. f.shard == shard) es (e ∷ [])
    ∙ (ap (λ l. of_shard shard es ++ l) (of_shard-other shard e [] n) ∙ append-nil (of_shard shard es))

push_own : (shard : ℕ) (es : List Entry) (e : Entry) → e.shard ≡ shard →
    of_shard shard (es ++ e ∷ []) ≡ of_shard shard es ++ e ∷ []
push_own shard es e q =
    filter-append (λ f. f.shard == shard) es (e ∷ [])
    ∙ ap (λ l. of_shard shard es ++ l) (of_shard-own shard e [] q)

-- the others stay as they are
have_parts-behind : (shard : ℕ) (histories : List (List Entry)) (es : List Entry) (e : Entry) → e.shard < shard →
    HaveParts shard histories es → HaveParts shard histories (es ++ e ∷ [])
have_parts-behind shard [] es e l h = tt
have_parts-behind shard (x ∷ xs) es e l h = (
  h.0 ∙ sym (push_other shard es e (λ q. omega arith)),
  have_parts-behind (shard + 1) xs es e (omega arith) h.1,
)

-- one more entry goes to its shard's history
pub have_parts-push : (shard k : ℕ) (histories : List (List Entry)) (es : List Entry) (e : Entry) →
    e.shard ≡ shard + k → HaveParts shard histories es →
    HaveParts shard (set histories k (get_or histories k [] ++ e ∷ [])) (es ++ e ∷ [])
have_parts-push shard k [] es e q h = tt
have_parts-push shard zero (x ∷ xs) es e q h = (
  ap (λ l. l ++ e ∷ []) h.0 ∙ sym (push_own shard es e (omega arith)),
  have_parts-behind (shard + 1) xs es e (omega arith) h.1,
)
have_parts-push shard (suc k) (x ∷ xs) es e q h = (
  h.0 ∙ sym (push_other shard es e (λ r. omega arith)),
  have_parts-push (shard + 1) k xs es e (omega arith) h.1,
)

-- a part has its shard's entries alone
part_in : (shard : ℕ) (es : List Entry) → AllByRecursion (λ e. e.shard ≡ shard) (of_shard shard es)
part_in shard [] = tt
part_in shard (e ∷ es) =
    elim (cases_eq e.shard shard) [
      | inl own ↦
          subst (AllByRecursion (λ f. f.shard ≡ shard)) (sym (of_shard-own shard e es own)) (own, part_in shard es)
      | inr n ↦
          subst (AllByRecursion (λ f. f.shard ≡ shard)) (sym (of_shard-other shard e es n)) (part_in shard es)
    ]

part_of_another : (shard other : ℕ) (es : List Entry) → (other ≡ shard → ⊥) →
    of_shard shard (of_shard other es) ≡ []
part_of_another shard other es n = go (of_shard other es) (part_in other es)
  where
    go : (fs : List Entry) → AllByRecursion (λ e. e.shard ≡ other) fs → of_shard shard fs ≡ []
    go [] h = refl
    go (f ∷ fs) h = of_shard-other shard f fs (λ q. n (sym h.0 ∙ q)) ∙ go fs h.1

part_of_itself : (shard : ℕ) (es : List Entry) → of_shard shard (of_shard shard es) ≡ of_shard shard es
part_of_itself shard es = go (of_shard shard es) (part_in shard es)
  where
    go : (fs : List Entry) → AllByRecursion (λ e. e.shard ≡ shard) fs → of_shard shard fs ≡ fs
    go [] h = refl
    go (f ∷ fs) h = of_shard-own shard f fs h.0 ∙ ap (λ l. f ∷ l) (go fs h.1)

-- a shard's part of the first history and of the rest
part_of_front : (shard from : ℕ) (x : List Entry) (xs : List (List Entry)) (m : List Entry) → x ≡ of_shard from m →
    (from ≡ shard → ⊥) → of_shard shard (all_of (x ∷ xs)) ≡ of_shard shard (all_of xs)
part_of_front shard from x xs m is n =
    filter-append (λ e. e.shard == shard) x (all_of xs)
    ∙ ap (λ l. l ++ of_shard shard (all_of xs)) (ap (of_shard shard) is ∙ part_of_another shard from m n)

part_of_below : (shard from : ℕ) (histories : List (List Entry)) (m : List Entry) → shard < from →
    HaveParts from histories m → of_shard shard (all_of histories) ≡ []
part_of_below shard from [] m l h = refl
part_of_below shard from (x ∷ xs) m l h =
    part_of_front shard from x xs m h.0 (λ q. omega arith)
    ∙ part_of_below shard (from + 1) xs m (omega arith) h.1

-- a shard's part of all histories is its part of the list
part_of_all : (shard from : ℕ) (histories : List (List Entry)) (m : List Entry) → from ≤ shard →
    shard < from + length histories → HaveParts from histories m →
    of_shard shard (all_of histories) ≡ of_shard shard m
part_of_all shard from [] m l k h = absurd (omega arith)
part_of_all shard from (x ∷ xs) m l k h =
    elim (cases_eq from shard) [
      | inl same ↦
          let first : of_shard shard x ≡ of_shard shard m =
          ap (of_shard shard) h.0
          ∙ subst (λ n. of_shard shard (of_shard n m) ≡ of_shard shard m) (sym same) (part_of_itself shard m) in
          filter-append (λ e. e.shard == shard) x (all_of xs)
          ∙ (ap₂ (λ (a b : List Entry). a ++ b) first (part_of_below shard (from + 1) xs m (omega arith) h.1)
          ∙ append-nil (of_shard shard m))
      | inr n ↦
          part_of_front shard from x xs m h.0 n
          ∙ part_of_all shard (from + 1) xs m (omega arith) (omega arith) h.1
    ]

part_of_above : (shard from : ℕ) (histories : List (List Entry)) (m : List Entry) →
    from + length histories ≤ shard → HaveParts from histories m → of_shard shard (all_of histories) ≡ []
part_of_above shard from [] m l h = refl
part_of_above shard from (x ∷ xs) m l h =
    part_of_front shard from x xs m h.0 (λ q. omega arith)
    ∙ part_of_above shard (from + 1) xs m (omega arith) h.1

-- what `merge` gives of the histories is the list in order
pub merge_is_in_order : (histories : List (List Entry)) (merged m : List Entry) →
    Pairs (λ e f. e.shard ≡ f.shard → e.stamp < f.stamp) m → AllByRecursion (λ e. e.shard < length histories) m →
    HaveParts 0 histories m → AreHistories 0 histories → InOrder merged → IsPermutation (all_of histories) merged →
    merged ≡ in_order m
merge_is_in_order histories merged m rise within h placed ordered same =
    same_of_parts merged (in_order m) (pairs_of_order merged ordered) (in_order-pairs m (apart_of_rises m rise))
    (λ shard. merged_part shard histories merged placed ordered same
    ∙ (parts shard
    ∙ sym (filter-in_order (λ e. e.shard == shard) m (rises_of_number (λ e. e.shard) shard m rise))))
  where
    parts : (shard : ℕ) → of_shard shard (all_of histories) ≡ of_shard shard m
    parts shard = elim (cases_lt shard (length histories)) [
      | inl l ↦ part_of_all shard 0 histories m (omega arith) (omega arith) h
      | inr l ↦ part_of_above shard 0 histories m (omega arith) h
          ∙ sym (no_part (length histories) shard m l within)
    ]
