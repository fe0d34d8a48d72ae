-- The merged list's shards are the histories.
use Rattle.std.proofs.Common.{◌≡◌, ℕ, zero, suc, ◌+◌, ◌<◌, ◌==◌, List, [], ◌∷◌, ◌++◌, refl, sym, ap, ap₂, ◌∙◌, subst, inl, arith, eq-eqb, ne_eqb, append-nil}
use Rattle.std.specs.List.{AllByRecursion}
use Rattle.std.specs.List.Sorted.{IsPermutation}
use Rattle.std.proofs.lemmas.Bool.{cond-true, cond-false}
use Rattle.std.proofs.lemmas.List.Elements.{filter-append}
use Rattle.slnf_access.specs.declared.requests.Entry.{Entry}
use Rattle.slnf_access.specs.Order.{Precedes, InOrder, IsHistory}
use Rattle.slnf_merge.specs.Merge.{AreHistories, all_of, shard_part}
use Rattle.slnf_merge.proofs.Laws.{IsIn, Strong, merged_part}
use Rattle.slnf_run.proofs.Sorting.{precedes_both}
use Rattle.slnf_store.specs.Closes.{history_at}
use Rattle.slnf_threads.proofs.Members.{in_right, before_in}

-- all these are of one shard
abbrev AreOn : ℕ → List Entry → Type 0
AreOn shard es = AllByRecursion (λ e. e.shard ≡ shard) es

history_on : (shard : ℕ) (es : List Entry) → IsHistory shard es → AreOn shard es
history_on shard [] h = tt
history_on shard (e ∷ []) h = (h, tt)
history_on shard (e ∷ f ∷ es) h = (h.0, history_on shard (f ∷ es) h.2)

own_part : (shard : ℕ) (es : List Entry) → AreOn shard es → shard_part shard es ≡ es
own_part shard [] h = refl
own_part shard (e ∷ es) h =
    cond-true (e.shard == shard) (e ∷ shard_part shard es) (shard_part shard es) (eq-eqb e.shard shard h.0)
    ∙ ap (λ l. e ∷ l) (own_part shard es h.1)

other_part : (shard other : ℕ) (es : List Entry) → (other ≡ shard → ⊥) → AreOn other es → shard_part shard es ≡ []
other_part shard other [] n h = refl
other_part shard other (e ∷ es) n h =
    cond-false (e.shard == shard) (e ∷ shard_part shard es) (shard_part shard es)
    (ne_eqb e.shard shard (λ q. n (sym h.0 ∙ q)))
    ∙ other_part shard other es n h.1

parts_of_all : (shard : ℕ) (x : List Entry) (hs : List (List Entry)) → shard_part shard (all_of (x ∷ hs))
    ≡ shard_part shard x ++ shard_part shard (all_of hs)
parts_of_all shard x hs = filter-append (λ (e : Entry). e.shard == shard) x (all_of hs)

none_behind : (low shard : ℕ) (hs : List (List Entry)) → shard < low → AreHistories low hs →
    shard_part shard (all_of hs) ≡ []
none_behind low shard [] l h = refl
none_behind low shard (x ∷ hs) l h =
    parts_of_all shard x hs
    ∙ ap₂ (λ (xs ys : List Entry). xs ++ ys) (other_part shard low x (λ q. omega arith) (history_on low x h.0))
    (none_behind (low + 1) shard hs (omega arith) h.1)

part_is : (low k shard : ℕ) (hs : List (List Entry)) → shard ≡ low + k → AreHistories low hs →
    shard_part shard (all_of hs) ≡ history_at hs k
part_is low k shard [] q h = refl
part_is low zero shard (x ∷ hs) q h =
    let here : low ≡ shard = omega arith in
    parts_of_all shard x hs
    ∙ (ap₂ (λ (xs ys : List Entry). xs ++ ys) (own_part shard x (subst (λ n. AreOn n x) here (history_on low x h.0)))
    (none_behind (low + 1) shard hs (omega arith) h.1)
    ∙ append-nil x)
part_is low (suc k) shard (x ∷ hs) q h =
    parts_of_all shard x hs
    ∙ ap₂ (λ (xs ys : List Entry). xs ++ ys) (other_part shard low x (λ r. omega arith) (history_on low x h.0))
    (part_is (low + 1) k shard hs (omega arith) h.1)

-- the merged list's part of a shard
pub shard_merged : (hs : List (List Entry)) (merged : List Entry) (shard : ℕ) → AreHistories 0 hs →
    IsPermutation (all_of hs) merged → InOrder merged → shard_part shard merged ≡ history_at hs shard
shard_merged hs merged shard h same order =
    let at : shard ≡ 0 + shard = omega arith in
    merged_part shard hs merged h order same ∙ part_is 0 shard shard hs at h

cons_parts : (x y : Entry) (xs ys : List Entry) → x ∷ xs ≡ y ∷ ys → (x ≡ y) × (xs ≡ ys)
cons_parts x y xs ys h = (cc, cc)

in_behind : (e : Entry) (xs ys : List Entry) → IsIn e (xs ++ e ∷ ys)
in_behind e xs ys = in_right e xs (e ∷ ys) (inl refl)

-- an entry stands at one place of a list in strict order
pub same_split : (xs ys us ws : List Entry) (e : Entry) → Strong (xs ++ e ∷ ys) → xs ++ e ∷ ys ≡ us ++ e ∷ ws →
    xs ≡ us
same_split [] ys [] ws e s q = refl
same_split [] ys (u ∷ us) ws e s q =
    let p : (e ≡ u) × (ys ≡ us ++ e ∷ ws) = cons_parts e u ys (us ++ e ∷ ws) q in
    let twice : Precedes e e = before_in e e ys s.0 (subst (IsIn e) (sym p.1) (in_behind e us ws)) in
    absurd (precedes_both e e twice twice)
same_split (x ∷ xs) ys [] ws e s q =
    let p : (x ≡ e) × (xs ++ e ∷ ys ≡ ws) = cons_parts x e (xs ++ e ∷ ys) ws q in
    let twice : Precedes e e =
    subst (λ y. Precedes y e) p.0 (before_in x e (xs ++ e ∷ ys) s.0 (in_behind e xs ys)) in
    absurd (precedes_both e e twice twice)
same_split (x ∷ xs) ys (u ∷ us) ws e s q =
    let p : (x ≡ u) × (xs ++ e ∷ ys ≡ us ++ e ∷ ws) = cons_parts x u (xs ++ e ∷ ys) (us ++ e ∷ ws) q in
    ap₂ (λ (y : Entry) (l : List Entry). y ∷ l) p.0 (same_split xs ys us ws e s.1 p.1)
