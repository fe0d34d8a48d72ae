-- lists in strict order of (stamp, shard), and their members
use Rattle.std.proofs.Common.{◌≡◌, ℕ, zero, suc, ◌+◌, ◌<◌, ◌≤◌, ◌==◌, ◌&&◌, Bool, true, false, cond, ◌⊎◌, List, [], ◌∷◌, ◌++◌, length, get_or, refl, sym, ap, ◌∙◌, subst, inl, inr, ⊎_elim, arith}
use Rattle.std.specs.Prelude.{AllPairs, Contains, filter}
use Rattle.std.specs.List.{IsDistinct, AllByRecursion}
use Rattle.std.specs.List.Sorted.{IsPermutation, IsSortedByKey}
use Rattle.std.specs.Cmp.{IsTotalOrder}
use Rattle.std.specs.Ordering.{nat_cmp, ordering_then, is_lt}
use Rattle.std.specs.declared.cmp.Ordering.{Ordering}
use Rattle.std.proofs.lemmas.Bool.Decides.{nat_tests}
use Rattle.std.proofs.lemmas.Cmp.{then_total, on_total, nat_cmp_total}
use Rattle.std.proofs.lemmas.List.Sorted.{sorted_far, ranks_by, Contains-permutation}
use Rattle.std.proofs.lemmas.Map.Keys.{IsDistinct-cons, IsDistinct-IsPermutation, apart_from_distinct}
use Rattle.slnf_access.specs.declared.requests.Entry.{Entry}
use Rattle.slnf_access.specs.Order.{Precedes, InOrder, IsHistory}
use Rattle.slnf_merge.specs.Merge.{AreHistories, all_of}

-- x is one of these
abbrev pub IsIn : {A : Type 0} → A → List A → Type 0
IsIn x [] = ⊥
IsIn x (e ∷ es) = (e ≡ x) ⊎ IsIn x es

contains_suc : (x e : Entry) (es : List Entry) → Contains es x → Contains (e ∷ es) x
contains_suc x e es c = (suc (c.0), omega (arith, c.1), c.2)

pub Contains-from_in : (x : Entry) (es : List Entry) → IsIn x es → Contains es x
Contains-from_in x [] h = absurd h
Contains-from_in x (e ∷ es) (inl same) = (0, omega arith, same)
Contains-from_in x (e ∷ es) (inr rest) = contains_suc x e es (Contains-from_in x es rest)

pub in_from_place : (x : Entry) (es : List Entry) (k : ℕ) → k < length es → get_or es k x ≡ x → IsIn x es
in_from_place x [] k inside at = absurd (omega arith)
in_from_place x (e ∷ es) zero inside at = inl at
in_from_place x (e ∷ es) (suc k) inside at = inr (in_from_place x es k (omega arith) at)

pub in_permuted : (x : Entry) (xs ys : List Entry) → IsPermutation xs ys → IsIn x xs → IsIn x ys
in_permuted x xs ys same h =
    let c = Contains-permutation xs ys x same (Contains-from_in x xs h) in
    in_from_place x ys c.0 c.1 c.2

-- the entry comes before each of these
abbrev pub AllBefore : Entry → List Entry → Type 0
AllBefore e [] = Unit {0}
AllBefore e (f ∷ fs) = Precedes e f × AllBefore e fs

-- each entry comes before all behind it
abbrev pub Strong : List Entry → Type 0
Strong [] = Unit {0}
Strong (e ∷ es) = AllBefore e es × Strong es

before_in : (e x : Entry) (es : List Entry) → AllBefore e es → IsIn x es → Precedes e x
before_in e x [] h i = absurd i
before_in e x (f ∷ fs) h (inl same) = subst (λ (y : Entry). Precedes e y) same h.0
before_in e x (f ∷ fs) h (inr rest) = before_in e x fs h.1 rest

precedes_trans : (e f g : Entry) → Precedes e f → Precedes f g → Precedes e g
precedes_trans e f g (inl a) (inl b) = inl (omega arith)
precedes_trans e f g (inl a) (inr b) = let same = b.0 in inl (omega arith)
precedes_trans e f g (inr a) (inl b) = let same = a.0 in inl (omega arith)
precedes_trans e f g (inr a) (inr b) = let p = a.0 in let q = b.0 in let r = a.1 in let s = b.1 in inr (omega arith, omega arith)

pub precedes_both : (e f : Entry) → Precedes e f → Precedes f e → ⊥
precedes_both e f (inl a) (inl b) = omega arith
precedes_both e f (inl a) (inr b) = let same = b.0 in omega arith
precedes_both e f (inr a) (inl b) = let same = a.0 in omega arith
precedes_both e f (inr a) (inr b) = let r = a.1 in let s = b.1 in omega arith

all_before_through : (e f : Entry) (es : List Entry) → Precedes e f → AllBefore f es → AllBefore e es
all_before_through e f [] p h = tt
all_before_through e f (g ∷ gs) p h = (precedes_trans e f g p h.0, all_before_through e f gs p h.1)

pub strong_from_order : (es : List Entry) → InOrder es → Strong es
strong_from_order [] h = tt
strong_from_order (e ∷ []) h = (tt, tt)
strong_from_order (e ∷ f ∷ es) h =
    let rest = strong_from_order (f ∷ es) h.1 in
    ((h.0, all_before_through e f es h.0 rest.0), rest)

order_from_pairs : (es : List Entry) → AllPairs Precedes es → InOrder es
order_from_pairs [] h = tt
order_from_pairs (e ∷ []) h = tt
order_from_pairs (e ∷ f ∷ es) h = (
  h 0 1 e (omega arith) (omega arith),
  order_from_pairs (f ∷ es) (λ i j d before inside. h (suc i) (suc j) d (omega arith) (omega arith)),
)

before_filtered : (p : Entry → Bool) (e : Entry) (es : List Entry) → AllBefore e es → AllBefore e (filter p es)
before_filtered p e [] h = tt
before_filtered p e (f ∷ fs) h = by_test (p f) (before_filtered p e fs h.1)
  where
    by_test : (b : Bool) → AllBefore e (filter p fs) → AllBefore e (cond b (f ∷ filter p fs) (filter p fs))
    by_test true rest = (h.0, rest)
    by_test false rest = rest

pub strong_filtered : (p : Entry → Bool) (es : List Entry) → Strong es → Strong (filter p es)
strong_filtered p [] h = tt
strong_filtered p (e ∷ es) h = by_test (p e) (strong_filtered p es h.1)
  where
    by_test : (b : Bool) → Strong (filter p es) → Strong (cond b (e ∷ filter p es) (filter p es))
    by_test true rest = (before_filtered p e es h.0, rest)
    by_test false rest = rest

same_head : (x y : Entry) (xs ys : List Entry) → Strong (x ∷ xs) → Strong (y ∷ ys) → IsIn x (y ∷ ys) → IsIn y (x ∷ xs) → x ≡ y
same_head x y xs ys a b (inl same) j = sym same
same_head x y xs ys a b (inr i) (inl same) = same
same_head x y xs ys a b (inr i) (inr j) = absurd (precedes_both x y (before_in x y xs a.0 j) (before_in y x ys b.0 i))

tail_in : (x y : Entry) (xs ys : List Entry) → x ≡ y
    → Strong (x ∷ xs) → ((z : Entry) → IsIn z (x ∷ xs) → IsIn z (y ∷ ys)) → (z : Entry) → IsIn z xs → IsIn z ys
tail_in x y xs ys head a f z i =
    ⊎_elim (λ (same : y ≡ z). let twice : Precedes x z = before_in x z xs a.0 i in let self : Precedes z z =
    subst (λ (w : Entry). Precedes w z) (head ∙ same) twice in absurd (precedes_both z z self self))
    (λ rest. rest) (f z (inr i))

-- two lists in strict order with the same members are one
pub same_members : (xs ys : List Entry) → Strong xs
    → Strong ys → ((z : Entry) → IsIn z xs → IsIn z ys) → ((z : Entry) → IsIn z ys → IsIn z xs) → xs ≡ ys
same_members [] [] a b f g = refl
same_members [] (y ∷ ys) a b f g = absurd (g y (inl refl))
same_members (x ∷ xs) [] a b f g = absurd (f x (inl refl))
same_members (x ∷ xs) (y ∷ ys) a b f g =
    let head = same_head x y xs ys a b (f x (inl refl)) (g y (inl refl)) in
    let rest = same_members xs ys a.1 b.1 (tail_in x y xs ys head a f) (tail_in y x ys xs (sym head) b g) in
    ap (λ (z : Entry). z ∷ xs) head ∙ ap (λ (zs : List Entry). y ∷ zs) rest

-- two entries of one event
abbrev pub alike : Entry → Entry → Bool
alike e f = (e.stamp == f.stamp) && (e.shard == f.shard)

alike_flips : (e f : Entry) → alike e f ≡ alike f e
alike_flips e f = grind (arith, nat_tests)

alike_precedes : (e f : Entry) → Precedes e f → alike e f ≡ false
alike_precedes e f (inl h) = let less = h in grind (arith, nat_tests)
alike_precedes e f (inr h) = let less = h.1 in grind (arith, nat_tests)

alike_shards : (e f : Entry) → ¬ (e.shard ≡ f.shard) → alike e f ≡ false
alike_shards e f h = grind (arith, nat_tests)

-- each entry's shard is this one, or one from here on
abbrev pub AllIn : ℕ → List Entry → Type 0
AllIn shard [] = Unit {0}
AllIn shard (e ∷ es) = (e.shard ≡ shard) × AllIn shard es

abbrev AllFrom : ℕ → List Entry → Type 0
AllFrom shard [] = Unit {0}
AllFrom shard (e ∷ es) = (shard ≤ e.shard) × AllFrom shard es

pub history_in : (shard : ℕ) (es : List Entry) → IsHistory shard es → AllIn shard es
history_in shard [] h = tt
history_in shard (e ∷ []) h = (h, tt)
history_in shard (e ∷ f ∷ es) h = (h.0, history_in shard (f ∷ es) h.2)

pub history_order : (shard : ℕ) (es : List Entry) → IsHistory shard es → InOrder es
history_order shard [] h = tt
history_order shard (e ∷ []) h = tt
history_order shard (e ∷ f ∷ es) h = (inl h.1, history_order shard (f ∷ es) h.2)

from_in : (low shard : ℕ) (es : List Entry) → low ≤ shard → AllIn shard es → AllFrom low es
from_in low shard [] l h = tt
from_in low shard (e ∷ es) l h = let same = h.0 in (omega arith, from_in low shard es l h.1)

from_lower : (low shard : ℕ) (es : List Entry) → low ≤ shard → AllFrom shard es → AllFrom low es
from_lower low shard [] l h = tt
from_lower low shard (e ∷ es) l h = let above = h.0 in (omega arith, from_lower low shard es l h.1)

from_append : (shard : ℕ) (xs ys : List Entry) → AllFrom shard xs → AllFrom shard ys → AllFrom shard (xs ++ ys)
from_append shard [] ys h k = k
from_append shard (x ∷ xs) ys h k = (h.0, from_append shard xs ys h.1 k)

all_from : (shard : ℕ) (hs : List (List Entry)) → AreHistories shard hs → AllFrom shard (all_of hs)
all_from shard [] h = tt
all_from shard (x ∷ hs) h =
    from_append shard x (all_of hs) (from_in shard shard x (omega arith) (history_in shard x h.0))
    (from_lower shard (shard + 1) (all_of hs) (omega arith) (all_from (shard + 1) hs h.1))

unlike_before : (e : Entry) (es rest : List Entry) → AllBefore e es
    → AllByRecursion (λ y. alike e y ≡ false) rest → AllByRecursion (λ y. alike e y ≡ false) (es ++ rest)
unlike_before e [] rest h k = k
unlike_before e (f ∷ fs) rest h k = (alike_precedes e f h.0, unlike_before e fs rest h.1 k)

unlike_from : (e : Entry) (shard : ℕ) (rest : List Entry)
    → e.shard ≡ shard → AllFrom (shard + 1) rest → AllByRecursion (λ y. alike e y ≡ false) rest
unlike_from e shard [] same h = tt
unlike_from e shard (f ∷ fs) same h = let above = h.0 in (alike_shards e f (λ k. omega arith), unlike_from e shard fs same h.1)

distinct_append : (shard : ℕ) (xs rest : List Entry)
    → AllIn shard xs → Strong xs → AllFrom (shard + 1) rest → IsDistinct alike rest → IsDistinct alike (xs ++ rest)
distinct_append shard [] rest a s f d = d
distinct_append shard (x ∷ xs) rest a s f d =
    IsDistinct-cons alike x (xs ++ rest) (unlike_before x xs rest s.0 (unlike_from x shard rest a.0 f))
    (distinct_append shard xs rest a.1 s.1 f d)

-- no event stands twice in the histories
pub all_distinct : (shard : ℕ) (hs : List (List Entry)) → AreHistories shard hs → IsDistinct alike (all_of hs)
unfolding IsDistinct
all_distinct shard [] h = tt
all_distinct shard (x ∷ hs) h =
    distinct_append shard x (all_of hs) (history_in shard x h.0)
    (strong_from_order x (history_order shard x h.0)) (all_from (shard + 1) hs h.1) (all_distinct (shard + 1) hs h.1)

-- the order of pairs of numbers
abbrev pub event_cmp : ℕ × ℕ → ℕ × ℕ → Ordering
event_cmp a b = ordering_then (nat_cmp a.0 b.0) (nat_cmp a.1 b.1)

event_total : IsTotalOrder event_cmp
event_total = then_total (on_total (λ (p : ℕ × ℕ). p.0) nat_cmp_total) (on_total (λ (p : ℕ × ℕ). p.1) nat_cmp_total)

not_behind : (e f : Entry) → is_lt (event_cmp (f.stamp, f.shard) (e.stamp, e.shard)) ≡ false → alike e f ≡ false → Precedes e f
not_behind e f order apart = grind (arith, nat_tests)

-- a sort by (stamp, shard) of entries with distinct events is in strict order
pub sorted_in_order : (xs ys : List Entry) → IsPermutation xs ys
    → IsDistinct alike xs → IsSortedByKey (λ e. (e.stamp, e.shard)) event_cmp ys → InOrder ys
sorted_in_order xs ys same apart sorted =
    let key : Entry → ℕ × ℕ = λ e. (e.stamp, e.shard) in
    let distinct = IsDistinct-IsPermutation alike alike_flips xs ys same apart in
    order_from_pairs ys (λ i j d before inside.
    let other = apart_from_distinct alike ys i j d distinct before inside in
    let order = sorted_far _ (ranks_by event_total key) ys sorted i j d (omega arith) inside in
    not_behind (get_or ys i d) (get_or ys j d) order other)
