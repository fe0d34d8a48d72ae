-- Ranges that are merged one by one are the whole.
use Rattle.std.proofs.Common.{◌≡◌, ℕ, zero, suc, ◌+◌, ◌<◌, Bool, true, false, cond, Ok, Err, Result, Vec, Global, IfOk, List, [], ◌∷◌, ◌++◌, length, drop, get_or, map, refl, sym, ap, ap₂, ◌∙◌, subst, inl, inr, arith, append-nil, append_assoc}
use Rattle.std.specs.Prelude.{filter, nat_lt, nat_le}
use Rattle.std.specs.List.Sorted.{IsPermutation}
use Rattle.std.proofs.lemmas.Bool.Decides.{nat_tests}
use Rattle.std.proofs.lemmas.List.{map-append, at_drop_more}
use Rattle.std.proofs.lemmas.List.Elements.{filter-append}
use Rattle.std.proofs.lemmas.List.Sorted.{IsPermutation-refl, IsPermutation-sym, IsPermutation-trans, IsPermutation-append, IsPermutation-filter_both}
use Rattle.slnf_base.specs.declared.memory.NoMemory.{NoMemory}
use Rattle.slnf_access.specs.declared.requests.Entry.{Entry}
use Rattle.slnf_access.specs.Order.{InOrder}
use Rattle.slnf_merge.specs.Merge.{AreHistories, all_of}
use Rattle.slnf_merge.proofs.Laws.{IsIn, in_permuted}
use Rattle.slnf_ranges.specs.Ranges.{below, from_on, ranges, IsMergedFrom, all_in, AreAllOk}
use Rattle.slnf_ranges.proofs.Histories.{histories_filtered, from_is_other}

all_filtered : (p : Entry → Bool) (hs : List (List Entry)) → all_of (map (filter p) hs) ≡ filter p (all_of hs)
all_filtered p [] = refl
all_filtered p (x ∷ hs) =
    ap (λ (es : List Entry). filter p x ++ es) (all_filtered p hs) ∙ sym (filter-append p x (all_of hs))

pub all_append : (xs ys : List (List Entry)) → all_of (xs ++ ys) ≡ all_of xs ++ all_of ys
all_append [] ys = refl
all_append (x ∷ xs) ys =
    ap (λ (es : List Entry). x ++ es) (all_append xs ys) ∙ sym (append_assoc x (all_of xs) (all_of ys))

-- a member of those that pass is one that does
in_one : (p : Entry → Bool) (x e : Entry) (es : List Entry) (t : Bool) → p e ≡ t → (IsIn x es → p x ≡ true) →
    IsIn x (cond t (e ∷ es) es) → p x ≡ true
in_one p x e es true q f (inl same) = subst (λ y. p y ≡ true) same q
in_one p x e es true q f (inr i) = f i
in_one p x e es false q f i = f i

in_passes : (p : Entry → Bool) (x : Entry) (es : List Entry) → IsIn x (filter p es) → p x ≡ true
in_passes p x [] i = absurd i
in_passes p x (e ∷ es) i = in_one p x e (filter p es) (p e) refl (in_passes p x es) i

in_all_passes : (p : Entry → Bool) (x : Entry) (hs : List (List Entry)) → IsIn x (all_of (map (filter p) hs)) →
    p x ≡ true
in_all_passes p x hs i = in_passes p x (all_of hs) (subst (λ es. IsIn x es) (all_filtered p hs) i)

-- each stamp of the one list is below each of the other
abbrev Before : List Entry → List Entry → Type 0
Before xs ys = (x y : Entry) → IsIn x xs → IsIn y ys → x.stamp < y.stamp

-- the stamps of each list are below those of all behind it
abbrev Apart : List (List Entry) → Type 0
Apart [] = Unit {0}
Apart (x ∷ xs) = Before x (all_of xs) × Apart xs

-- the ranges have the entries
pub ranges_same : (bounds : List ℕ) (hs : List (List Entry)) →
    IsPermutation (all_of hs) (all_of (map all_of (ranges bounds hs)))
ranges_same [] hs = subst (λ es. IsPermutation (all_of hs) es) (sym (append-nil (all_of hs))) (IsPermutation-refl (all_of hs))
ranges_same (bound ∷ bounds) hs =
    let p : Entry → Bool = λ e. nat_lt e.stamp bound in
    let q : Entry → Bool = λ e. nat_le bound e.stamp in
    let front = all_filtered p hs in
    let back = all_filtered q hs in
    let both : IsPermutation (all_of hs) (all_of (map (below bound) hs) ++ all_of (map (from_on bound) hs)) =
    rw (front, back) (IsPermutation-filter_both p q (from_is_other bound) (all_of hs)) in
    IsPermutation-trans _ _ _ both
    (IsPermutation-append _ _ _ _ (IsPermutation-refl (all_of (map (below bound) hs)))
    (ranges_same bounds (map (from_on bound) hs)))

-- and their stamps are apart
pub ranges_apart : (bounds : List ℕ) (hs : List (List Entry)) → Apart (map all_of (ranges bounds hs))
ranges_apart [] hs = (λ x y i j. absurd j, tt)
ranges_apart (bound ∷ bounds) hs =
    let p : Entry → Bool = λ e. nat_lt e.stamp bound in
    let q : Entry → Bool = λ e. nat_le bound e.stamp in
    let rest = map (from_on bound) hs in
    let before : Before (all_of (map (below bound) hs)) (all_of (map all_of (ranges bounds rest))) =
    λ x y i j.
    let low : nat_lt x.stamp bound ≡ true = in_all_passes p x hs i in
    let back = IsPermutation-sym _ _ (ranges_same bounds rest) in
    let high : nat_le bound y.stamp ≡ true = in_all_passes q y hs (in_permuted y _ _ back j) in
    grind (arith, nat_tests) in
    (before, ranges_apart bounds rest)

-- one more range
pub range_step : {A : Type 0} (f : A → List (List Entry)) (made : List A) (front : A) (bounds : List ℕ) (i : ℕ)
    (hs back : List (List Entry)) (all : List (List (List Entry))) → i < length bounds →
    map f made ++ ranges (drop i bounds) hs ≡ all → f front ≡ map (below (get_or bounds i 0)) hs →
    back ≡ map (from_on (get_or bounds i 0)) hs →
    map f (made ++ front ∷ []) ++ ranges (drop (i + 1) bounds) back ≡ all
range_step f made front bounds i hs back all inside old here rest =
    let bound = get_or bounds i 0 in
    let later = drop (i + 1) bounds in
    let next : ranges (drop i bounds) hs ≡ map (below bound) hs ∷ ranges later (map (from_on bound) hs) =
    at_drop_more (λ bs. ranges bs hs) bounds i 0 inside in
    ap (λ l. l ++ ranges later back) (map-append f made (front ∷ []))
    ∙ (append_assoc (map f made) (f front ∷ []) (ranges later back)
    ∙ (ap₂ (λ x hs. map f made ++ x ∷ ranges later hs) here rest
    ∙ (ap (λ l. map f made ++ l) (sym next) ∙ old)))

-- each has histories
abbrev pub AllHistories : List (List (List Entry)) → Type 0
AllHistories [] = Unit {0}
AllHistories (x ∷ xs) = AreHistories 0 x × AllHistories xs

pub ranges_histories : (bounds : List ℕ) (hs : List (List Entry)) → AreHistories 0 hs → AllHistories (ranges bounds hs)
ranges_histories [] hs h = (h, tt)
ranges_histories (bound ∷ bounds) hs h = (
  histories_filtered (λ e. nat_lt e.stamp bound) 0 hs h,
  ranges_histories bounds (map (from_on bound) hs) (histories_filtered (λ e. nat_le bound e.stamp) 0 hs h),
)

pub histories_at : {A : Type 0} (f : A → List (List Entry)) (xs : List A) (i : ℕ) (d : A) → AllHistories (map f xs) →
    i < length xs → AreHistories 0 (f (get_or xs i d))
histories_at f [] i d h l = absurd (omega arith)
histories_at f (x ∷ xs) zero d h l = h.0
histories_at f (x ∷ xs) (suc i) d h l = histories_at f xs i d h.1 (omega arith)

-- each list has the entries of its range in order
abbrev pub EachMerged : List (List (List Entry)) → List (List Entry) → Type 0
EachMerged [] [] = Unit {0}
EachMerged [] (m ∷ ms) = ⊥
EachMerged (r ∷ rs) [] = ⊥
EachMerged (r ∷ rs) (m ∷ ms) = IsMergedFrom r m × EachMerged rs ms

pub merged_push : (rs : List (List (List Entry))) (ms : List (List Entry)) (r : List (List Entry)) (m : List Entry) →
    EachMerged rs ms → IsMergedFrom r m → EachMerged (rs ++ r ∷ []) (ms ++ m ∷ [])
merged_push [] [] r m h new = (new, tt)
merged_push [] (n ∷ ms) r m h new = absurd h
merged_push (s ∷ rs) [] r m h new = absurd h
merged_push (s ∷ rs) (n ∷ ms) r m h new = (h.0, merged_push rs ms r m h.1 new)

order_append : (xs ys : List Entry) → InOrder xs → InOrder ys → Before xs ys → InOrder (xs ++ ys)
order_append [] ys a b before = b
order_append (x ∷ []) [] a b before = tt
order_append (x ∷ []) (y ∷ ys) a b before = (inl (before x y (inl refl) (inl refl)), b)
order_append (x ∷ z ∷ xs) ys a b before =
    (a.0, order_append (z ∷ xs) ys a.1 b (λ u v i j. before u v (inr i) j))

each_whole : (rs : List (List (List Entry))) (ms : List (List Entry)) → EachMerged rs ms → Apart (map all_of rs) →
    IsPermutation (all_of (map all_of rs)) (all_of ms) × InOrder (all_of ms)
each_whole [] [] h apart = (IsPermutation-refl [], tt)
each_whole [] (m ∷ ms) h apart = absurd h
each_whole (r ∷ rs) [] h apart = absurd h
each_whole (r ∷ rs) (m ∷ ms) h apart =
    let rest = each_whole rs ms h.1 apart.1 in
    let one = h.0.same in
    let before : Before m (all_of ms) =
    λ x y i j. apart.0 x y (in_permuted x _ _ (IsPermutation-sym _ _ one) i)
    (in_permuted y _ _ (IsPermutation-sym _ _ rest.0) j) in
    (IsPermutation-append _ _ _ _ one rest.0, order_append m (all_of ms) h.0.in_order rest.1 before)

-- ranges that are merged one by one are the whole
pub whole : (bounds : List ℕ) (hs ms : List (List Entry)) → EachMerged (ranges bounds hs) ms →
    IsMergedFrom hs (all_of ms)
whole bounds hs ms h =
    let all = each_whole (ranges bounds hs) ms h (ranges_apart bounds hs) in
    record { same = IsPermutation-trans _ _ _ (ranges_same bounds hs) all.0; in_order = all.1 }

-- each answer that is one has the entries of its range in order, in parts
abbrev pub EachAnswered : List (List (List Entry)) → List (Result (Vec (List Entry) Global) NoMemory) → Type 0
EachAnswered [] [] = Unit {0}
EachAnswered [] (a ∷ answers) = ⊥
EachAnswered (r ∷ rs) [] = ⊥
EachAnswered (r ∷ rs) (a ∷ answers) = IfOk a (λ parts. IsMergedFrom r (all_of parts.items)) × EachAnswered rs answers

pub answered_at : {A : Type 0} (f : A → List (List Entry)) (xs : List A)
    (answers : List (Result (Vec (List Entry) Global) NoMemory)) → length answers ≡ length xs →
    ((i : ℕ) (d : A) (a : Result (Vec (List Entry) Global) NoMemory) → i < length xs →
    IfOk (get_or answers i a) (λ parts. IsMergedFrom (f (get_or xs i d)) (all_of parts.items))) →
    EachAnswered (map f xs) answers
answered_at f [] [] n g = tt
answered_at f [] (a ∷ answers) n g = absurd (omega arith)
answered_at f (x ∷ xs) [] n g = absurd (omega arith)
answered_at f (x ∷ xs) (a ∷ answers) n g =
    (g 0 x a (omega arith), answered_at f xs answers (omega arith) (λ i d b l. g (suc i) d b (omega arith)))

lists_of : List (Result (Vec (List Entry) Global) NoMemory) → List (List Entry)
lists_of [] = []
lists_of (Ok parts ∷ rest) = all_of parts.items ∷ lists_of rest
lists_of (Err _ ∷ rest) = lists_of rest

lists_all : (answers : List (Result (Vec (List Entry) Global) NoMemory)) → all_of (all_in answers) ≡ all_of (lists_of answers)
unfolding lists_of
lists_all [] = refl
lists_all (Ok parts ∷ rest) =
    all_append parts.items (all_in rest) ∙ ap (λ (es : List Entry). all_of parts.items ++ es) (lists_all rest)
lists_all (Err _ ∷ rest) = lists_all rest

lists_merged : (rs : List (List (List Entry))) (answers : List (Result (Vec (List Entry) Global) NoMemory)) →
    EachAnswered rs answers → AreAllOk answers → EachMerged rs (lists_of answers)
unfolding lists_of
lists_merged [] [] h ok = tt
lists_merged [] (a ∷ answers) h ok = absurd h
lists_merged (r ∷ rs) [] h ok = absurd h
lists_merged (r ∷ rs) (Ok parts ∷ answers) h ok = (h.0, lists_merged rs answers h.1 ok)
lists_merged (r ∷ rs) (Err _ ∷ answers) h ok = absurd ok

-- the parts of all answers are the whole
pub whole_answered : (bounds : List ℕ) (hs : List (List Entry))
    (answers : List (Result (Vec (List Entry) Global) NoMemory)) → EachAnswered (ranges bounds hs) answers →
    AreAllOk answers → IsMergedFrom hs (all_of (all_in answers))
whole_answered bounds hs answers h ok =
    rw (lists_all answers) (whole bounds hs (lists_of answers) (lists_merged (ranges bounds hs) answers h ok))
