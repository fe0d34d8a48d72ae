-- Counts of entries by items, and what holds from prefix to prefix.
use Rattle.std.proofs.Common.{◌≡◌, ℕ, suc, ◌+◌, ◌*◌, ◌≤◌, Bool, true, false, not, cond, ◌&&◌, ◌||◌, List, [], ◌∷◌, ◌++◌, length, filter, refl, ap, sym, ◌∙◌, subst, arith, append_assoc, append-nil}
use Rattle.std.proofs.Math.Nat.{suc-mul}
use Rattle.std.proofs.lemmas.Bool.{and_parts, and_from, eq-eqb}
use Rattle.slnf_access.specs.declared.requests.Entry.{Entry}
use Rattle.slnf_run.specs.Scene.{is_of}
use Rattle.slnf_run.specs.Items.{Item, is_item, is_of_items, Covers, with_item_of, items_of, sum_over}
use Rattle.slnf_access.proofs.Elements.{each-weaker}
use Rattle.std.specs.List.{AllByRecursion}

-- What holds of no entry, and of each prefix with one more entry, holds of the whole.
pub prefix_induction : (P : List Entry → Type 0) (es : List Entry) → P [] →
    ((before later : List Entry) (e : Entry) → es ≡ before ++ e ∷ later → P before → P (before ++ e ∷ [])) → P es
prefix_induction P es first step = go [] es refl first
  where
    go : (before later : List Entry) → es ≡ before ++ later → P before → P es
    go before [] split p = subst P (sym (split ∙ append-nil before)) p
    go before (e ∷ later) split p =
        go (before ++ e ∷ []) later (split ∙ sym (append_assoc before (e ∷ []) later)) (step before later e split p)

-- how many entries pass a test
abbrev pub count : (Entry → Bool) → List Entry → ℕ
count test es = length (filter test es)

-- a test that passes less
pub count_less : (p q : Entry → Bool) → ((e : Entry) → p e ≡ true → q e ≡ true) → (es : List Entry) →
    count p es ≤ count q es
count_less p q less [] = omega arith
count_less p q less (e ∷ es) = go (p e) (q e) (less e) (count_less p q less es)
  where
    go : (a b : Bool) → (a ≡ true → b ≡ true) → length (filter p es) ≤ length (filter q es) →
        length (cond a (e ∷ filter p es) (filter p es)) ≤ length (cond b (e ∷ filter q es) (filter q es))
    go true true h r = omega arith
    go true false h r = absurd (let no : false ≡ true = h refl in cc)
    go false true h r = omega arith
    go false false h r = r

-- by another test
count_split : (p q : Entry → Bool) (es : List Entry) → count p es
    ≡ count (λ e. p e && q e) es + count (λ e. p e && not (q e)) es
count_split p q [] = refl
count_split p q (e ∷ es) = go (p e) (q e) (count_split p q es)
  where
    a : List Entry
    a = filter (λ e. p e && q e) es

    b : List Entry
    b = filter (λ e. p e && not (q e)) es

    go : (x y : Bool) → length (filter p es) ≡ length (filter (λ e. p e && q e) es) + length
        (filter (λ e. p e && not (q e)) es) → length (cond x (e ∷ filter p es) (filter p es))
        ≡ length (cond (x && y) (e ∷ filter (λ e. p e && q e) es) (filter (λ e. p e && q e) es)) + length
        (cond (x && not y) (e ∷ filter (λ e. p e && not (q e)) es) (filter (λ e. p e && not (q e)) es))
    go true true r = omega arith
    go true false r = omega arith
    go false y r = r

-- none passes
count_none : (p : Entry → Bool) (es : List Entry) → AllByRecursion (λ e. p e ≡ true → ⊥) es → count p es ≤ 0
count_none p [] h = omega arith
count_none p (e ∷ es) h = go (p e) h.0 (count_none p es h.1)
  where
    go : (b : Bool) → (b ≡ true → ⊥) → length (filter p es) ≤ 0 → length (cond b (e ∷ filter p es) (filter p es)) ≤ 0
    go true never r = absurd (never refl)
    go false never r = r

-- what isn't is not
not_true : (b : Bool) → not b ≡ true → b ≡ false
not_true true h = cc
not_true false h = refl

or_rest : (a b : Bool) → (a || b) ≡ true → a ≡ false → b ≡ true
or_rest true b h w = cc
or_rest false b h w = h

sum_below : (a b c m p q : ℕ) → a ≡ b + c → b ≤ m → c ≤ p → q ≡ p + m → a ≤ q
sum_below a b c m p q h k l e = omega arith

-- Entries of these items, of which each has at most m, are at most m for each of these.
pub count_by_items : (m : ℕ) (items : List Item) (test : Entry → Bool) (es : List Entry) → Covers test items es →
    ((item : Item) → count (λ e. test e && is_item item e) es ≤ m) → count test es ≤ length items * m
count_by_items m [] test es covers each =
    let none : count test es ≤ 0 = count_none test es
    (each-weaker (λ e. test e ≡ true → false ≡ true) (λ e. test e ≡ true → ⊥) (λ e h t. let no : false ≡ true =
    h t in cc) es covers) in
    omega arith
count_by_items m (item ∷ items) test es covers each =
    let rest : Entry → Bool = λ e. test e && not (is_item item e) in
    let rest_covers : Covers rest items es = each-weaker (λ e. test e ≡ true → (is_item item e || is_of_items items e)
    ≡ true) (λ e. rest e ≡ true → is_of_items items e ≡ true)
    (λ e h t. let parts = and_parts (test e) (not (is_item item e)) t in
    or_rest (is_item item e) (is_of_items items e) (h parts.0) (not_true (is_item item e) parts.1)) es covers in
    let fewer : (other : Item) → count (λ e. rest e && is_item other e) es ≤ m = λ other.
    let less : count (λ e. rest e && is_item other e) es ≤ count (λ e. test e && is_item other e) es =
    count_less (λ e. rest e && is_item other e) (λ e. test e && is_item other e)
    (λ e h. let parts = and_parts (rest e) (is_item other e) h in
    and_from (test e) (is_item other e) (and_parts (test e) (not (is_item item e)) parts.0).0 parts.1) es in
    let most : count (λ e. test e && is_item other e) es ≤ m = each other in
    le_trans_nat (count (λ e. rest e && is_item other e) es)
    (count (λ e. test e && is_item other e) es) m less most in
    sum_below (count test es) (count (λ e. test e && is_item item e) es) (count rest es) m (length items * m)
    (suc (length items) * m)
    (count_split test (is_item item) es) (each item) (count_by_items m items rest es rest_covers fewer)
    (suc-mul (length items) m)
  where
    le_trans_nat : (a b c : ℕ) → a ≤ b → b ≤ c → a ≤ c
    le_trans_nat a b c h k = omega arith

le_trans : (a b c : ℕ) → a ≤ b → b ≤ c → a ≤ c
le_trans a b c h k = omega arith

below : (a b c m p : ℕ) → a ≡ b + c → b ≤ m → c ≤ p → a ≤ m + p
below a b c m p h k l = omega arith

-- Entries of these items are at most the sum of what each of these makes.
pub count_sum : (most : ℕ → ℕ → ℕ) (items : List Item) (test : Entry → Bool) (es : List Entry) →
    Covers test items es → ((item : Item) → count (λ e. test e
    && is_item item e) es ≤ most item.incarnation item.number) → count test es ≤ sum_over most items
count_sum most [] test es covers each =
    count_none test es (each-weaker (λ e. test e ≡ true → false ≡ true) (λ e. test e ≡ true → ⊥)
    (λ e h t. let no : false ≡ true = h t in cc) es covers)
count_sum most (item ∷ items) test es covers each =
    let rest : Entry → Bool = λ e. test e && not (is_item item e) in
    let rest_covers : Covers rest items es = each-weaker (λ e. test e ≡ true → (is_item item e || is_of_items items e)
    ≡ true) (λ e. rest e ≡ true → is_of_items items e ≡ true)
    (λ e h t. let parts = and_parts (test e) (not (is_item item e)) t in
    or_rest (is_item item e) (is_of_items items e) (h parts.0) (not_true (is_item item e) parts.1)) es covers in
    let fewer : (other : Item) → count (λ e. rest e && is_item other e) es ≤ most other.incarnation other.number =
    λ other.
    let less : count (λ e. rest e && is_item other e) es ≤ count (λ e. test e && is_item other e) es =
    count_less (λ e. rest e && is_item other e) (λ e. test e && is_item other e)
    (λ e h. let parts = and_parts (rest e) (is_item other e) h in
    and_from (test e) (is_item other e) (and_parts (test e) (not (is_item item e)) parts.0).0 parts.1) es in
    le_trans (count (λ e. rest e && is_item other e) es) (count (λ e. test e && is_item other e) es)
    (most other.incarnation other.number) less (each other) in
    below (count test es) (count (λ e. test e && is_item item e) es) (count rest es)
    (most item.incarnation item.number) (sum_over most items)
    (count_split test (is_item item) es) (each item) (count_sum most items rest es rest_covers fewer)

-- the items of entries cover them
pub items_cover : (test : Entry → Bool) (es : List Entry) → Covers test (items_of test es) es
items_cover test [] = tt
items_cover test (e ∷ es) = go (test e) refl (items_cover test es)
  where
    or_more : (a b : Bool) → b ≡ true → (a || b) ≡ true
    or_more true b h = refl
    or_more false b h = h

    itself : is_of e.incarnation e.item e ≡ true
    itself = and_from _ _ (eq-eqb e.incarnation e.incarnation refl) (eq-eqb e.item e.item refl)

    or_first : (a b : Bool) → a ≡ true → (a || b) ≡ true
    or_first true b h = refl
    or_first false b h = cc

    here : (items : List Item) (b : Bool) → is_of_items items e ≡ b →
        is_of_items (cond b items (record { incarnation = e.incarnation; number = e.item } ∷ items)) e ≡ true
    here items true w = w
    here items false w = or_first (is_of e.incarnation e.item e) (is_of_items items e) itself

    more : (items : List Item) (b : Bool) (f : Entry) → is_of_items items f ≡ true →
        is_of_items (cond b items (record { incarnation = e.incarnation; number = e.item } ∷ items)) f ≡ true
    more items true f h = h
    more items false f h = or_more (is_of e.incarnation e.item f) (is_of_items items f) h

    go : (b : Bool) → test e ≡ b → Covers test (items_of test es) es →
        Covers test (cond b (with_item_of e (items_of test es)) (items_of test es)) (e ∷ es)
    go true w r = (
      λ t. here (items_of test es) (is_of_items (items_of test es) e) refl,
      each-weaker (λ f. test f ≡ true → is_of_items (items_of test es) f ≡ true) (λ f. test f ≡ true →
          is_of_items (with_item_of e (items_of test es)) f ≡ true)
          (λ f h t. more (items_of test es) (is_of_items (items_of test es) e) f (h t)) es r,
    )
    go false w r = (λ t. let no : false ≡ true = sym w ∙ t in cc, r)

-- two tests one after the other
pub filter_and : (p q : Entry → Bool) (es : List Entry) → filter p (filter q es) ≡ filter (λ e. p e && q e) es
filter_and p q [] = refl
filter_and p q (e ∷ es) = go (q e) (p e) refl (filter_and p q es)
  where
    go : (a b : Bool) → p e ≡ b → filter p (filter q es) ≡ filter (λ e. p e && q e) es →
        filter p (cond a (e ∷ filter q es) (filter q es))
        ≡ cond (b && a) (e ∷ filter (λ e. p e && q e) es) (filter (λ e. p e && q e) es)
    go true true w r = ap (λ c. cond c (e ∷ filter p (filter q es)) (filter p (filter q es))) w ∙ ap (λ xs. e ∷ xs) r
    go true false w r = ap (λ c. cond c (e ∷ filter p (filter q es)) (filter p (filter q es))) w ∙ r
    go false true w r = r
    go false false w r = r
