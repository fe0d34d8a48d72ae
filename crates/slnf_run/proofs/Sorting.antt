-- What a list's order by (stamp, shard) keeps of it.
use Rattle.std.proofs.Common.{◌≡◌, inl, inr, ℕ, ◌≤◌, ◌<◌, Bool, true, false, cond, List, [], ◌∷◌, filter, length, suc, refl, ap, ◌∙◌, arith}
use Rattle.std.proofs.lemmas.Bool.{cond-false, cases_lt}
use Rattle.std.proofs.lemmas.Bool.Decides.{nat_tests}
use Rattle.slnf_access.specs.declared.requests.Entry.{Entry}
use Rattle.slnf_access.specs.Order.{Precedes, InOrder}
use Rattle.slnf_run.specs.Scheduled.{stands_before, put_in, in_order}
use Rattle.slnf_run.specs.Made.{Pairs, Rises, IsApart}
use Rattle.slnf_run.proofs.Pairing.{each-weaker, pairs-weaker, pairs-both}
use Rattle.std.specs.List.{AllByRecursion}

pub precedes-trans : (e f g : Entry) → Precedes e f → Precedes f g → Precedes e g
precedes-trans e f g h k = grind arith

pub precedes_both : (e f : Entry) → Precedes e f → Precedes f e → ⊥
precedes_both e f h k = grind arith

pub precedes_stamp : (e f : Entry) → Precedes e f → e.stamp ≤ f.stamp
precedes_stamp e f h = grind arith

before_yes : (f e : Entry) → stands_before f e ≡ true → Precedes f e
before_yes f e h = grind (arith, nat_tests)

before_no : (f e : Entry) → stands_before f e ≡ false → IsApart e f → Precedes e f
before_no f e h k = grind (arith, nat_tests)

-- the order of a list is that of its pairs
pub pairs_of_order : (es : List Entry) → InOrder es → Pairs Precedes es
pairs_of_order [] h = tt
pairs_of_order (e ∷ []) h = (tt, tt)
pairs_of_order (e ∷ f ∷ es) h =
    let rest : Pairs Precedes (f ∷ es) = pairs_of_order (f ∷ es) h.1 in
    ((h.0, each-weaker (Precedes f) (Precedes e) (λ g k. precedes-trans e f g h.0 k) es rest.0), rest)

pub order_of_pairs : (es : List Entry) → Pairs Precedes es → InOrder es
order_of_pairs [] h = tt
order_of_pairs (e ∷ []) h = tt
order_of_pairs (e ∷ f ∷ es) h = (h.0.0, order_of_pairs (f ∷ es) h.1)

-- what each entry has, each has in order
each-put_in : (P : Entry → Type 0) (e : Entry) (es : List Entry) → P e → AllByRecursion P es →
    AllByRecursion P (put_in e es)
each-put_in P e [] h k = (h, tt)
each-put_in P e (f ∷ es) h k = go (stands_before f e) (each-put_in P e es h k.1)
  where
    go : (b : Bool) → AllByRecursion P (put_in e es) → AllByRecursion P (cond b (f ∷ put_in e es) (e ∷ f ∷ es))
    go true r = (k.0, r)
    go false r = (h, k)

pub each-in_order : (P : Entry → Type 0) (es : List Entry) → AllByRecursion P es → AllByRecursion P (in_order es)
each-in_order P [] h = tt
each-in_order P (e ∷ es) h = each-put_in P e (in_order es) h.0 (each-in_order P es h.1)

-- and what each two have to one another
symmetric-put_in : (R : Entry → Entry → Type 0) → ((e f : Entry) → R e f → R f e) → (e : Entry) (es : List Entry) →
    AllByRecursion (R e) es → Pairs R es → Pairs R (put_in e es)
symmetric-put_in R flip e [] h k = (tt, tt)
symmetric-put_in R flip e (f ∷ es) h k = go (stands_before f e) (symmetric-put_in R flip e es h.1 k.1)
    (each-put_in (R f) e es (flip e f h.0) k.0)
  where
    go : (b : Bool) → Pairs R (put_in e es) → AllByRecursion (R f) (put_in e es) →
        Pairs R (cond b (f ∷ put_in e es) (e ∷ f ∷ es))
    go true r q = (q, r)
    go false r q = (h, k)

pub symmetric-in_order : (R : Entry → Entry → Type 0) → ((e f : Entry) → R e f → R f e) → (es : List Entry) →
    Pairs R es → Pairs R (in_order es)
symmetric-in_order R flip [] h = tt
symmetric-in_order R flip (e ∷ es) h =
    symmetric-put_in R flip e (in_order es) (each-in_order (R e) es h.0) (symmetric-in_order R flip es h.1)

-- no event is lost, and none is new
length-put_in : (e : Entry) (es : List Entry) → length (put_in e es) ≡ suc (length es)
length-put_in e [] = refl
length-put_in e (f ∷ es) = go (stands_before f e) (length-put_in e es)
  where
    go : (b : Bool) → length (put_in e es) ≡ suc (length es) → length (cond b (f ∷ put_in e es) (e ∷ f ∷ es))
        ≡ suc (suc (length es))
    go true r = ap suc r
    go false r = refl

pub length-in_order : (es : List Entry) → length (in_order es) ≡ length es
length-in_order [] = refl
length-in_order (e ∷ es) = length-put_in e (in_order es) ∙ ap suc (length-in_order es)

put_in-ordered : (e : Entry) (es : List Entry) → AllByRecursion (IsApart e) es → Pairs Precedes es →
    Pairs Precedes (put_in e es)
put_in-ordered e [] h k = (tt, tt)
put_in-ordered e (f ∷ es) h k = go (stands_before f e) refl (put_in-ordered e es h.1 k.1)
  where
    go : (b : Bool) → stands_before f e ≡ b → Pairs Precedes (put_in e es) →
        Pairs Precedes (cond b (f ∷ put_in e es) (e ∷ f ∷ es))
    go true w r = (each-put_in (Precedes f) e es (before_yes f e w) k.0, r)
    go false w r =
        let first : Precedes e f = before_no f e w h.0 in
        ((first, each-weaker (Precedes f) (Precedes e) (λ g q. precedes-trans e f g first q) es k.0), k)

-- entries of which no two are of one event come in strict order
pub in_order-pairs : (es : List Entry) → Pairs IsApart es → Pairs Precedes (in_order es)
in_order-pairs [] h = tt
in_order-pairs (e ∷ es) h = put_in-ordered e (in_order es) (each-in_order (IsApart e) es h.0) (in_order-pairs es h.1)

pub in_order-ordered : (es : List Entry) → Pairs IsApart es → InOrder (in_order es)
in_order-ordered es h = order_of_pairs (in_order es) (in_order-pairs es h)

-- entries of one shard with rising stamps are of different events
pub apart_of_rises : (es : List Entry) → Pairs (λ e f. e.shard ≡ f.shard → e.stamp < f.stamp) es → Pairs IsApart es
apart_of_rises es h = pairs-weaker (λ e f. e.shard ≡ f.shard → e.stamp < f.stamp) IsApart (λ e f k. apart e f k) es h
  where
    apart : (e f : Entry) → (e.shard ≡ f.shard → e.stamp < f.stamp) → IsApart e f
    apart e f k = elim (cases_lt e.stamp f.stamp) [
      | inl l ↦ inl (inl l)
      | inr l ↦ elim (cases_lt f.stamp e.stamp) [
        | inl m ↦ inr (inl m)
        | inr m ↦ elim (cases_lt e.shard f.shard) [
          | inl n ↦ inl (inr (omega arith, n))
          | inr n ↦ elim (cases_lt f.shard e.shard) [
            | inl o ↦ inr (inr (omega arith, o))
            | inr o ↦ let q : e.stamp < f.stamp = k (omega arith) in absurd (omega arith)
          ]
        ]
      ]
    ]

filter-put_in : (test : Entry → Bool) (e : Entry) (es : List Entry) → AllByRecursion (Rises test e) es →
    filter test (put_in e es) ≡ filter test (e ∷ es)
filter-put_in test e [] h = refl
filter-put_in test e (f ∷ es) h = go (stands_before f e) refl (filter-put_in test e es h.1)
  where
    swap : (a b : Bool) → test e ≡ a → test f ≡ b → Precedes f e →
        cond b (f ∷ cond a (e ∷ filter test es) (filter test es)) (cond a (e ∷ filter test es) (filter test es))
        ≡ cond a (e ∷ cond b (f ∷ filter test es) (filter test es)) (cond b (f ∷ filter test es) (filter test es))
    swap true true p q k = absurd (precedes_both e f (h.0 p q) k)
    swap true false p q k = refl
    swap false true p q k = refl
    swap false false p q k = refl

    go : (b : Bool) → stands_before f e ≡ b → filter test (put_in e es) ≡ filter test (e ∷ es) →
        filter test (cond b (f ∷ put_in e es) (e ∷ f ∷ es)) ≡ filter test (e ∷ f ∷ es)
    go true w r = ap (λ l. cond (test f) (f ∷ l) l) r ∙ swap (test e) (test f) refl refl (before_yes f e w)
    go false w r = refl

-- a test whose entries rise along the list selects the same in order
pub filter-in_order : (test : Entry → Bool) (es : List Entry) → Pairs (Rises test) es → filter test (in_order es)
    ≡ filter test es
filter-in_order test [] h = refl
filter-in_order test (e ∷ es) h =
    filter-put_in test e (in_order es) (each-in_order (Rises test e) es h.0)
    ∙ ap (λ l. cond (test e) (e ∷ l) l) (filter-in_order test es h.1)

-- where earlier epochs have lower stamps, epochs never go down in order
pub epochs_rise-in_order : (epoch : ℕ → ℕ) (es : List Entry) →
    Pairs (λ e f. epoch e.incarnation ≤ epoch f.incarnation) es →
    Pairs (λ e f. epoch e.incarnation < epoch f.incarnation → e.stamp < f.stamp) es → Pairs IsApart es →
    Pairs (λ e f. epoch e.incarnation ≤ epoch f.incarnation) (in_order es)
epochs_rise-in_order epoch es rise above apart =
    let Up : Entry → Entry → Type 0 = λ e f. epoch e.incarnation < epoch f.incarnation → e.stamp < f.stamp in
    let Both : Entry → Entry → Type 0 = λ e f. Up e f × Up f e in
    pairs-both Both Precedes (λ e f. epoch e.incarnation ≤ epoch f.incarnation) fits (in_order es)
    (symmetric-in_order Both (λ e f h. (h.1, h.0)) es
    (pairs-both (λ e f. epoch e.incarnation ≤ epoch f.incarnation) Up Both
    (λ e f l u. (u, λ m. absurd (clash e f l m))) es rise above))
    (in_order-pairs es apart)
  where
    clash : (e f : Entry) → epoch e.incarnation ≤ epoch f.incarnation → epoch f.incarnation < epoch e.incarnation → ⊥
    clash e f l m = omega arith

    fits : (e f : Entry) → (epoch e.incarnation < epoch f.incarnation → e.stamp < f.stamp)
        × (epoch f.incarnation < epoch e.incarnation → f.stamp < e.stamp) → Precedes e f →
        epoch e.incarnation ≤ epoch f.incarnation
    fits e f h p = elim (cases_lt (epoch f.incarnation) (epoch e.incarnation)) [
      | inl m ↦ let a : f.stamp < e.stamp = h.1 m in let b : e.stamp ≤ f.stamp = precedes_stamp e f p in
          absurd (omega arith)
      | inr m ↦ m
    ]

-- to put entries in order changes nothing where they are
pub in_order-same : (es : List Entry) → InOrder es → in_order es ≡ es
in_order-same [] h = refl
in_order-same (e ∷ []) h = refl
in_order-same (e ∷ f ∷ es) h =
    ap (put_in e) (in_order-same (f ∷ es) h.1)
    ∙ cond-false (stands_before f e) (f ∷ put_in e es) (e ∷ f ∷ es) (not_before e f h.0)
  where
    not_before : (e f : Entry) → Precedes e f → stands_before f e ≡ false
    not_before e f p = grind (arith, nat_tests)
