-- Offers are batches, one after another: the items that join the first one, and the batches of the others.
use Rattle.std.proofs.Common.{◌≡◌, ◌⊎◌, inl, inr, ℕ, zero, suc, ◌+◌, ◌-◌, ◌<◌, ◌≤◌, Bool, true, false, not, ◌&&◌, nat_lt, if◌then◌else◌, List, [], ◌∷◌, ◌++◌, Option, Some, None, length, map, refl, sym, ap, ap₂, ◌∙◌, subst, arith}
use Rattle.std.specs.List.{range_with_len, AllByRecursion}
use Rattle.std.proofs.lemmas.Bool.{cond-true, cond-false, cond_both, lt-ltb, le-ltb, cases_lt}
use Rattle.slnf_access.proofs.Elements.{each-weaker}
use Rattle.slnf_run.specs.Jobs.{Offer, is_among, with_key, joins, batched, joining, one_batch}

none_among : (key : Option ℕ) → is_among key [] ≡ false
none_among None = refl
none_among (Some k) = refl

joins_first : (limit : ℕ) (key : Option ℕ) → 0 < limit → joins limit 0 [] key ≡ true
joins_first limit key l = rw (lt-ltb 0 limit l, none_among key) refl

-- a new batch takes its first item
new_batch : (limit : ℕ) (first : ℕ → Option ℕ) (number item : ℕ) (items : List ℕ) → 0 < limit →
    batched limit first number 0 [] (item ∷ items)
    ≡ record { item = item; batch = number } ∷ batched limit first number 1 (with_key (first item) []) items
new_batch limit first number item items l =
    cond-true (joins limit 0 [] (first item)) _ _ (joins_first limit (first item) l)

-- the batches of a range: the rest of the batch in hand, and those of the items that don't join it
pub batched_joining : (limit : ℕ) (first : ℕ → Option ℕ) (number size : ℕ) (keys : List ℕ) (a n c : ℕ) → 0 < limit →
    c ≡ joining limit first size keys (range_with_len a n) →
    batched limit first number size keys (range_with_len a n)
    ≡ one_batch number (range_with_len a c) ++ batched limit first (number + 1) 0 [] (range_with_len (a + c) (n - c))
batched_joining limit first number size keys a zero c l w =
    let q : zero - c ≡ 0 = omega arith in
    let z : c ≡ 0 = w in
    subst (λ k. [] ≡ one_batch number (range_with_len a k) ++ batched limit first (number + 1) 0 []
    (range_with_len (a + c) (zero - c))) (sym z)
    (ap (λ k. batched limit first (number + 1) 0 [] (range_with_len (a + c) k)) (sym q))
batched_joining limit first number size keys a (suc n) c l w =
    subst (λ k. batched limit first number size keys (range_with_len a (suc n))
    ≡ one_batch number (range_with_len a k)
    ++ batched limit first (number + 1) 0 [] (range_with_len (a + k) (suc n - k))) (sym w)
    (go (joins limit size keys (first a))
    (batched_joining limit first number (size + 1) (with_key (first a) keys) (a + 1) n rest l refl))
  where
    rest : ℕ
    rest = joining limit first (size + 1) (with_key (first a) keys) (range_with_len (a + 1) n)

    go : (t : Bool) →
        batched limit first number (size + 1) (with_key (first a) keys) (range_with_len (a + 1) n)
        ≡ one_batch number (range_with_len (a + 1) rest)
        ++ batched limit first (number + 1) 0 [] (range_with_len (a + 1 + rest) (n - rest)) →
        (if t then record { item = a; batch = number } ∷ batched limit first number (size + 1)
        (with_key (first a) keys) (range_with_len (a + 1) n)
        else record { item = a; batch = number + 1 } ∷ batched limit first (number + 1) 1 (with_key (first a) [])
        (range_with_len (a + 1) n))
        ≡ one_batch number (range_with_len a (if t then suc rest else 0))
        ++ batched limit first (number + 1) 0 [] (range_with_len (a + (if t then suc rest else 0))
        (suc n - (if t then suc rest else 0)))
    go true h =
        let p : a + 1 + rest ≡ a + suc rest = omega arith in
        let q : n - rest ≡ suc n - suc rest = omega arith in
        ap (λ xs. record { item = a; batch = number } ∷ xs)
        (h ∙ ap₂ (λ b m. one_batch number (range_with_len (a + 1) rest)
        ++ batched limit first (number + 1) 0 [] (range_with_len b m)) p q)
    go false h =
        let p : a ≡ a + 0 = omega arith in
        let q : suc n ≡ suc n - 0 = omega arith in
        sym (new_batch limit first (number + 1) a (range_with_len (a + 1) n) l)
        ∙ ap₂ (λ b m. batched limit first (number + 1) 0 [] (range_with_len b m)) p q

-- at least one item joins a new batch, if there is one
pub joining_takes : {I : Type 0} (limit : ℕ) (first : I → Option ℕ) (item : I) (items : List I) → 0 < limit →
    0 < joining limit first 0 [] (item ∷ items)
joining_takes limit first item items l =
    let rest : ℕ = joining limit first 1 (with_key (first item) []) items in
    let q : joining limit first 0 [] (item ∷ items) ≡ suc rest =
    cond-true (joins limit 0 [] (first item)) (suc rest) 0 (joins_first limit (first item) l) in
    omega arith

-- and no more than there are
pub joining_within : {I : Type 0} (limit : ℕ) (first : I → Option ℕ) (size : ℕ) (keys : List ℕ) (items : List I) →
    joining limit first size keys items ≤ length items
joining_within limit first size keys [] = omega arith
joining_within limit first size keys (item ∷ items) =
    let r = joining_within limit first (size + 1) (with_key (first item) keys) items in
    cond_both (joins limit size keys (first item)) _ _ (λ c. c ≤ suc (length items)) (λ _. omega arith)
    (λ _. omega arith)

-- items that are seen as others join as these
pub joining-map : {I J : Type 0} (limit : ℕ) (first : J → Option ℕ) (see : I → J) (size : ℕ) (keys : List ℕ)
    (items : List I) →
    joining limit first size keys (map see items) ≡ joining limit (λ item. first (see item)) size keys items
joining-map limit first see size keys [] = refl
joining-map limit first see size keys (item ∷ items) =
    ap (λ n. if joins limit size keys (first (see item)) then suc n else 0)
    (joining-map limit first see (size + 1) (with_key (first (see item)) keys) items)

-- the items of a range that join are those among the next ones that the batch has room for
pub joining_window : (limit : ℕ) (first : ℕ → Option ℕ) (size : ℕ) (keys : List ℕ) (a n window : ℕ) →
    window ≤ n → (limit ≤ size + window) ⊎ (window ≡ n) →
    joining limit first size keys (range_with_len a n) ≡ joining limit first size keys (range_with_len a window)
joining_window limit first size keys a n window l (inr e) =
    ap (λ m. joining limit first size keys (range_with_len a m)) (sym e)
joining_window limit first size keys a n zero l (inl h) = by_room n l
  where
    by_room : (n : ℕ) → 0 ≤ n → joining limit first size keys (range_with_len a n) ≡ 0
    by_room zero l = refl
    by_room (suc n) l =
        ap (λ t. if t && not (is_among (first a) keys)
        then suc (joining limit first (size + 1) (with_key (first a) keys) (range_with_len (a + 1) n)) else 0)
        (le-ltb size limit (omega arith))
joining_window limit first size keys a zero (suc window) l (inl h) = absurd (omega arith)
joining_window limit first size keys a (suc n) (suc window) l (inl h) =
    ap (λ m. if joins limit size keys (first a) then suc m else 0)
    (joining_window limit first (size + 1) (with_key (first a) keys) (a + 1) n window (omega arith)
    (inl (omega arith)))

-- the batches' numbers are from the first one's on
pub batched_from : (limit : ℕ) (first : ℕ → Option ℕ) (number size : ℕ) (keys items : List ℕ) →
    AllByRecursion (λ offer. number ≤ offer.batch) (batched limit first number size keys items)
batched_from limit first number size keys [] = tt
batched_from limit first number size keys (item ∷ items) =
    cond_both (joins limit size keys (first item)) _ _ (AllByRecursion (λ offer. number ≤ offer.batch))
    (λ _. (omega arith, batched_from limit first number (size + 1) (with_key (first item) keys) items))
    (λ _. (
      omega arith,
      each-weaker (λ offer. number + 1 ≤ offer.batch) (λ offer. number ≤ offer.batch)
          (λ offer l. below offer l) _ (batched_from limit first (number + 1) 1 (with_key (first item) []) items),
    ))
  where
    below : (offer : Offer) → number + 1 ≤ offer.batch → number ≤ offer.batch
    below offer l = omega arith
