-- The batches up to one of them have as many packets as the code counts.
use Rattle.std.proofs.Common.{◌≡◌, inl, inr, ℕ, suc, zero, ◌+◌, ◌-◌, ◌<◌, ◌≤◌, Bool, true, false, cond, not, ◌&&◌, ◌||◌, ◌==◌, nat_lt, nat_le, Option, Some, None, List, [], ◌∷◌, length, filter, refl, sym, ap, ◌∙◌, eq-eqb, ne_eqb, arith}
use Rattle.std.specs.List.{range_with_len}
use Rattle.std.proofs.lemmas.Bool.{cases_eq, cond-true, cond-false}
use Rattle.std.proofs.lemmas.Bool.Decides.{nat_tests}
use Rattle.slnf_run.specs.Jobs.{Offer, is_among, with_key, batched, batch_of}
use Rattle.slnf_run.proofs.OfferRows.{Rises, has_item, items_batched, rises_batched, range_has_item, has_in_range}
use Rattle.slnf_verdicts.specs.Batches.{number_in, batch_end}

-- how many of these offers are in batches up to this one
abbrev pub count_upto : ℕ → List Offer → ℕ
count_upto batch offers = length (filter (λ offer. nat_le offer.batch batch) offers)

-- an offer of one of these batches counts, and one behind them doesn't
one_counts : (batch : ℕ) (offer : Offer) (offers : List Offer) → offer.batch ≤ batch →
    count_upto batch (offer ∷ offers) ≡ count_upto batch offers + 1
one_counts batch offer offers l =
    let own : nat_le offer.batch batch ≡ true = grind (arith, nat_tests) in
    let next : suc (count_upto batch offers) ≡ count_upto batch offers + 1 = omega arith in
    ap length (cond-true (nat_le offer.batch batch) (offer ∷ filter (λ o. nat_le o.batch batch) offers)
    (filter (λ o. nat_le o.batch batch) offers) own) ∙ next

none_behind : (number batch : ℕ) (offers : List Offer) → Rises number offers → batch < number →
    count_upto batch offers ≡ 0
none_behind number batch [] rises l = refl
none_behind number batch (offer ∷ offers) rises l =
    let from : number ≤ offer.batch = rises.0 in
    let over : nat_le offer.batch batch ≡ false = grind (arith, nat_tests) in
    ap length (cond-false (nat_le offer.batch batch) (offer ∷ filter (λ o. nat_le o.batch batch) offers)
    (filter (λ o. nat_le o.batch batch) offers) over)
    ∙ none_behind offer.batch batch offers rises.1 (omega arith)

-- the batch of an item that is offered isn't before the first one
batch_from : (number item : ℕ) (offers : List Offer) → Rises number offers → has_item item offers ≡ true →
    number ≤ batch_of item offers
batch_from number item [] rises has = absurd (cc)
batch_from number item (offer ∷ offers) rises has =
    go (offer.item == item) has (batch_from offer.batch item offers rises.1)
  where
    go : (b : Bool) → (b || has_item item offers) ≡ true →
        (has_item item offers ≡ true → offer.batch ≤ batch_of item offers) →
        number ≤ cond b offer.batch (batch_of item offers)
    go true has rest = rises.0
    go false has rest =
        let from : number ≤ offer.batch = rises.0 in
        let later : offer.batch ≤ batch_of item offers = rest has in
        omega arith

-- and one that isn't offered has the batch 0
batch_of_none : (item : ℕ) (offers : List Offer) → has_item item offers ≡ false → batch_of item offers ≡ 0
batch_of_none item [] has = refl
batch_of_none item (offer ∷ offers) has = go (offer.item == item) has (batch_of_none item offers)
  where
    go : (b : Bool) → (b || has_item item offers) ≡ false →
        (has_item item offers ≡ false → batch_of item offers ≡ 0) → cond b offer.batch (batch_of item offers) ≡ 0
    go true has rest = absurd (cc)
    go false has rest = rest has

module _ (limit : ℕ) (first : ℕ → Option ℕ) (last : ℕ) where
  -- this item joins the batch in hand
  abbrev joins : ℕ → List ℕ → ℕ → Bool
  joins size keys item = nat_lt size limit && not (is_among (first item) keys)

  -- the offers of a batch in hand and those behind it
  abbrev offers_from : ℕ → ℕ → List ℕ → ℕ → ℕ → List Offer
  offers_from number size keys a n = batched limit first number size keys (range_with_len a n)

  abbrev end_from : ℕ → List ℕ → ℕ → ℕ → ℕ
  end_from size keys a n = batch_end limit first last size keys (range_with_len a n)

  has_last : (number size : ℕ) (keys : List ℕ) (a n : ℕ) → a ≤ last → last < a + n →
      has_item last (offers_from number size keys a n) ≡ true
  has_last number size keys a n from upto =
      range_has_item last a n (offers_from number size keys a n)
      (items_batched limit first number size keys (range_with_len a n)) from upto

  -- behind the last item, the batch in hand goes on to its end
  passed : (number size : ℕ) (keys : List ℕ) (a n : ℕ) → last < a →
      count_upto number (offers_from number size keys a n) ≡ end_from size keys a n
  passed number size keys a zero l = refl
  passed number size keys a (suc n) l =
      go (joins size keys a) (passed number (size + 1) (with_key (first a) keys) (a + 1) n (omega arith))
    where
      go : (b : Bool) → count_upto number (offers_from number (size + 1) (with_key (first a) keys) (a + 1) n)
          ≡ end_from (size + 1) (with_key (first a) keys) (a + 1) n →
          count_upto number (cond b (record { item = a; batch = number }
          ∷ offers_from number (size + 1) (with_key (first a) keys) (a + 1) n)
          (record { item = a; batch = number + 1 } ∷ offers_from (number + 1) 1 (with_key (first a) []) (a + 1) n))
          ≡ cond b (end_from (size + 1) (with_key (first a) keys) (a + 1) n + 1)
          (cond (nat_lt last a) 0 (end_from 1 (with_key (first a) []) (a + 1) n + 1))
      go true rest =
          one_counts number (record { item = a; batch = number })
          (offers_from number (size + 1) (with_key (first a) keys) (a + 1) n) (omega arith) ∙ ap (λ k. k + 1) rest
      go false rest =
          let over : nat_lt last a ≡ true = grind (arith, nat_tests) in
          none_behind (number + 1) number (record { item = a; batch = number + 1 }
          ∷ offers_from (number + 1) 1 (with_key (first a) []) (a + 1) n)
          (omega arith, rises_batched limit first (number + 1) 1 (with_key (first a) []) (range_with_len (a + 1) n))
          (omega arith)
          ∙ sym (cond-true (nat_lt last a) 0 (end_from 1 (with_key (first a) []) (a + 1) n + 1) over)

  -- the item is the last one
  here : (number size : ℕ) (keys : List ℕ) (a n : ℕ) (b : Bool) → a ≡ last →
      count_upto (cond b number (number + 1)) (cond b (record { item = a; batch = number }
      ∷ offers_from number (size + 1) (with_key (first a) keys) (a + 1) n)
      (record { item = a; batch = number + 1 } ∷ offers_from (number + 1) 1 (with_key (first a) []) (a + 1) n))
      ≡ cond b (end_from (size + 1) (with_key (first a) keys) (a + 1) n + 1)
      (cond (nat_lt last a) 0 (end_from 1 (with_key (first a) []) (a + 1) n + 1))
  here number size keys a n true is =
      one_counts number (record { item = a; batch = number })
      (offers_from number (size + 1) (with_key (first a) keys) (a + 1) n) (omega arith)
      ∙ ap (λ k. k + 1) (passed number (size + 1) (with_key (first a) keys) (a + 1) n (omega arith))
  here number size keys a n false is =
      let inside : nat_lt last a ≡ false = grind (arith, nat_tests) in
      one_counts (number + 1) (record { item = a; batch = number + 1 })
      (offers_from (number + 1) 1 (with_key (first a) []) (a + 1) n) (omega arith)
      ∙ ap (λ k. k + 1) (passed (number + 1) 1 (with_key (first a) []) (a + 1) n (omega arith))
      ∙ sym (cond-false (nat_lt last a) 0 (end_from 1 (with_key (first a) []) (a + 1) n + 1) inside)

  -- the last item is one of these
  pub upto_last : (number size : ℕ) (keys : List ℕ) (a n : ℕ) → a ≤ last → last < a + n →
      count_upto (batch_of last (offers_from number size keys a n)) (offers_from number size keys a n)
      ≡ end_from size keys a n
  upto_last number size keys a zero from upto = absurd (omega arith)
  upto_last number size keys a (suc n) from upto = elim (cases_eq a last) [
    | inl is ↦ own (joins size keys a) is
    | inr other ↦
        before (joins size keys a) other
        (upto_last number (size + 1) (with_key (first a) keys) (a + 1) n (omega arith) (omega arith))
        (upto_last (number + 1) 1 (with_key (first a) []) (a + 1) n (omega arith) (omega arith))
  ]
    where
      joined : List Offer
      joined = offers_from number (size + 1) (with_key (first a) keys) (a + 1) n

      cut : List Offer
      cut = offers_from (number + 1) 1 (with_key (first a) []) (a + 1) n

      offers : Bool → List Offer
      offers b = cond b (record { item = a; batch = number } ∷ joined) (record { item = a; batch = number + 1 } ∷ cut)

      own : (b : Bool) → a ≡ last → count_upto (batch_of last (offers b)) (offers b)
          ≡ cond b (end_from (size + 1) (with_key (first a) keys) (a + 1) n + 1)
          (cond (nat_lt last a) 0 (end_from 1 (with_key (first a) []) (a + 1) n + 1))
      own true is =
          ap (λ k. count_upto k (offers true))
          (cond-true (a == last) number (batch_of last joined) (eq-eqb a last is))
          ∙ here number size keys a n true is
      own false is =
          ap (λ k. count_upto k (offers false))
          (cond-true (a == last) (number + 1) (batch_of last cut) (eq-eqb a last is))
          ∙ here number size keys a n false is

      before : (b : Bool) → (a ≡ last → ⊥) → count_upto (batch_of last joined) joined
          ≡ end_from (size + 1) (with_key (first a) keys) (a + 1) n →
          count_upto (batch_of last cut) cut ≡ end_from 1 (with_key (first a) []) (a + 1) n →
          count_upto (batch_of last (offers b)) (offers b)
          ≡ cond b (end_from (size + 1) (with_key (first a) keys) (a + 1) n + 1)
          (cond (nat_lt last a) 0 (end_from 1 (with_key (first a) []) (a + 1) n + 1))
      before true other rest unused =
          let low : number ≤ batch_of last joined =
          batch_from number last joined (rises_batched limit first number (size + 1) (with_key (first a) keys)
          (range_with_len (a + 1) n))
          (has_last number (size + 1) (with_key (first a) keys) (a + 1) n (omega arith) (omega arith)) in
          ap (λ k. count_upto k (offers true))
          (cond-false (a == last) number (batch_of last joined) (ne_eqb a last other))
          ∙ one_counts (batch_of last joined) (record { item = a; batch = number }) joined low
          ∙ ap (λ k. k + 1) rest
      before false other unused rest =
          let low : number + 1 ≤ batch_of last cut =
          batch_from (number + 1) last cut (rises_batched limit first (number + 1) 1 (with_key (first a) [])
          (range_with_len (a + 1) n))
          (has_last (number + 1) 1 (with_key (first a) []) (a + 1) n (omega arith) (omega arith)) in
          let inside : nat_lt last a ≡ false = grind (arith, nat_tests) in
          ap (λ k. count_upto k (offers false))
          (cond-false (a == last) (number + 1) (batch_of last cut) (ne_eqb a last other))
          ∙ one_counts (batch_of last cut) (record { item = a; batch = number + 1 }) cut low
          ∙ ap (λ k. k + 1) rest
          ∙ sym (cond-false (nat_lt last a) 0 (end_from 1 (with_key (first a) []) (a + 1) n + 1) inside)

-- the first item is in the batch 0
first_batch : (limit : ℕ) (first : ℕ → Option ℕ) (at n : ℕ) → 0 < limit → 0 < n →
    batch_of at (batched limit first 0 0 [] (range_with_len at n)) ≡ 0
first_batch limit first at zero some more = absurd (omega arith)
first_batch limit first at (suc n) some more = go (nat_lt 0 limit && not (is_among (first at) [])) joins
  where
    alone : (key : Option ℕ) → is_among key [] ≡ false
    alone None = refl
    alone (Some key) = refl

    joins : (nat_lt 0 limit && not (is_among (first at) [])) ≡ true
    joins =
        let room : nat_lt 0 limit ≡ true = grind (arith, nat_tests) in
        ap (λ b. nat_lt 0 limit && not b) (alone (first at)) ∙ ap (λ b. b && true) room

    go : (b : Bool) → b ≡ true → batch_of at (cond b (record { item = at; batch = 0 }
        ∷ batched limit first 0 (0 + 1) (with_key (first at) []) (range_with_len (at + 1) n))
        (record { item = at; batch = 0 + 1 } ∷ batched limit first (0 + 1) 1 (with_key (first at) [])
        (range_with_len (at + 1) n)))
        ≡ 0
    go true is = cond-true (at == at) 0 _ (eq-eqb at at refl)
    go false is = absurd (cc)

-- An item that isn't offered has the batch of the first one.
pub same_batch : (limit : ℕ) (first : ℕ → Option ℕ) (at n item : ℕ) → 0 < limit → 0 < n →
    batch_of item (batched limit first 0 0 [] (range_with_len at n))
    ≡ batch_of (number_in at n item) (batched limit first 0 0 [] (range_with_len at n))
same_batch limit first at n item some more = go (nat_le at item && nat_lt (item - at) n) refl
  where
    offers : List Offer
    offers = batched limit first 0 0 [] (range_with_len at n)

    outside : (has : Bool) → has_item item offers ≡ has → (nat_le at item && nat_lt (item - at) n) ≡ false →
        has_item item offers ≡ false
    outside false is test = is
    outside true is test =
        let range = has_in_range item at n offers (items_batched limit first 0 0 [] (range_with_len at n)) is in
        let from : at ≤ item = range.0 in
        let upto : item < at + n = range.1 in
        let inside : (nat_le at item && nat_lt (item - at) n) ≡ true = grind (arith, nat_tests) in
        let wrong : true ≡ false = sym inside ∙ test in
        absurd (cc)

    go : (b : Bool) → (nat_le at item && nat_lt (item - at) n) ≡ b →
        batch_of item offers ≡ batch_of (cond b item at) offers
    go true test = refl
    go false test =
        batch_of_none item offers (outside (has_item item offers) refl test)
        ∙ sym (first_batch limit first at n some more)

-- and its number is one of them
pub number_from : (at n item : ℕ) → 0 < n → (at ≤ number_in at n item) × (number_in at n item < at + n)
number_from at n item more = go (nat_le at item && nat_lt (item - at) n) refl
  where
    go : (b : Bool) → (nat_le at item && nat_lt (item - at) n) ≡ b → (at ≤ cond b item at) × (cond b item at < at + n)
    go true test =
        let from : at ≤ item = grind (arith, nat_tests) in
        let upto : item - at < n = grind (arith, nat_tests) in
        (from, omega arith)
    go false test = (omega arith, omega arith)
