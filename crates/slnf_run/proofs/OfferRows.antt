-- What an actor is offered: numbers in a row in batches that rise, and what it took of them is a front.
use Rattle.std.proofs.Common.{◌≡◌, ◌⊎◌, inl, inr, ℕ, suc, zero, ◌+◌, ◌<◌, ◌≤◌, Bool, true, false, cond, not, ◌&&◌, ◌||◌, ◌==◌, nat_lt, nat_le, Option, Some, None, List, [], ◌∷◌, length, map, take, filter, refl, ap, sym, ◌∙◌, eq-eqb, arith}
use Rattle.std.specs.List.{range_with_len, list_any}
use Rattle.std.proofs.lemmas.Bool.{eqb-true, leb-true}
use Rattle.std.proofs.lemmas.Bool.Decides.{leb_tells}
use Rattle.std.proofs.lemmas.List.{length-map}
use Rattle.std.proofs.lemmas.List.FromFn.{length-range_with_len}
use Rattle.slnf_access.specs.declared.requests.Entry.{Entry}
use Rattle.slnf_run.specs.Setting.{Actor}
use Rattle.slnf_run.specs.Parts.{Offer, is_among, with_key, batched, offers_until, is_stopped, last_of, batch_of, taken_of}

-- the items of offers
abbrev pub items_of : List Offer → List ℕ
items_of offers = map (λ offer. offer.item) offers

-- one of these offers is of the item
abbrev pub has_item : ℕ → List Offer → Bool
has_item item offers = list_any (λ offer. offer.item == item) offers

-- batches rise from this number on
abbrev pub Rises : ℕ → List Offer → Type 0
Rises number [] = Unit {0}
Rises number (offer ∷ offers) = (number ≤ offer.batch) × Rises offer.batch offers

-- batches have all items, in order
pub items_batched : (limit : ℕ) (first : ℕ → Option ℕ) (number size : ℕ) (keys items : List ℕ) →
    items_of (batched limit first number size keys items) ≡ items
items_batched limit first number size keys [] = refl
items_batched limit first number size keys (item ∷ items) =
    go (nat_lt size limit && not (is_among (first item) keys))
    (items_batched limit first number (size + 1) (with_key (first item) keys) items)
    (items_batched limit first (number + 1) 1 (with_key (first item) []) items)
  where
    go : (b : Bool) → items_of (batched limit first number (size + 1) (with_key (first item) keys) items) ≡ items →
        items_of (batched limit first (number + 1) 1 (with_key (first item) []) items) ≡ items →
        items_of (cond b (record { item = item; batch = number } ∷ batched limit first number (size + 1)
        (with_key (first item) keys) items) (record { item = item; batch = number + 1 } ∷ batched limit first
        (number + 1) 1 (with_key (first item) []) items)) ≡ item ∷ items
    go true h k = ap (λ l. item ∷ l) h
    go false h k = ap (λ l. item ∷ l) k

pub rises_batched : (limit : ℕ) (first : ℕ → Option ℕ) (number size : ℕ) (keys items : List ℕ) →
    Rises number (batched limit first number size keys items)
rises_batched limit first number size keys [] = tt
rises_batched limit first number size keys (item ∷ items) =
    go (nat_lt size limit && not (is_among (first item) keys))
    (rises_batched limit first number (size + 1) (with_key (first item) keys) items)
    (rises_batched limit first (number + 1) 1 (with_key (first item) []) items)
  where
    go : (b : Bool) → Rises number (batched limit first number (size + 1) (with_key (first item) keys) items) →
        Rises (number + 1) (batched limit first (number + 1) 1 (with_key (first item) []) items) →
        Rises number (cond b (record { item = item; batch = number } ∷ batched limit first number (size + 1)
        (with_key (first item) keys) items) (record { item = item; batch = number + 1 } ∷ batched limit first
        (number + 1) 1 (with_key (first item) []) items))
    go true h k = (omega arith, h)
    go false h k = (omega arith, k)

-- no batch of these is at most one below their first
none_below : (n b : ℕ) (offers : List Offer) → Rises n offers → b < n → filter (λ offer. nat_le offer.batch b) offers
    ≡ []
none_below n b [] h l = refl
none_below n b (offer ∷ offers) h l =
    let k : n ≤ offer.batch = h.0 in
    go (nat_le offer.batch b) refl (none_below offer.batch b offers h.1 (omega arith))
  where
    go : (c : Bool) → nat_le offer.batch b ≡ c → filter (λ offer. nat_le offer.batch b) offers ≡ [] →
        cond c (offer ∷ filter (λ offer. nat_le offer.batch b) offers) (filter (λ offer. nat_le offer.batch b) offers)
        ≡ []
    go true w r = let k : n ≤ offer.batch = h.0 in let m : offer.batch ≤ b = leb-true offer.batch b w in
        absurd (omega arith)
    go false w r = r

-- those up to a batch are a front
pub front_until : (n b : ℕ) (offers : List Offer) → Rises n offers → (k : ℕ)
    × (filter (λ offer. nat_le offer.batch b) offers ≡ take k offers)
front_until n b [] h = (0, refl)
front_until n b (offer ∷ offers) h = elim (leb_tells offer.batch b) [
  | inl below ↦
      let r : (k : ℕ) × (filter (λ offer. nat_le offer.batch b) offers ≡ take k offers) =
      front_until offer.batch b offers h.1 in (
        suc r.0,
        ap (λ c. cond c (offer ∷ filter (λ offer. nat_le offer.batch b) offers)
            (filter (λ offer. nat_le offer.batch b) offers)) below.0 ∙ ap (λ l. offer ∷ l) r.1,
      )
  | inr above ↦ (
    0,
    ap (λ c. cond c (offer ∷ filter (λ offer. nat_le offer.batch b) offers)
        (filter (λ offer. nat_le offer.batch b) offers)) above.0 ∙ none_below offer.batch b offers h.1 above.1,
  )
]

take_all : {X : Type 0} (xs : List X) → xs ≡ take (length xs) xs
take_all [] = refl
take_all (x ∷ xs) = ap (λ l. x ∷ l) (take_all xs)

-- what an actor took of rising offers is a front
pub taken_front : (actor : Actor) (part : List Entry) (n : ℕ) (offers : List Offer) → Rises n offers → (k : ℕ)
    × (taken_of actor part offers ≡ take k offers)
taken_front actor part n offers h = go (is_stopped actor part) (last_of part)
  where
    go : (b : Bool) (last : Option Entry) → (k : ℕ) × (cond b (offers_until last offers) offers ≡ take k offers)
    go false last = (length offers, take_all offers)
    go true None = (0, refl)
    go true (Some e) = front_until n (batch_of e.item offers) offers h

items_of-take : (k : ℕ) (offers : List Offer) → items_of (take k offers) ≡ take k (items_of offers)
items_of-take zero offers = refl
items_of-take (suc k) [] = refl
items_of-take (suc k) (offer ∷ offers) = ap (λ l. offer.item ∷ l) (items_of-take k offers)

take_of_range : (k a n : ℕ) → (m : ℕ) × (take k (range_with_len a n) ≡ range_with_len a m)
take_of_range zero a n = (0, refl)
take_of_range (suc k) a zero = (0, refl)
take_of_range (suc k) a (suc n) =
    let r : (m : ℕ) × (take k (range_with_len (a + 1) n) ≡ range_with_len (a + 1) m) = take_of_range k (a + 1) n in
    (suc r.0, ap (λ l. a ∷ l) r.1)

-- what an actor took of batches of numbers in a row is as many of these
pub taken_range : (actor : Actor) (part : List Entry) (limit : ℕ) (first : ℕ → Option ℕ) (at n : ℕ) →
    items_of (taken_of actor part (batched limit first 0 0 [] (range_with_len at n)))
    ≡ range_with_len at (length (taken_of actor part (batched limit first 0 0 [] (range_with_len at n))))
taken_range actor part limit first at n =
    let offers : List Offer = batched limit first 0 0 [] (range_with_len at n) in
    let f : (k : ℕ) × (taken_of actor part offers ≡ take k offers) =
    taken_front actor part 0 offers (rises_batched limit first 0 0 [] (range_with_len at n)) in
    let r : (m : ℕ) × (take f.0 (range_with_len at n) ≡ range_with_len at m) = take_of_range f.0 at n in
    let items : items_of (taken_of actor part offers) ≡ range_with_len at r.0 =
    ap items_of f.1 ∙ items_of-take f.0 offers ∙ ap (take f.0)
    (items_batched limit first 0 0 [] (range_with_len at n)) ∙ r.1 in
    let size : length (taken_of actor part offers) ≡ r.0 =
    sym (length-map (taken_of actor part offers) (λ offer. offer.item)) ∙ ap length items
    ∙ length-range_with_len at r.0 in
    items ∙ ap (range_with_len at) (sym size)

-- an item is among these by its number alone
has_item-numbers : (item : ℕ) (offers : List Offer) → has_item item offers
    ≡ list_any (λ n. n == item) (items_of offers)
has_item-numbers item [] = refl
has_item-numbers item (offer ∷ offers) = ap (λ b. offer.item == item || b) (has_item-numbers item offers)

or_cases : (a b : Bool) → (a || b) ≡ true → (a ≡ true) ⊎ (b ≡ true)
or_cases true b h = inl refl
or_cases false b h = inr h

pub or_first : (a b : Bool) → a ≡ true → (a || b) ≡ true
or_first true b h = refl
or_first false b h = cc

pub or_second : (a b : Bool) → b ≡ true → (a || b) ≡ true
or_second true b h = refl
or_second false b h = h

in_range : (item a n : ℕ) → list_any (λ n. n == item) (range_with_len a n) ≡ true → (a ≤ item) × (item < a + n)
in_range item a zero h = cc
in_range item a (suc n) h = elim (or_cases (a == item) (list_any (λ n. n == item) (range_with_len (a + 1) n)) h) [
  | inl here ↦ let q : a ≡ item = eqb-true a item here in (omega arith, omega arith)
  | inr there ↦ let q : (a + 1 ≤ item) × (item < a + 1 + n) = in_range item (a + 1) n there in
      (omega arith, omega arith)
]

range_has : (item a n : ℕ) → a ≤ item → item < a + n → list_any (λ n. n == item) (range_with_len a n) ≡ true
range_has item a zero h k = absurd (omega arith)
range_has item a (suc n) h k = elim (leb_tells (suc a) item) [
  | inl more ↦ or_second (a == item) (list_any (λ n. n == item) (range_with_len (a + 1) n))
      (range_has item (a + 1) n (let l : suc a ≤ item = more.1 in omega arith) (omega arith))
  | inr less ↦ or_first (a == item) (list_any (λ n. n == item) (range_with_len (a + 1) n))
      (eq-eqb a item (let l : item < suc a = less.1 in omega arith))
]

-- an item is among offers of numbers in a row where it is in their range
pub has_in_range : (item a n : ℕ) (offers : List Offer) → items_of offers ≡ range_with_len a n → has_item item offers
    ≡ true → (a ≤ item) × (item < a + n)
has_in_range item a n offers h k = in_range item a n (ap (list_any (λ n. n == item)) (sym h)
    ∙ sym (has_item-numbers item offers) ∙ k)

pub range_has_item : (item a n : ℕ) (offers : List Offer) → items_of offers ≡ range_with_len a n → a ≤ item →
    item < a + n → has_item item offers ≡ true
range_has_item item a n offers h l m = has_item-numbers item offers ∙ ap (list_any (λ n. n == item)) h
    ∙ range_has item a n l m
