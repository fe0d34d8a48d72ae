-- Offers are batches cut one after another.
use Rattle.std.proofs.Common.{◌≡◌, ℕ, suc, ◌+◌, ◌-◌, ◌<◌, ◌≤◌, Bool, true, false, cond, filter, map, le_refl, le_of_lt, ◌==◌, nat_lt, nat_le, if◌then◌else◌, List, [], ◌∷◌, ◌++◌, Option, Some, None, length, refl, sym, ap, ap₂, ◌∙◌, subst, arith, eq-eqb, ne_eqb, append_assoc, append-nil, length-append, slice_index}
use Rattle.std.specs.List.{AllByRecursion}
use Rattle.std.specs.List.{range_with_len}
use Rattle.std.proofs.lemmas.Bool.{cond-true, cond-false, lt-ltb, le-ltb, le-leb}
use Rattle.std.proofs.lemmas.List.Elements.{filter-append}
use Rattle.std.proofs.lemmas.Bool.Decides.{nat_tests}
use Rattle.slnf_access.specs.Machines.{Stand}
use Rattle.slnf_run.specs.Setting.{Actor, Setting}
use Rattle.slnf_run.specs.Parts.{Offer, batched, within_quota, first_key_of, offers_of}
use Rattle.slnf_access.proofs.Elements.{each-weaker}
use Rattle.slnf_local.specs.Hands.{batch_in_hand, Item, items_of, some_fly, later_than, up_to}
use Rattle.slnf_run.specs.Jobs.{joining, one_batch}
use Rattle.slnf_run.proofs.Batches.{batched_joining, batched_from}
use Rattle.slnf_local.specs.Cuts.{items_at, IsDealt}
use Rattle.std.proofs.lemmas.List.FromFn.{length-range_with_len}
use Rattle.slnf_local.proofs.Batches.{IsBeyond, next_batch}

filter_all : {X : Type 0} (test : X → Bool) (xs : List X) → AllByRecursion (λ x. test x ≡ true) xs →
    filter test xs ≡ xs
filter_all test [] h = refl
filter_all test (x ∷ xs) h =
    cond-true (test x) (x ∷ filter test xs) (filter test xs) h.0 ∙ ap (λ l. x ∷ l) (filter_all test xs h.1)

filter_none : {X : Type 0} (test : X → Bool) (xs : List X) → AllByRecursion (λ x. test x ≡ false) xs →
    filter test xs ≡ []
filter_none test [] h = refl
filter_none test (x ∷ xs) h =
    cond-false (test x) (x ∷ filter test xs) (filter test xs) h.0 ∙ filter_none test xs h.1

-- what a test of batches' numbers keeps of earlier batches, one batch, and later ones
filter_cut : (test : Offer → Bool) (earlier batch later before here behind : List Offer) →
    filter test earlier ≡ before → filter test batch ≡ here → filter test later ≡ behind →
    filter test (earlier ++ (batch ++ later)) ≡ before ++ (here ++ behind)
filter_cut test earlier batch later before here behind p q r =
    filter-append test earlier (batch ++ later)
    ∙ ap₂ (λ xs ys. xs ++ ys) p (filter-append test batch later ∙ ap₂ (λ xs ys. xs ++ ys) q r)

-- each offer of a batch has its number
in_batch : (P : ℕ → Type 0) (number : ℕ) (items : List ℕ) → P number →
    AllByRecursion (λ offer. P offer.batch) (one_batch number items)
in_batch P number [] h = tt
in_batch P number (item ∷ items) h = (h, in_batch P number items h)

not_up_to : (batch number : ℕ) → number + 1 ≤ batch → nat_le batch number ≡ false
not_up_to batch number l = grind (arith, nat_tests)

-- The offers are those of earlier batches, one batch, and those of later ones.
abbrev AreEarlier : ℕ → List Offer → Type 0
AreEarlier number offers = AllByRecursion (λ offer. offer.batch < number) offers

abbrev AreLater : ℕ → List Offer → Type 0
AreLater number offers = AllByRecursion (λ offer. number + 1 ≤ offer.batch) offers

-- those of later batches
later_cut : (number : ℕ) (earlier : List Offer) (items : List ℕ) (later : List Offer) → AreEarlier number earlier →
    AreLater number later → later_than number (earlier ++ (one_batch number items ++ later)) ≡ later
later_cut number earlier items later k h =
    filter_cut (λ offer. nat_lt number offer.batch) earlier (one_batch number items) later [] [] later
    (filter_none (λ offer. nat_lt number offer.batch) earlier
    (each-weaker (λ offer. offer.batch < number) (λ offer. nat_lt number offer.batch ≡ false)
    (λ offer l. le-ltb number offer.batch (le_of_lt l)) earlier k))
    (filter_none (λ offer. nat_lt number offer.batch) (one_batch number items)
    (in_batch (λ batch. nat_lt number batch ≡ false) number items (le-ltb number number (le_refl number))))
    (filter_all (λ offer. nat_lt number offer.batch) later
    (each-weaker (λ offer. number + 1 ≤ offer.batch) (λ offer. nat_lt number offer.batch ≡ true)
    (λ offer l. lt-ltb number offer.batch (lt_of number offer.batch l)) later h))
  where
    lt_of : (m n : ℕ) → m + 1 ≤ n → m < n
    lt_of m n l = omega arith

-- those up to a batch
up_to_cut : (number : ℕ) (earlier : List Offer) (items : List ℕ) (later : List Offer) → AreEarlier number earlier →
    AreLater number later →
    up_to number (earlier ++ (one_batch number items ++ later)) ≡ earlier ++ one_batch number items
up_to_cut number earlier items later k h =
    filter_cut (λ offer. nat_le offer.batch number) earlier (one_batch number items) later earlier
    (one_batch number items) []
    (filter_all (λ offer. nat_le offer.batch number) earlier
    (each-weaker (λ offer. offer.batch < number) (λ offer. nat_le offer.batch number ≡ true)
    (λ offer l. le-leb offer.batch number (le_of_lt l)) earlier k))
    (filter_all (λ offer. nat_le offer.batch number) (one_batch number items)
    (in_batch (λ batch. nat_le batch number ≡ true) number items (le-leb number number (le_refl number))))
    (filter_none (λ offer. nat_le offer.batch number) later
    (each-weaker (λ offer. number + 1 ≤ offer.batch) (λ offer. nat_le offer.batch number ≡ false)
    (λ offer l. not_up_to offer.batch number l) later h))
    ∙ ap (λ l. earlier ++ l) (append-nil (one_batch number items))

-- an offer's item, where it stands so
abbrev item_at : {F : Type 0} → (ℕ → Stand F) → Offer → Item F
item_at stand offer = record { number = offer.item; stand = stand offer.item }

items_are : {F : Type 0} (stand : ℕ → Stand F) (number : ℕ) (offers : List Offer) →
    items_of stand number offers ≡ map (item_at stand) (filter (λ offer. offer.batch == number) offers)
items_are stand number [] = refl
items_are {F = F} stand number (offer ∷ offers) = go (offer.batch == number) (items_are stand number offers)
  where
    kept : List Offer
    kept = filter (λ offer. offer.batch == number) offers

    go : (b : Bool) → items_of stand number offers ≡ map (item_at stand) kept →
        (if b then item_at stand offer ∷ items_of stand number offers else items_of stand number offers)
        ≡ map (item_at stand) (cond b (offer ∷ kept) kept)
    go true h = ap (λ l. item_at stand offer ∷ l) h
    go false h = h

items_of_batch : {F : Type 0} (stand : ℕ → Stand F) (number : ℕ) (items : List ℕ) →
    map (item_at stand) (one_batch number items) ≡ items_at stand items
items_of_batch stand number [] = refl
items_of_batch stand number (item ∷ items) =
    ap (λ l. record { number = item; stand = stand item } ∷ l) (items_of_batch stand number items)

-- the items of a batch
items_cut : {F : Type 0} (stand : ℕ → Stand F) (number : ℕ) (earlier : List Offer) (items : List ℕ)
    (later : List Offer) → AreEarlier number earlier → AreLater number later →
    items_of stand number (earlier ++ (one_batch number items ++ later)) ≡ items_at stand items
items_cut stand number earlier items later k h =
    items_are stand number (earlier ++ (one_batch number items ++ later))
    ∙ (ap (map (item_at stand))
    (filter_cut (λ offer. offer.batch == number) earlier (one_batch number items) later [] (one_batch number items) []
    (filter_none (λ offer. offer.batch == number) earlier
    (each-weaker (λ offer. offer.batch < number) (λ offer. (offer.batch == number) ≡ false)
    (λ offer l. ne_eqb offer.batch number (below offer.batch number l)) earlier k))
    (filter_all (λ offer. offer.batch == number) (one_batch number items)
    (in_batch (λ batch. (batch == number) ≡ true) number items (eq-eqb number number refl)))
    (filter_none (λ offer. offer.batch == number) later
    (each-weaker (λ offer. number + 1 ≤ offer.batch) (λ offer. (offer.batch == number) ≡ false)
    (λ offer l. ne_eqb offer.batch number (above offer.batch number l)) later h))
    ∙ append-nil (one_batch number items))
    ∙ items_of_batch stand number items)
  where
    below : (m n : ℕ) → m < n → m ≡ n → ⊥
    below m n l q = omega arith

    above : (m n : ℕ) → n + 1 ≤ m → m ≡ n → ⊥
    above m n l q = omega arith

-- the next batch in hand of what is left: the one that is cut, unless each of its items ends at once
pub next_cut : {F : Type 0} (begins : ℕ → Stand F) (limit : ℕ) (first : ℕ → Option ℕ) (number a n c : ℕ) →
    0 < limit → c ≡ joining limit first 0 [] (range_with_len a n) →
    batch_in_hand begins (batched limit first number 0 [] (range_with_len a n))
    ≡ (if some_fly (items_at begins (range_with_len a c)) then Some number else batch_in_hand begins
    (batched limit first (number + 1) 0 [] (range_with_len (a + c) (n - c))))
next_cut begins limit first number a n c l w =
    let later : List Offer = batched limit first (number + 1) 0 [] (range_with_len (a + c) (n - c)) in
    let offers : List Offer = one_batch number (range_with_len a c) ++ later in
    let split : batched limit first number 0 [] (range_with_len a n) ≡ offers =
    batched_joining limit first number 0 [] a n c l w in
    let above : AllByRecursion (λ offer. number + 1 ≤ offer.batch) later =
    batched_from limit first (number + 1) 0 [] (range_with_len (a + c) (n - c)) in
    ap (batch_in_hand begins) split
    ∙ (next_batch begins begins number offers
    (each-weaker (λ offer. number ≤ offer.batch) (IsBeyond begins begins number)
    (λ offer m. record { below = λ k. absurd (clash offer.batch number m k); above = λ k. refl }) offers
    (subst (AllByRecursion (λ offer. number ≤ offer.batch)) split
    (batched_from limit first number 0 [] (range_with_len a n))))
    ∙ ap₂ (λ items ls. if some_fly items then Some number else batch_in_hand begins ls)
    (items_cut begins number [] (range_with_len a c) later tt above)
    (later_cut number [] (range_with_len a c) later tt above))
  where
    clash : (b m : ℕ) → m ≤ b → b < m → ⊥
    clash b m l k = omega arith

-- before the first batch
pub dealt_first : (limit : ℕ) (first : ℕ → Option ℕ) (at n : ℕ) →
    IsDealt (batched limit first 0 0 [] (range_with_len at n)) limit first at 0 at n
dealt_first limit first at n = record { earlier = []; whole = refl; below = tt; place = omega arith }

one_batch_below : (number : ℕ) (earlier : List Offer) (items : List ℕ) →
    AllByRecursion (λ offer. offer.batch < number) earlier →
    AllByRecursion (λ offer. offer.batch < number + 1) (earlier ++ one_batch number items)
one_batch_below number [] [] h = tt
one_batch_below number [] (item ∷ items) h = (omega arith, one_batch_below number [] items tt)
one_batch_below number (x ∷ earlier) items h =
    let l : x.batch < number = h.0 in (omega arith, one_batch_below number earlier items h.1)

length-one_batch : (number : ℕ) (items : List ℕ) → length (one_batch number items) ≡ length items
length-one_batch number [] = refl
length-one_batch number (item ∷ items) = ap suc (length-one_batch number items)

-- What one cut tells: the batch's items, how many offers there are up to it, those of later batches, and what is left.
pub record IsCutOff (F : Type 0) (offers : List Offer) (limit : ℕ) (first : ℕ → Option ℕ)
    (at number from left c : ℕ) : Type 1 where
  pub items : (stand : ℕ → Stand F) → items_of stand number offers ≡ items_at stand (range_with_len from c)
  pub through : at + length (up_to number offers) ≡ from + c
  pub later : later_than number offers ≡ batched limit first (number + 1) 0 [] (range_with_len (from + c) (left - c))
  pub rest : IsDealt offers limit first at (number + 1) (from + c) (left - c)

pub cut_off : (F : Type 0) (offers : List Offer) (limit : ℕ) (first : ℕ → Option ℕ) (at number from left c : ℕ) →
    0 < limit → c ≡ joining limit first 0 [] (range_with_len from left) →
    IsDealt offers limit first at number from left → IsCutOff F offers limit first at number from left c
cut_off F offers limit first at number from left c l w h = record {
  items = λ stand. ap (items_of stand number) split ∙ items_cut stand number h.earlier own later h.below above;
  through =
      ap (λ n. at + n) (ap (λ xs. length (up_to number xs)) split
      ∙ (ap length (up_to_cut number h.earlier own later h.below above) ∙ count))
      ∙ sum (length h.earlier) h.place;
  later = ap (later_than number) split ∙ later_cut number h.earlier own later h.below above;
  rest = record {
    earlier = h.earlier ++ one_batch number own;
    whole = split ∙ sym (append_assoc h.earlier (one_batch number own) later);
    below = one_batch_below number h.earlier own h.below;
    place = sym (ap (λ n. at + n) count ∙ sum (length h.earlier) h.place);
  };
}
  where
    own : List ℕ
    own = range_with_len from c

    later : List Offer
    later = batched limit first (number + 1) 0 [] (range_with_len (from + c) (left - c))

    split : offers ≡ h.earlier ++ (one_batch number own ++ later)
    split = h.whole ∙ ap (λ xs. h.earlier ++ xs) (batched_joining limit first number 0 [] from left c l w)

    above : AllByRecursion (λ offer. number + 1 ≤ offer.batch) later
    above = batched_from limit first (number + 1) 0 [] (range_with_len (from + c) (left - c))

    count : length (h.earlier ++ one_batch number own) ≡ length h.earlier + c
    count = length-append h.earlier (one_batch number own)
        ∙ ap (λ n. length h.earlier + n) (length-one_batch number own ∙ length-range_with_len from c)

    sum : (n : ℕ) → from ≡ at + n → at + (n + c) ≡ from + c
    sum n q = omega arith

-- the offers of an instance, and of a sweep, before their first batch
pub dealt_of_lane : {F A : Type 0} (s : Setting F A) (incarnation at lane : ℕ) (actor : Actor) →
    actor.lane ≡ Some lane → IsDealt (offers_of s incarnation at actor) s.batch
    (λ item. first_key_of (s.scene.machine incarnation) (s.scene.begins incarnation item)) at 0 at
    (within_quota actor.quota (slice_index s.lanes lane - at))
dealt_of_lane s incarnation at lane actor h =
    subst (λ offers. IsDealt offers s.batch
    (λ item. first_key_of (s.scene.machine incarnation) (s.scene.begins incarnation item)) at 0 at
    (within_quota actor.quota (slice_index s.lanes lane - at)))
    (sym (ap (λ l. offers_of s incarnation at (record { lane = l; quota = actor.quota; stop = actor.stop })) h))
    (dealt_first s.batch (λ item. first_key_of (s.scene.machine incarnation) (s.scene.begins incarnation item)) at
    (within_quota actor.quota (slice_index s.lanes lane - at)))

pub dealt_of_sweep : {F A : Type 0} (s : Setting F A) (incarnation at : ℕ) (actor : Actor) → actor.lane ≡ None →
    IsDealt (offers_of s incarnation at actor) 1
    (λ item. first_key_of (s.scene.machine incarnation) (s.scene.begins incarnation item)) 0 0 0 s.sweep_items
dealt_of_sweep s incarnation at actor h =
    subst (λ offers. IsDealt offers 1
    (λ item. first_key_of (s.scene.machine incarnation) (s.scene.begins incarnation item)) 0 0 0 s.sweep_items)
    (sym (ap (λ l. offers_of s incarnation at (record { lane = l; quota = actor.quota; stop = actor.stop })) h))
    (dealt_first 1 (λ item. first_key_of (s.scene.machine incarnation) (s.scene.begins incarnation item)) 0
    s.sweep_items)
