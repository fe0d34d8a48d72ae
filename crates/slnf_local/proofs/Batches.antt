-- The batch in hand, by where items stand.
use Rattle.std.proofs.Common.{◌≡◌, inl, inr, ℕ, ◌+◌, ◌<◌, ◌≤◌, min, Bool, true, false, ◌==◌, nat_lt, if◌then◌else◌, List, [], ◌∷◌, Option, Some, None, refl, sym, ap, ap₂, ◌∙◌, subst, eq-eqb, ne_eqb, arith}
use Rattle.std.specs.List.{AllByRecursion}
use Rattle.std.proofs.lemmas.Bool.{cases_eq, cases_lt, cond-true, cond-false, lt-ltb, le-ltb}
use Rattle.std.proofs.lemmas.Option.{same_Some, none-some}
use Rattle.slnf_access.specs.declared.requests.Entry.{Entry}
use Rattle.slnf_access.specs.Machines.{Machine, Stand, Flies, Ends, HasEnded, stand_step}
use Rattle.slnf_run.specs.Parts.{Offer, batch_of}
use Rattle.slnf_run.specs.Run.{IsOffered}
use Rattle.slnf_local.specs.Hands.{or_open, batch_in_hand, Item, items_of, items_in, stand_in, items_after, or_flies, some_fly, later_than}

-- items of earlier batches have ended
abbrev pub EndedBelow : {F : Type 0} → (ℕ → Stand F) → ℕ → Offer → Type 0
EndedBelow stand batch offer = offer.batch < batch → HasEnded (stand offer.item)

least_go : {F : Type 0} (stand : Stand F) (batch bound : ℕ) (others : Option ℕ) →
    ((c : ℕ) → or_open stand batch others ≡ Some c → bound ≤ c) →
    (batch < bound → HasEnded stand) × ((c : ℕ) → others ≡ Some c → bound ≤ c)
least_go (Ends verdict) batch bound others h = (λ l. tt, h)
least_go (Flies flight) batch bound None h =
    let k : bound ≤ batch = h batch refl in
    (λ l. omega arith, λ c q. absurd (none-some c q))
least_go (Flies flight) batch bound (Some d) h =
    let k : bound ≤ min batch d = h (min batch d) refl in
    (λ l. omega arith, λ c q. let e : d ≡ c = same_Some d c q in omega arith)

-- where no batch in hand is below this one, all items of batches below it have ended
pub ended_below : {F : Type 0} (stand : ℕ → Stand F) (bound : ℕ) (offers : List Offer) →
    ((c : ℕ) → batch_in_hand stand offers ≡ Some c → bound ≤ c) → AllByRecursion (EndedBelow stand bound) offers
ended_below stand bound [] h = tt
ended_below stand bound (offer ∷ offers) h =
    let p : (offer.batch < bound → HasEnded (stand offer.item))
    × ((c : ℕ) → batch_in_hand stand offers ≡ Some c → bound ≤ c) =
    least_go (stand offer.item) offer.batch bound (batch_in_hand stand offers) h in
    (p.0, ended_below stand bound offers p.1)

above_go : {F : Type 0} (stand : Stand F) (batch bound : ℕ) (others : Option ℕ) → (batch < bound → HasEnded stand) →
    ((c : ℕ) → others ≡ Some c → bound ≤ c) → (c : ℕ) → or_open stand batch others ≡ Some c → bound ≤ c
above_go (Ends verdict) batch bound others h k c q = k c q
above_go (Flies flight) batch bound None h k c q =
    let e : batch ≡ c = same_Some batch c q in
    elim (cases_lt batch bound) [ inl l ↦ absurd (h l) | inr l ↦ omega arith ]
above_go (Flies flight) batch bound (Some d) h k c q =
    let e : min batch d ≡ c = same_Some (min batch d) c q in
    let m : bound ≤ d = k d refl in
    elim (cases_lt batch bound) [ inl l ↦ absurd (h l) | inr l ↦ omega arith ]

-- where all items of batches below this one have ended, the batch in hand isn't below it
pub hand_above : {F : Type 0} (stand : ℕ → Stand F) (bound : ℕ) (offers : List Offer) →
    AllByRecursion (EndedBelow stand bound) offers → (c : ℕ) → batch_in_hand stand offers ≡ Some c → bound ≤ c
hand_above stand bound [] h c q = absurd (none-some c q)
hand_above stand bound (offer ∷ offers) h c q =
    above_go (stand offer.item) offer.batch bound (batch_in_hand stand offers) h.0
    (hand_above stand bound offers h.1) c q

-- a batch in hand at or below a bound
abbrev pub HasBatchWithin : Option ℕ → ℕ → Type 0
HasBatchWithin None bound = ⊥
HasBatchWithin (Some batch) bound = batch ≤ bound

within_open : {F : Type 0} (flight : F) (stand : Stand F) (batch : ℕ) (others : Option ℕ) → stand ≡ Flies flight →
    HasBatchWithin (or_open stand batch others) batch
within_open flight (Ends verdict) batch others q = absurd (cc)
within_open flight (Flies g) batch None q = omega arith
within_open flight (Flies g) batch (Some d) q = omega arith

within_others : {F : Type 0} (stand : Stand F) (batch bound : ℕ) (others : Option ℕ) → HasBatchWithin others bound →
    HasBatchWithin (or_open stand batch others) bound
within_others (Ends verdict) batch bound others h = h
within_others (Flies g) batch bound None h = absurd h
within_others (Flies g) batch bound (Some d) h = let l : d ≤ bound = h in omega arith

tail_offered : (item : ℕ) (offer : Offer) (offers : List Offer) →
    (offer.item ≡ item → ⊥) → IsOffered item (offer ∷ offers) → IsOffered item offers
tail_offered item offer offers n (inl q) = absurd (n q)
tail_offered item offer offers n (inr o) = o

pub batch_of-here : (item : ℕ) (offer : Offer) (offers : List Offer) → offer.item ≡ item →
    batch_of item (offer ∷ offers) ≡ offer.batch
batch_of-here item offer offers q =
    cond-true (offer.item == item) offer.batch (batch_of item offers) (eq-eqb offer.item item q)

pub batch_of-there : (item : ℕ) (offer : Offer) (offers : List Offer) →
    (offer.item ≡ item → ⊥) → batch_of item (offer ∷ offers) ≡ batch_of item offers
batch_of-there item offer offers n =
    cond-false (offer.item == item) offer.batch (batch_of item offers) (ne_eqb offer.item item n)

-- an offered item that flies has the batch in hand at or before its own
pub hand_within : {F : Type 0} (stand : ℕ → Stand F) (item : ℕ) (flight : F) (offers : List Offer) →
    IsOffered item offers → stand item ≡ Flies flight →
    HasBatchWithin (batch_in_hand stand offers) (batch_of item offers)
hand_within stand item flight [] o f = absurd o
hand_within stand item flight (offer ∷ offers) o f =
    elim (cases_eq offer.item item) [
      | inl q ↦
          subst (HasBatchWithin (batch_in_hand stand (offer ∷ offers))) (sym (batch_of-here item offer offers q))
          (within_open flight (stand offer.item) offer.batch (batch_in_hand stand offers) (ap stand q ∙ f))
      | inr n ↦
          subst (HasBatchWithin (batch_in_hand stand (offer ∷ offers))) (sym (batch_of-there item offer offers n))
          (within_others (stand offer.item) offer.batch (batch_of item offers) (batch_in_hand stand offers)
          (hand_within stand item flight offers (tail_offered item offer offers n o) f))
    ]

-- the batch in hand is that of an offered item that flies and all of whose earlier batches have ended
pub hand_is : {F : Type 0} (stand : ℕ → Stand F) (item : ℕ) (flight : F) (offers : List Offer) →
    IsOffered item offers → stand item ≡ Flies flight →
    AllByRecursion (EndedBelow stand (batch_of item offers)) offers →
    batch_in_hand stand offers ≡ Some (batch_of item offers)
hand_is stand item flight offers o f h = go (batch_in_hand stand offers) refl (hand_within stand item flight offers o f)
  where
    go : (batch : Option ℕ) → batch_in_hand stand offers ≡ batch → HasBatchWithin batch (batch_of item offers) →
        batch ≡ Some (batch_of item offers)
    go None q l = absurd l
    go (Some c) q l =
        let m : batch_of item offers ≤ c = hand_above stand (batch_of item offers) offers h c q in
        let k : c ≤ batch_of item offers = l in
        let e : c ≡ batch_of item offers = omega arith in
        ap Some e

items_of-here : {F : Type 0} (stand : ℕ → Stand F) (batch : ℕ) (offer : Offer) (offers : List Offer) →
    offer.batch ≡ batch → items_of stand batch (offer ∷ offers) ≡ record {
      number = offer.item;
      stand =
          stand offer.item;
    } ∷ items_of stand batch offers
items_of-here stand batch offer offers q = cond-true (offer.batch == batch) _ _ (eq-eqb offer.batch batch q)

items_of-there : {F : Type 0} (stand : ℕ → Stand F) (batch : ℕ) (offer : Offer) (offers : List Offer) →
    (offer.batch ≡ batch → ⊥) → items_of stand batch (offer ∷ offers) ≡ items_of stand batch offers
items_of-there stand batch offer offers n = cond-false (offer.batch == batch) _ _ (ne_eqb offer.batch batch n)

stand_in-here : {F : Type 0} (number : ℕ) (item : Item F) (items : List (Item F)) → item.number ≡ number →
    stand_in number (item ∷ items) ≡ Some item.stand
stand_in-here number item items q = cond-true (item.number == number) _ _ (eq-eqb item.number number q)

stand_in-there : {F : Type 0} (number : ℕ) (item : Item F) (items : List (Item F)) →
    (item.number ≡ number → ⊥) → stand_in number (item ∷ items) ≡ stand_in number items
stand_in-there number item items n = cond-false (item.number == number) _ _ (ne_eqb item.number number n)

-- an offered item of this batch is among its items
pub stand_in-batch : {F : Type 0} (stand : ℕ → Stand F) (item batch : ℕ) (offers : List Offer) →
    IsOffered item offers → batch_of item offers ≡ batch →
    stand_in item (items_of stand batch offers) ≡ Some (stand item)
stand_in-batch stand item batch [] o b = absurd o
stand_in-batch stand item batch (offer ∷ offers) o b =
    elim (cases_eq offer.item item) [
      | inl q ↦
          ap (stand_in item) (items_of-here stand batch offer offers (sym (batch_of-here item offer offers q) ∙ b))
          ∙ (stand_in-here item (record { number = offer.item; stand = stand offer.item })
          (items_of stand batch offers) q ∙ ap (λ n. Some (stand n)) q)
      | inr n ↦
          let rest : stand_in item (items_of stand batch offers) ≡ Some (stand item) =
          stand_in-batch stand item batch offers (tail_offered item offer offers n o)
          (sym (batch_of-there item offer offers n) ∙ b) in
          elim (cases_eq offer.batch batch) [
            | inl q ↦
                ap (stand_in item) (items_of-here stand batch offer offers q)
                ∙ (stand_in-there item (record { number = offer.item; stand = stand offer.item })
                (items_of stand batch offers) n ∙ rest)
            | inr m ↦ ap (stand_in item) (items_of-there stand batch offer offers m) ∙ rest
          ]
    ]

-- What it tells of an item that it is among a batch's.
pub record IsFound {F : Type 0} (stand : ℕ → Stand F) (item number : ℕ) (all offers : List Offer)
    (found : Stand F) : Type 0 where
  pub stands : found ≡ stand item
  pub batch : batch_of item all ≡ number
  pub offered : IsOffered item offers

found_later : {F : Type 0} (stand : ℕ → Stand F) (item batch : ℕ) (all offers : List Offer) (offer : Offer)
    (found : Stand F) → IsFound stand item batch all offers found → IsFound stand item batch all (offer ∷ offers) found
found_later stand item batch all offers offer found h =
    record { stands = h.stands; batch = h.batch; offered = inr h.offered }

-- an item among those of this batch is offered there
pub found_in_batch : {F : Type 0} (stand : ℕ → Stand F) (item number : ℕ) (all offers : List Offer)
    (found : Stand F) → AllByRecursion (λ offer. batch_of offer.item all ≡ offer.batch) offers →
    stand_in item (items_of stand number offers) ≡ Some found → IsFound stand item number all offers found
found_in_batch stand item number all [] found known h = absurd (none-some found h)
found_in_batch stand item number all (offer ∷ offers) found known h =
    elim (cases_eq offer.batch number) [
      | inr n ↦
          found_later stand item number all offers offer found
          (found_in_batch stand item number all offers found known.1
          (sym (ap (stand_in item) (items_of-there stand number offer offers n)) ∙ h))
      | inl b ↦
          let there : stand_in item
          (record { number = offer.item; stand = stand offer.item } ∷ items_of stand number offers) ≡ Some found =
          sym (ap (stand_in item) (items_of-here stand number offer offers b)) ∙ h in
          elim (cases_eq offer.item item) [
            | inl q ↦ record {
              stands = same_Some found (stand item) (sym there
                  ∙ (stand_in-here item (record { number = offer.item; stand = stand offer.item })
                  (items_of stand number offers) q ∙ ap (λ n. Some (stand n)) q));
              batch = ap (λ n. batch_of n all) (sym q) ∙ (known.0 ∙ b);
              offered = inl q;
            }
            | inr n ↦
                found_later stand item number all offers offer found
                (found_in_batch stand item number all offers found known.1
                (sym (stand_in-there item (record { number = offer.item; stand = stand offer.item })
                (items_of stand number offers) n) ∙ there))
          ]
    ]

-- each item has ended exactly where there is no batch in hand
pub no_batch_of_ended : {F : Type 0} (stand : ℕ → Stand F) (offers : List Offer) →
    AllByRecursion (λ offer. HasEnded (stand offer.item)) offers → batch_in_hand stand offers ≡ None
no_batch_of_ended stand [] h = refl
no_batch_of_ended {F = F} stand (offer ∷ offers) h = go (stand offer.item) h.0 (no_batch_of_ended stand offers h.1)
  where
    go : (st : Stand F) → HasEnded st → batch_in_hand stand offers ≡ None →
        or_open st offer.batch (batch_in_hand stand offers) ≡ None
    go (Flies flight) e q = absurd e
    go (Ends verdict) e q = q

ended_go : {F : Type 0} (stand : Stand F) (batch : ℕ) (others : Option ℕ) → or_open stand batch others ≡ None →
    HasEnded stand × (others ≡ None)
ended_go (Ends verdict) batch others h = (tt, h)
ended_go (Flies flight) batch None h = absurd (none-some batch (sym h))
ended_go (Flies flight) batch (Some d) h = absurd (none-some (min batch d) (sym h))

pub ended_of_no_batch : {F : Type 0} (stand : ℕ → Stand F) (offers : List Offer) →
    batch_in_hand stand offers ≡ None → AllByRecursion (λ offer. HasEnded (stand offer.item)) offers
ended_of_no_batch stand [] h = tt
ended_of_no_batch stand (offer ∷ offers) h =
    let p : HasEnded (stand offer.item) × (batch_in_hand stand offers ≡ None) =
    ended_go (stand offer.item) offer.batch (batch_in_hand stand offers) h in
    (p.0, ended_of_no_batch stand offers p.1)

-- How items stand when a batch is in hand: those of earlier batches have ended, and those of later ones stand as they
-- began.
pub record IsBeyond {F : Type 0} (stand begins : ℕ → Stand F) (batch : ℕ) (offer : Offer) : Type 0 where
  pub below : offer.batch < batch → HasEnded (stand offer.item)
  pub above : batch < offer.batch → stand offer.item ≡ begins offer.item

later_than-here : (batch : ℕ) (offer : Offer) (offers : List Offer) → batch < offer.batch →
    later_than batch (offer ∷ offers) ≡ offer ∷ later_than batch offers
later_than-here batch offer offers l = cond-true (nat_lt batch offer.batch) _ _ (lt-ltb batch offer.batch l)

later_than-there : (batch : ℕ) (offer : Offer) (offers : List Offer) → offer.batch ≤ batch →
    later_than batch (offer ∷ offers) ≡ later_than batch offers
later_than-there batch offer offers l = cond-false (nat_lt batch offer.batch) _ _ (le-ltb batch offer.batch l)

-- a batch in hand of later ones is later
pub later_is_above : {F : Type 0} (begins : ℕ → Stand F) (batch : ℕ) (offers : List Offer) (c : ℕ) →
    batch_in_hand begins (later_than batch offers) ≡ Some c → batch < c
later_is_above begins batch offers c q =
    let l : batch + 1 ≤ c = hand_above begins (batch + 1) (later_than batch offers) (every offers) c q in omega arith
  where
    every : (xs : List Offer) → AllByRecursion (EndedBelow begins (batch + 1)) (later_than batch xs)
    every [] = tt
    every (x ∷ xs) = elim (cases_lt batch x.batch) [
      | inl l ↦ subst (AllByRecursion (EndedBelow begins (batch + 1))) (sym (later_than-here batch x xs l))
          (λ m. absurd (omega arith), every xs)
      | inr l ↦ subst (AllByRecursion (EndedBelow begins (batch + 1))) (sym (later_than-there batch x xs l)) (every xs)
    ]

ended_is_none : {F : Type 0} (stand : Stand F) (batch : ℕ) (others : Option ℕ) → HasEnded stand →
    or_open stand batch others ≡ others
ended_is_none (Flies flight) batch others h = absurd h
ended_is_none (Ends verdict) batch others h = refl

in_batch : {F : Type 0} (stand : Stand F) (own batch : ℕ) (fly : Bool) (others : Option ℕ) → own ≡ batch →
    ((c : ℕ) → others ≡ Some c → batch < c) →
    or_open stand own (if fly then Some batch else others) ≡ (if or_flies stand fly then Some batch else others)
in_batch (Ends verdict) own batch fly others q h = refl
in_batch (Flies flight) own batch true others q h = let e : min own batch ≡ batch = omega arith in ap Some e
in_batch (Flies flight) own batch false None q h = ap Some q
in_batch (Flies flight) own batch false (Some c) q h =
    let l : batch < c = h c refl in
    let e : min own c ≡ batch = omega arith in
    ap Some e

beyond_batch : {F : Type 0} (stand : Stand F) (own batch : ℕ) (fly : Bool) (others : Option ℕ) → batch < own →
    or_open stand own (if fly then Some batch else others) ≡ (if fly then Some batch else or_open stand own others)
beyond_batch (Ends verdict) own batch true others l = refl
beyond_batch (Ends verdict) own batch false others l = refl
beyond_batch (Flies flight) own batch true others l = let e : min own batch ≡ batch = omega arith in ap Some e
beyond_batch (Flies flight) own batch false others l = refl

-- the batch stays in hand while one of its items flies, and then it is the next of which an item doesn't end at once
pub next_batch : {F : Type 0} (stand begins : ℕ → Stand F) (batch : ℕ) (offers : List Offer) →
    AllByRecursion (IsBeyond stand begins batch) offers →
    batch_in_hand stand offers
    ≡ (if some_fly (items_of stand batch offers) then Some batch else batch_in_hand begins (later_than batch offers))
next_batch stand begins batch [] h = refl
next_batch stand begins batch (offer ∷ offers) h =
    let fly : Bool = some_fly (items_of stand batch offers) in
    let later : Option ℕ = batch_in_hand begins (later_than batch offers) in
    let rest : batch_in_hand stand offers ≡ (if fly then Some batch else later) =
    next_batch stand begins batch offers h.1 in
    elim (cases_eq offer.batch batch) [
      | inl q ↦
          ap (or_open (stand offer.item) offer.batch) rest
          ∙ (in_batch (stand offer.item) offer.batch batch fly later q (later_is_above begins batch offers)
          ∙ ap₂ (λ items ls. if some_fly items then Some batch else batch_in_hand begins ls)
          (sym (items_of-here stand batch offer offers q))
          (sym (later_than-there batch offer offers (omega arith))))
      | inr n ↦ elim (cases_lt batch offer.batch) [
        | inl l ↦
            ap (or_open (stand offer.item) offer.batch) rest
            ∙ (ap (λ st. or_open st offer.batch (if fly then Some batch else later)) (h.0.above l)
            ∙ (beyond_batch (begins offer.item) offer.batch batch fly later l
            ∙ ap₂ (λ items ls. if some_fly items then Some batch else batch_in_hand begins ls)
            (sym (items_of-there stand batch offer offers n)) (sym (later_than-here batch offer offers l))))
        | inr l ↦
            ended_is_none (stand offer.item) offer.batch (batch_in_hand stand offers) (h.0.below (omega arith))
            ∙ (rest
            ∙ ap₂ (λ items ls. if some_fly items then Some batch else batch_in_hand begins ls)
            (sym (items_of-there stand batch offer offers n)) (sym (later_than-there batch offer offers l)))
      ]
    ]

-- the items of a later batch stand as they began
pub later_items : {F : Type 0} (stand begins : ℕ → Stand F) (batch : ℕ) (next : Option ℕ) (offers : List Offer) →
    AllByRecursion (IsBeyond stand begins batch) offers →
    ((c : ℕ) → next ≡ Some c → batch < c) → items_in stand next offers ≡ items_in begins next offers
later_items stand begins batch None offers h l = refl
later_items stand begins batch (Some c) offers h l = go offers h
  where
    above : batch < c
    above = l c refl

    go : (xs : List Offer) → AllByRecursion (IsBeyond stand begins batch) xs →
        items_of stand c xs ≡ items_of begins c xs
    go [] k = refl
    go (x ∷ xs) k = elim (cases_eq x.batch c) [
      | inl q ↦
          items_of-here stand c x xs q
          ∙ (ap₂ (λ st items. record { number = x.item; stand = st } ∷ items)
          (k.0.above (let m : batch < c = above in omega arith)) (go xs k.1)
          ∙ sym (items_of-here begins c x xs q))
      | inr n ↦ items_of-there stand c x xs n ∙ (go xs k.1 ∙ sym (items_of-there begins c x xs n))
    ]

-- the items of a batch after one more entry
pub items_step : {F : Type 0} (machine : Machine F) (old new : ℕ → Stand F) (e : Entry) (batch : ℕ)
    (offers : List Offer) → ((item : ℕ) → new item
    ≡ (if e.item == item then stand_step machine (old item) e else old item)) → items_of new batch offers
    ≡ items_after machine e (items_of old batch offers)
items_step machine old new e batch [] h = refl
items_step {F = F} machine old new e batch (offer ∷ offers) h =
    elim (cases_eq offer.batch batch) [
      | inr n ↦
          items_of-there new batch offer offers n
          ∙ (items_step machine old new e batch offers h
          ∙ ap (items_after machine e) (sym (items_of-there old batch offer offers n)))
      | inl q ↦
          items_of-here new batch offer offers q
          ∙ (ap₂ (λ item items. item ∷ items) (go (e.item == offer.item) (h offer.item))
          (items_step machine old new e batch offers h)
          ∙ ap (items_after machine e) (sym (items_of-here old batch offer offers q)))
    ]
  where
    at : Stand F → Item F
    at st = record { number = offer.item; stand = st }

    go : (c : Bool) → new offer.item ≡ (if c then stand_step machine (old offer.item) e else old offer.item) →
        at (new offer.item) ≡ (if c then at (stand_step machine (old offer.item) e) else at (old offer.item))
    go true w = ap at w
    go false w = ap at w
