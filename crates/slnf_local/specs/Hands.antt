-- What one who follows a list of entries keeps of an actor: its hand.
use Rattle.std.specs.Prelude.{◌≡◌, ℕ, ◌+◌, min, Bool, true, false, ◌==◌, nat_lt, nat_le, if◌then◌else◌, Option, Some, None, List, [], ◌∷◌, length, filter}
use Rattle.slnf_access.specs.declared.requests.Entry.{Entry}
use Rattle.slnf_access.specs.Machines.{Machine, Stand, Flies, Ends, stand_step, IsAsked}
use Rattle.slnf_run.specs.Setting.{Actor, Setting}
use Rattle.slnf_run.specs.Scene.{stand_of}
use Rattle.slnf_run.specs.Jobs.{is_stop}
use Rattle.slnf_run.specs.Parts.{part_of, Offer, last_of, offers_until, Post, offers_at}

-- the batch, unless another one comes first
abbrev pub or_sooner : ℕ → Option ℕ → Option ℕ
or_sooner batch None = Some batch
or_sooner batch (Some other) = Some (min batch other)

-- the first of these batches, and an item's where it hasn't ended
abbrev pub or_open : {F : Type 0} → Stand F → ℕ → Option ℕ → Option ℕ
or_open (Flies flight) batch others = or_sooner batch others
or_open (Ends verdict) batch others = others

-- the batch in hand where items stand so: the first of which an item hasn't ended
abbrev pub batch_in_hand : {F : Type 0} → (ℕ → Stand F) → List Offer → Option ℕ
batch_in_hand stand [] = None
batch_in_hand stand (offer ∷ offers) = or_open (stand offer.item) offer.batch (batch_in_hand stand offers)

-- An item of the batch in hand, and where it stands.
pub record Item (F : Type 0) : Type 0 where
  pub number : ℕ
  pub stand : Stand F

-- the items of a batch
abbrev pub items_of : {F : Type 0} → (ℕ → Stand F) → ℕ → List Offer → List (Item F)
items_of stand batch [] = []
items_of stand batch (offer ∷ offers) =
    if offer.batch == batch
    then record { number = offer.item; stand = stand offer.item } ∷ items_of stand batch offers
    else items_of stand batch offers

-- the items of the batch in hand, if there is one
abbrev pub items_in : {F : Type 0} → (ℕ → Stand F) → Option ℕ → List Offer → List (Item F)
items_in stand None offers = []
items_in stand (Some batch) offers = items_of stand batch offers

-- An actor's hand: how many entries it has made, how many offers there are up to the batch of its last entry, its
-- batch in hand, and where the items of that batch stand.
pub record Hand (F : Type 0) : Type 0 where
  pub made : ℕ
  pub through : ℕ
  pub batch : Option ℕ
  pub items : List (Item F)

-- a hand with this batch
abbrev pub hand_at : {F : Type 0} → (ℕ → Stand F) → List Offer → ℕ → ℕ → Option ℕ → Hand F
hand_at stand offers made through batch =
    record { made = made; through = through; batch = batch; items = items_in stand batch offers }

-- the hand of the incarnation at this post, after these entries
abbrev pub hand_of : {F A : Type 0} → Setting F A → List Entry → ℕ → Post → Hand F
hand_of s es incarnation post =
    hand_at (λ item. stand_of s.scene incarnation item es) (offers_at s incarnation post)
    (length (part_of incarnation es))
    (length (offers_until (last_of (part_of incarnation es)) (offers_at s incarnation post)))
    (batch_in_hand (λ item. stand_of s.scene incarnation item es) (offers_at s incarnation post))

-- where an item of these stands
abbrev pub stand_in : {F : Type 0} → ℕ → List (Item F) → Option (Stand F)
stand_in number [] = None
stand_in number (item ∷ items) = if item.number == number then Some item.stand else stand_in number items

-- the entry is asked where the item stands so
abbrev pub IsAskedIn : {F : Type 0} → Machine F → Option (Stand F) → Entry → Type 0
IsAskedIn machine None e = ⊥
IsAskedIn machine (Some stand) e = IsAsked machine stand e

-- there is no batch
abbrev pub is_no_batch : Option ℕ → Bool
is_no_batch None = true
is_no_batch (Some batch) = false

-- the actor with this hand has ended
abbrev pub hand_is_over : {F : Type 0} → Actor → Hand F → Bool
hand_is_over actor hand = if is_stop actor.stop hand.made then true else is_no_batch hand.batch

-- how many offers the actor with this hand took, if it has ended
abbrev pub taken_by : {F : Type 0} → Actor → Hand F → List Offer → ℕ
taken_by actor hand offers = if is_stop actor.stop hand.made then hand.through else length offers

-- the entry is expected of the actor with this hand
abbrev pub HandExpects : {F : Type 0} → Machine F → Actor → Hand F → Entry → Type 0
HandExpects machine actor hand e =
    (is_stop actor.stop hand.made ≡ false) × IsAskedIn machine (stand_in e.item hand.items) e

-- the items after an entry of one of them
abbrev pub items_after : {F : Type 0} → Machine F → Entry → List (Item F) → List (Item F)
items_after machine e [] = []
items_after machine e (item ∷ items) =
    (if e.item == item.number then record { number = item.number; stand = stand_step machine item.stand e } else item)
    ∷ items_after machine e items

-- an item that flies on, or one of these
abbrev pub or_flies : {F : Type 0} → Stand F → Bool → Bool
or_flies (Flies flight) others = true
or_flies (Ends verdict) others = others

abbrev pub some_fly : {F : Type 0} → List (Item F) → Bool
some_fly [] = false
some_fly (item ∷ items) = or_flies item.stand (some_fly items)

-- the offers of later batches, and those up to a batch
abbrev pub later_than : ℕ → List Offer → List Offer
later_than batch offers = filter (λ offer. nat_lt batch offer.batch) offers

abbrev pub up_to : ℕ → List Offer → List Offer
up_to batch offers = filter (λ offer. nat_le offer.batch batch) offers

-- the hand with these items of its batch, or with the next batch of which an item doesn't end at once
abbrev pub hand_with : {F : Type 0} → (ℕ → Stand F) → List Offer → ℕ → ℕ → List (Item F) → Hand F
hand_with begins offers made batch items =
    if some_fly items
    then record { made = made; through = length (up_to batch offers); batch = Some batch; items = items }
    else hand_at begins offers made (length (up_to batch offers)) (batch_in_hand begins (later_than batch offers))

-- the hand after one more entry, by the batch in hand; without one there is none
abbrev pub hand_go : {F : Type 0} → (ℕ → Stand F) → List Offer → Hand F → List (Item F) → Option ℕ → Hand F
hand_go begins offers hand items None = hand
hand_go begins offers hand items (Some batch) = hand_with begins offers (hand.made + 1) batch items

-- the hand after an entry that is expected
abbrev pub hand_after : {F : Type 0} → Machine F → (ℕ → Stand F) → List Offer → Hand F → Entry → Hand F
hand_after machine begins offers hand e = hand_go begins offers hand (items_after machine e hand.items) hand.batch

-- the hand before any entry
abbrev pub hand_first : {F : Type 0} → (ℕ → Stand F) → List Offer → Hand F
hand_first begins offers = hand_at begins offers 0 0 (batch_in_hand begins offers)
