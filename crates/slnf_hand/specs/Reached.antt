-- How far an actor has come whose entries are followed, and the hand of a follower that this stands for.
use Rattle.std.specs.Prelude.{◌≡◌, ◌⊎◌, ℕ, ◌+◌, ◌-◌, Bool, true, false, ◌||◌, nat_lt, nat_le, if◌then◌else◌, IsTrue, Option, Some, None, List, [], ◌∷◌, length}
use Rattle.std.specs.List.{range_with_len}
use Rattle.slnf_access.specs.declared.requests.Entry.{Entry}
use Rattle.slnf_access.specs.declared.requests.Request.{Request}
use Rattle.slnf_run.specs.Jobs.{Offer, batched, joining, Job, first_in, offers_in, is_stop}
use Rattle.slnf_instance.specs.Works.{flight_at, flights_at}
use Rattle.slnf_instance.specs.Hands.{is_spent, one_less}
use Rattle.slnf_local.specs.Hands.{Hand as Held, Item, batch_in_hand, items_in, up_to, later_than, stand_in, IsAskedIn, is_no_batch, some_fly as items_fly}
use Rattle.slnf_local.specs.Cuts.{IsDealt}

-- How far an actor has come: how many entries are left up to its stop, if it has one, the item behind the batch of its
-- last entry, the first item of its batch in hand, and the flights of that batch's items.
pub record Reached (F : Type 0) : Type 0 where
  pub left : Option ℕ
  pub through : ℕ
  pub from : ℕ
  pub flights : List (Option F)

-- what the actor is offered from this batch and this item on
abbrev pub offers_from : {F : Type 0} → Job F → ℕ → ℕ → ℕ → List Offer
offers_from job number from left = batched job.batch (first_in job) number 0 [] (range_with_len from left)

-- an item of these flies
abbrev pub some_fly : {F : Type 0} → List (Option F) → Bool
some_fly [] = false
some_fly (None ∷ flights) = some_fly flights
some_fly (Some flight ∷ flights) = true

-- the place of an item among so many from this one on
abbrev pub place_in : ℕ → ℕ → ℕ → Option ℕ
place_in from count item =
    if nat_lt item from || nat_le count (item - from) then None else Some (item - from)

-- an item flies, and asks for this
abbrev pub AsksFor : {F : Type 0} → (F → Request) → Option F → Request → Type 0
AsksFor asks None request = ⊥
AsksFor asks (Some flight) request = request ≡ asks flight

-- The next batch is in hand.
pub record IsTaken {F : Type 0} (job : Job F) (old new : Reached F) : Type 0 where
  pub from : new.from ≡ old.from + length old.flights
  pub size : length new.flights
      ≡ joining job.batch (first_in job) 0 [] (range_with_len new.from (job.at + job.count - new.from))
  pub flights : new.flights ≡ flights_at job.begins new.from (length new.flights)

-- these flights are those of the items, which are numbered from this one on
abbrev pub AreItems : {F : Type 0} → ℕ → List (Item F) → List (Option F) → Type 0
AreItems from [] [] = Unit {0}
AreItems from [] (flight ∷ flights) = ⊥
AreItems from (item ∷ items) [] = ⊥
AreItems from (item ∷ items) (flight ∷ flights) =
    (item.number ≡ from) × (flight ≡ flight_at item.stand) × AreItems (from + 1) items flights

-- so many entries are left up to the stop, if there is one
abbrev pub IsLeft : Option ℕ → Option ℕ → ℕ → Type 0
IsLeft None None made = Unit {0}
IsLeft None (Some left) made = ⊥
IsLeft (Some stop) None made = ⊥
IsLeft (Some stop) (Some left) made = left + made ≡ stop

-- where the items behind the batch in reached begin
abbrev pub end_of : {F : Type 0} → Reached F → ℕ
end_of reached = reached.from + length reached.flights

-- The offers of batches before this number are behind, and from here on they are to be dealt.
abbrev pub IsDealtTo : {F : Type 0} → Job F → ℕ → ℕ → Type 0
IsDealtTo job number from =
    IsDealt (offers_in job) job.batch (first_in job) job.at number from (job.at + job.count - from)

-- The batch in reached is this one, with these items of which one flies, and the batches behind it are to be dealt.
pub record IsFlying {F : Type 0} (job : Job F) (batch : Option ℕ) (items : List (Item F)) (reached : Reached F) : Type 0
  where
    pub number : ℕ
    pub batch_is : batch ≡ Some number
    pub items_are : AreItems reached.from items reached.flights
    pub flies : items_fly items ≡ true
    pub upto : job.at + length (up_to number (offers_in job)) ≡ end_of reached
    pub later : later_than number (offers_in job)
        ≡ offers_from job (number + 1) (end_of reached) (job.at + job.count - end_of reached)
    pub rest : IsDealtTo job (number + 1) (end_of reached)

-- All items have ended.
pub record IsThrough {F : Type 0} (batch : Option ℕ) (items : List (Item F)) (reached : Reached F) : Type 0 where
  pub batch_is : batch ≡ None
  pub items_are : items ≡ []
  pub none : reached.flights ≡ []

-- the batch in reached, if there is one
abbrev pub Rests : {F : Type 0} → Job F → Option ℕ → List (Item F) → Reached F → Type 0
Rests job batch items reached = IsFlying job batch items reached ⊎ IsThrough batch items reached

-- the first batch from this one on of which an item flies
abbrev pub next_in : {F : Type 0} → Job F → ℕ → ℕ → Option ℕ
next_in job number from = batch_in_hand job.begins (offers_from job number from (job.at + job.count - from))

-- the first batch behind the one in reached of which an item flies comes into the reached
abbrev pub DealsOn : {F : Type 0} → Job F → Reached F → Reached F → Type 0
DealsOn job old new =
    (number : ℕ) → IsDealtTo job number (end_of old) → Rests job (next_in job number (end_of old))
    (items_in job.begins (next_in job number (end_of old)) (offers_in job)) new

-- The code's reached stands for a follower's. What a stopped actor has in reached doesn't matter.
pub record Holds {F : Type 0} (job : Job F) (held : Held F) (reached : Reached F) : Type 0 where
  pub left_is : IsLeft job.stop reached.left held.made
  pub through_is : job.at + held.through ≡ reached.through
  pub rests : IsTrue (is_spent reached.left) ⊎ Rests job held.batch held.items reached

-- the entry is expected of the actor
abbrev pub Expects : {F : Type 0} → Job F → Held F → Entry → Type 0
Expects job held e =
    (is_stop job.stop held.made ≡ false) × IsAskedIn job.machine (stand_in e.item held.items) e

-- An entry of the batch in reached is counted.
pub record IsSettled {F : Type 0} (job : Job F) (old new : Reached F) : Type 0 where
  pub left_is : new.left ≡ one_less old.left
  pub through_is : new.through ≡ end_of old
  pub goes_on : some_fly old.flights ≡ true →
      (new.from ≡ old.from) × (new.flights ≡ old.flights)
  pub deals : some_fly old.flights ≡ false → IsTrue (is_spent new.left) ⊎ DealsOn job old new

-- the actor has ended
abbrev pub has_ended : {F : Type 0} → Job F → Held F → Bool
has_ended job held = if is_stop job.stop held.made then true else is_no_batch held.batch

-- how many items an actor took that has ended
abbrev pub taken_by : {F : Type 0} → Job F → Held F → ℕ
taken_by job held = if is_stop job.stop held.made then held.through else length (offers_in job)
