-- Where an actor is after its own entries.
use Rattle.std.specs.Prelude.{◌≡◌, ◌⊎◌, ℕ, ◌+◌, ◌-◌, ◌<◌, ◌≤◌, Option, Some, None, List, [], ◌∷◌, ◌++◌, length, map, get_or}
use Rattle.std.specs.List.{range_with_len}
use Rattle.slnf_base.specs.declared.packets.Verdict.{Verdict}
use Rattle.slnf_access.specs.declared.requests.Entry.{Entry}
use Rattle.slnf_access.specs.declared.requests.Ask.{Ask}
use Rattle.slnf_access.specs.declared.requests.Request.{Request}
use Rattle.slnf_access.specs.Machines.{Stand, Flies, Ends, HasEnded}
use Rattle.slnf_batch.specs.Order.{Ascends}
use Rattle.slnf_run.specs.Parts.{of_item, Offer, batched}
use Rattle.slnf_run.specs.Verdicts.{verdict_at}
use Rattle.std.specs.List.{AllByRecursion as Every}
use Rattle.slnf_run.specs.Jobs.{one_batch}
use Rattle.slnf_run.specs.Jobs.{Job, first_in, offers_in, stand_in}

-- so many accesses are left up to the stop, if there is one
abbrev pub IsLeftOf : Option ℕ → Option ℕ → ℕ → Type 0
IsLeftOf None None made = Unit {0}
IsLeftOf None (Some left) made = ⊥
IsLeftOf (Some stop) None made = ⊥
IsLeftOf (Some stop) (Some left) made = (left + made ≡ stop) × (0 < left)

-- the flight of an item that stands so
abbrev pub flight_at : {F : Type 0} → Stand F → Option F
flight_at (Flies flight) = Some flight
flight_at (Ends verdict) = None

-- the flights of so many items from this one on
abbrev pub flights_at : {F : Type 0} → (ℕ → Stand F) → ℕ → ℕ → List (Option F)
flights_at stand from size = map (λ item. flight_at (stand item)) (range_with_len from size)

-- what the flights ask, the first of which is that of the item `from`
abbrev pub asks_of : {F : Type 0} → (F → Request) → ℕ → List (Option F) → List Ask
asks_of asks from [] = []
asks_of asks from (None ∷ flights) = asks_of asks (from + 1) flights
asks_of asks from (Some flight ∷ flights) =
    record { item = from; request = asks flight } ∷ asks_of asks (from + 1) flights

-- an item is among those that ask
abbrev pub IsAsking : ℕ → List Ask → Type 0
IsAsking item [] = ⊥
IsAsking item (ask ∷ asks) = (ask.item ≡ item) ⊎ IsAsking item asks

-- The ask is that of an item of the batch that has made so many accesses.
pub record IsAskOf {F : Type 0} (job : Job F) (own : List Entry) (from size round : ℕ) (ask : Ask) : Type 0 where
  pub flight : F
  pub flies : stand_in job own ask.item ≡ Flies flight
  pub request : ask.request ≡ job.machine.asks flight
  pub made : length (of_item ask.item own) ≡ round
  pub from_is : from ≤ ask.item
  pub upto : ask.item < from + size

-- The actor has a batch in hand: `size` items from `from` on. All items before these have ended, and none behind them
-- has an entry.
pub record HasBatch {F : Type 0} (job : Job F) (own : List Entry) (from size : ℕ) : Type 0 where
  pub number : ℕ
  pub earlier : List Offer
  pub offers : offers_in job ≡ earlier
      ++ (one_batch number (range_with_len from size)
      ++ batched job.batch (first_in job) (number + 1) 0 []
      (range_with_len (from + size) (job.at + job.count - (from + size))))
  pub below : Every (λ offer. offer.batch < number) earlier
  pub place : from ≡ job.at + length earlier
  pub inside : from + size ≤ job.at + job.count
  pub ended : Every (λ offer. HasEnded (stand_in job own offer.item)) earlier
  pub fresh : (item : ℕ) → from + size ≤ item → of_item item own ≡ []

-- Between two batches: all items before this one have ended, and none from it on has an entry.
pub record IsBetween {F : Type 0} (job : Job F) (own : List Entry) (from : ℕ) : Type 0 where
  pub number : ℕ
  pub earlier : List Offer
  pub offers : offers_in job ≡ earlier
      ++ batched job.batch (first_in job) number 0 [] (range_with_len from (job.at + job.count - from))
  pub below : Every (λ offer. offer.batch < number) earlier
  pub place : from ≡ job.at + length earlier
  pub inside : from ≤ job.at + job.count
  pub ended : Every (λ offer. HasEnded (stand_in job own offer.item)) earlier
  pub fresh : (item : ℕ) → from ≤ item → of_item item own ≡ []

-- These asks of the round are still to be made. Each other item that flies has made its access of this round.
pub record IsRound {F : Type 0} (job : Job F) (own : List Entry) (from size round : ℕ) (rest : List Ask) : Type 0
  where
    pub each : Every (IsAskOf job own from size round) rest
    pub ascends : Ascends job.shards rest
    pub others : (item : ℕ) (flight : F) → from ≤ item → item < from + size → stand_in job own item ≡ Flies flight →
        IsAsking item rest ⊎ (length (of_item item own) ≡ round + 1)

-- the verdicts are those of the items that were taken
abbrev pub HasVerdicts : {F : Type 0} → Job F → List Entry → ℕ → List Verdict → Type 0
HasVerdicts job own end verdicts =
    (item : ℕ) (d : Verdict) → job.at ≤ item → item < end →
    get_or verdicts (item - job.at) d ≡ verdict_at (stand_in job own item)

-- each item of the batch that flies has made so many accesses
abbrev pub AllMade : {F : Type 0} → Job F → List Entry → ℕ → ℕ → ℕ → Type 0
AllMade {F = F} job own from size round =
    (item : ℕ) (flight : F) → from ≤ item → item < from + size → stand_in job own item ≡ Flies flight →
    length (of_item item own) ≡ round

-- where an actor with this job is after these entries of its own
module _ {F : Type 0} (job : Job F) (own : List Entry) where
  -- The actor is at a round of a batch.
  pub record AtWork (left : Option ℕ) (from : ℕ) (flights : List (Option F)) (rest : List Ask)
      (verdicts : List Verdict) : Type 0 where
    pub left_is : IsLeftOf job.stop left (length own)
    pub batch : HasBatch job own from (length flights)
    pub flies : flights ≡ flights_at (stand_in job own) from (length flights)
    pub round : ℕ
    pub turn : IsRound job own from (length flights) round rest
    pub some : 0 < length rest
    pub given : HasVerdicts job own (from + length flights) verdicts

  -- The actor has done all.
  pub record IsThrough (left : Option ℕ) (to : ℕ) (rest : List Ask) (verdicts : List Verdict) : Type 0 where
    pub left_is : IsLeftOf job.stop left (length own)
    pub between : IsBetween job own to
    pub end : to ≡ job.at + job.count
    pub none : rest ≡ []
    pub given : HasVerdicts job own to verdicts

  -- The actor was stopped by its last access, which is one of its batch.
  pub record WasStopped (left : Option ℕ) (from size : ℕ) (verdicts : List Verdict) : Type 0 where
    pub before : List Entry
    pub last : Entry
    pub whole : own ≡ before ++ last ∷ []
    pub stop : job.stop ≡ Some (length before + 1)
    pub left_is : left ≡ Some 0
    pub batch : HasBatch job before from size
    pub flight : F
    pub flies : stand_in job before last.item ≡ Flies flight
    pub from_is : from ≤ last.item
    pub upto : last.item < from + size
    pub given : HasVerdicts job before (from + size) verdicts

  -- The actor was to stop before its first access.
  pub record NeverBegan (left : Option ℕ) (to : ℕ) : Type 0 where
    pub none : own ≡ []
    pub stop : job.stop ≡ Some 0
    pub left_is : left ≡ Some 0
    pub to_is : to ≡ job.at

  -- where the actor is that isn't stopped
  abbrev pub GoesOn : Option ℕ → ℕ → List (Option F) → List Ask → List Verdict → Type 0
  GoesOn left from flights rest verdicts =
      AtWork left from flights rest verdicts ⊎ IsThrough left (from + length flights) rest verdicts

  -- where the actor is after its own entries
  abbrev pub Stands : Option ℕ → ℕ → List (Option F) → List Ask → List Verdict → Type 0
  Stands left from flights rest verdicts =
      GoesOn left from flights rest verdicts
      ⊎ (WasStopped left from (length flights) verdicts ⊎ NeverBegan left (from + length flights))
