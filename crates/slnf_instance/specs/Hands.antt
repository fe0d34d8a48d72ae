-- A hand's errand, and what the code keeps of it.
use Rattle.std.specs.Prelude.{◌≡◌, ℕ, ◌+◌, ◌-◌, ◌<◌, ◌≤◌, Bool, false, Option, Some, None, List, [], length, get_or, drop, vec_len, vec_capacity, nat_le, ◌==◌, if◌then◌else◌, slice_get, set}
use Rattle.std.specs.List.{range_with_len}
use Rattle.slnf_base.specs.declared.packets.Verdict.{Verdict}
use Rattle.slnf_access.specs.declared.requests.Entry.{Entry}
use Rattle.slnf_access.specs.declared.requests.Ask.{Ask}
use Rattle.slnf_access.specs.Map.{CanReply}
use Rattle.slnf_access.specs.declared.requests.Reply.{Reply}
use Rattle.slnf_access.specs.Machines.{Machine, Stand, Flies, Ends}
use Rattle.slnf_run.specs.Verdicts.{verdict_at}
use Rattle.slnf_run.specs.Jobs.{joining}
use Rattle.slnf_instance.specs.declared.errands.Errand.{Errand}
use Rattle.slnf_instance.specs.declared.hands.Hand.{Hand}
use Rattle.slnf_run.specs.Jobs.{Job, first_in, stand_in}
use Rattle.slnf_instance.specs.Items.{Workload}
use Rattle.slnf_instance.specs.Errands.{job_in, IsErrand}
use Rattle.slnf_instance.specs.Works.{flights_at, IsLeftOf, HasBatch, IsBetween, HasVerdicts, AllMade, GoesOn, Stands}

-- The hand has room for a batch, and is within its errand.
pub record Fits {F : Type 0} (hand : Hand F) : Type 0 where
  pub flights_room : hand.errand.batch ≤ vec_capacity hand.flights
  pub firsts_room : hand.errand.batch ≤ vec_capacity hand.firsts
  pub asks_room : hand.errand.batch ≤ vec_capacity hand.asks
  pub given : vec_len hand.verdicts + hand.errand.at ≡ hand.errand.end
  pub from : hand.errand.at ≤ hand.from
  pub inside : hand.from + vec_len hand.flights ≤ hand.errand.end
  pub few : vec_len hand.flights ≤ hand.errand.batch

-- The hand has the same errand, and as many accesses are left.
pub record IsSameErrand {F : Type 0} (old new : Hand F) : Type 0 where
  pub errand : new.errand ≡ old.errand
  pub left : new.left ≡ old.left

-- The verdicts of items from this one on are those with which they begin, and those before are as they were.
pub record AreBegun (begun : ℕ → Verdict) (at from size : ℕ) (old new : List Verdict) : Type 0 where
  pub earlier : (k : ℕ) (d : Verdict) → k < from - at → get_or new k d ≡ get_or old k d
  pub begins : (item : ℕ) (d : Verdict) → from ≤ item → item < from + size → get_or new (item - at) d ≡ begun item

-- The next batch is in hand.
pub record IsTaken {F : Type 0} (job : Job F) (old new : Hand F) : Type 0 where
  pub from : new.from ≡ old.from + length old.flights.items
  pub size : length new.flights.items
      ≡ joining job.batch (first_in job) 0 [] (range_with_len new.from (job.at + job.count - new.from))
  pub flights : new.flights.items ≡ flights_at job.begins new.from (length new.flights.items)
  pub verdicts : AreBegun (λ item. verdict_at (job.begins item)) job.at new.from (length new.flights.items)
      old.verdicts.items new.verdicts.items

-- The round of the batch in hand is done, and each item that flies has made so many accesses.
pub record Rests {F : Type 0} (job : Job F) (own : List Entry) (hand : Hand F) (rounds : ℕ) : Type 0 where
  pub left_is : IsLeftOf job.stop hand.left (length own)
  pub batch : HasBatch job own hand.from (length hand.flights.items)
  pub flies : hand.flights.items ≡ flights_at (stand_in job own) hand.from (length hand.flights.items)
  pub made : AllMade job own hand.from (length hand.flights.items) rounds
  pub given : HasVerdicts job own (hand.from + length hand.flights.items) hand.verdicts.items

-- The batch in hand is done.
pub record IsDone {F : Type 0} (job : Job F) (own : List Entry) (hand : Hand F) : Type 0 where
  pub left_is : IsLeftOf job.stop hand.left (length own)
  pub between : IsBetween job own (hand.from + length hand.flights.items)
  pub given : HasVerdicts job own (hand.from + length hand.flights.items) hand.verdicts.items

-- the hand goes on after these entries of its own
abbrev pub HandGoesOn : {F : Type 0} → Job F → List Entry → Hand F → Type 0
HandGoesOn job own hand =
    GoesOn job own hand.left hand.from hand.flights.items (drop hand.place hand.asks.items) hand.verdicts.items

-- The hand stands after these entries of its own.
abbrev pub StandsAfter : {F : Type 0} → Job F → List Entry → Hand F → Type 0
StandsAfter job own hand =
    Stands job own hand.left hand.from hand.flights.items (drop hand.place hand.asks.items) hand.verdicts.items

-- no access is left after the next one
abbrev pub is_last : Option ℕ → Bool
is_last None = false
is_last (Some left) = nat_le left 1

-- how many accesses are left after the next one
abbrev pub one_less : Option ℕ → Option ℕ
one_less None = None
one_less (Some left) = Some (left - 1)

-- no access is left
abbrev pub is_spent : Option ℕ → Bool
is_spent None = false
is_spent (Some left) = left == 0

-- the next ask of a hand
abbrev pub ask_in : {F : Type 0} → Hand F → Option Ask
ask_in hand = if is_spent hand.left then None else slice_get hand.asks.items hand.place

-- The hand is sound: its errand is one over these items, and there are entries of its own after which it stands.
pub record IsSound {F : Type 0} (work : Workload F) (hand : Hand F) : Type 0 where
  pub errand : IsErrand work.count hand.errand
  pub fits : Fits hand
  pub own : List Entry
  pub stands : StandsAfter (job_in work hand.errand) own hand

-- A flight stands at this place, whose access can have the reply.
pub record HasFlight {F : Type 0} (machine : Machine F) (flights : List (Option F)) (k : ℕ) (reply : Reply) : Type 0
  where
    pub flight : F
    pub there : slice_get flights k ≡ Some (Some flight)
    pub can : CanReply (machine.asks flight) reply

-- the verdicts with one more, where an item ends so
abbrev pub given : {F : Type 0} → Stand F → ℕ → List Verdict → List Verdict
given (Flies flight) k verdicts = verdicts
given (Ends None) k verdicts = verdicts
given (Ends (Some verdict)) k verdicts = set verdicts k verdict

-- The hand is one before any batch.
pub record IsFirst {F : Type 0} (errand : Errand) (hand : Hand F) : Type 0 where
  pub errand_is : hand.errand ≡ errand
  pub left : hand.left ≡ errand.stop
  pub from : hand.from ≡ errand.at
  pub none : hand.flights.items ≡ []
  pub asks : hand.asks.items ≡ []
  pub place : hand.place ≡ 0
  pub fits : Fits hand
