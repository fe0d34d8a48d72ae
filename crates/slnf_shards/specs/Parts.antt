-- Histories as the parts of a list of accesses that was made entry by entry.
use Rattle.std.specs.Prelude.{◌≡◌, ℕ, ◌≤◌, ◌<◌, true, List, [], ◌∷◌, ◌++◌, length}
use Rattle.std.specs.List.{AllByRecursion}
use Rattle.slnf_access.specs.declared.requests.Ask.{Ask}
use Rattle.slnf_access.specs.declared.requests.Entry.{Entry}
use Rattle.slnf_run.specs.Setting.{Setting, era_of}
use Rattle.slnf_run.specs.Scheduled.{greatest, usual_way, entry_after}
use Rattle.slnf_run.specs.Made.{Grown, IsLaid, HaveParts, clock, greatest_last}
use Rattle.slnf_shards.specs.Shards.{AreEmpty, latest_on, entry_on, with_entry_on}

-- The list was made over so many shards as there are histories, and each history is its shard's part of it.
pub record ArePartsOf (epoch : ℕ → ℕ) (m : List Entry) (histories : List (List Entry)) : Type 0 where
  pub some : 0 < length histories
  pub made : Grown (IsLaid epoch (length histories)) [] m
  pub parts : HaveParts 0 histories m

-- the parts of no accesses are empty histories
abbrev pub BeginAsParts : Type 0
BeginAsParts = (epoch : ℕ → ℕ) (histories : List (List Entry)) → 0 < length histories → AreEmpty histories →
    ArePartsOf epoch [] histories

-- an entry that comes next in the list goes to its shard's history
abbrev pub StayParts : Type 0
StayParts = (epoch : ℕ → ℕ) (m : List Entry) (histories : List (List Entry)) (e : Entry) →
    ArePartsOf epoch m histories → IsLaid epoch (length histories) m e →
    ArePartsOf epoch (m ++ e ∷ []) (with_entry_on histories e)

-- the entry that an access with the actor's clock makes of the histories is the schedule's of the list
abbrev pub MakesAsScheduled : {F A : Type 0} → Setting F A → Type 0
MakesAsScheduled s = (m : List Entry) (histories : List (List Entry)) (incarnation : ℕ) (ask : Ask) →
    ArePartsOf (era_of s.eras) m histories → length histories ≡ s.shards →
    entry_on histories (clock (era_of s.eras) m incarnation) incarnation ask.item ask.request
    ≡ entry_after s (usual_way s.eras) m incarnation ask

-- where no stamp is above the number of accesses, the clocks of the next access aren't either
abbrev pub StaysWithin : {F A : Type 0} → Setting F A → Type 0
StaysWithin s = (m : List Entry) (histories : List (List Entry)) (incarnation : ℕ) (ask : Ask) →
    ArePartsOf (era_of s.eras) m histories → length histories ≡ s.shards →
    AllByRecursion (λ e. e.stamp ≤ length m) m →
    latest_on histories (clock (era_of s.eras) m incarnation) ask.request ≤ length m

-- the greatest of the histories' last stamps is that of the whole list
abbrev pub HasGreatest : Type 0
HasGreatest = (epoch : ℕ → ℕ) (m : List Entry) (histories : List (List Entry)) → ArePartsOf epoch m histories →
    greatest (λ _. true) m ≡ greatest_last histories

-- and it is the clock of each actor of a later epoch than all of the list
abbrev pub IsFirstClock : Type 0
IsFirstClock = (epoch : ℕ → ℕ) (m : List Entry) (histories : List (List Entry)) (incarnation : ℕ) →
    ArePartsOf epoch m histories → AllByRecursion (λ e. epoch e.incarnation < epoch incarnation) m →
    clock epoch m incarnation ≡ greatest_last histories
