-- The actors of an epoch at work on the shards, after a list of accesses.
use Rattle.std.specs.Prelude.{◌≡◌, ◌⊎◌, ℕ, zero, suc, ◌+◌, ◌≤◌, ◌<◌, ◌^◌, Bool, false, Option, Some, None, List, [], ◌∷◌, length, slice_get}
use Rattle.std.specs.List.{repeat, AllByRecursion}
use Rattle.slnf_access.specs.declared.requests.Entry.{Entry}
use Rattle.slnf_access.specs.declared.requests.Ask.{Ask}
use Rattle.slnf_run.specs.Setting.{Actor, Era, Setting, era_of}
use Rattle.slnf_run.specs.Jobs.{Job, job_of}
use Rattle.slnf_run.specs.Parts.{part_of, at_lane}
use Rattle.slnf_run.specs.Scheduled.{Way, usual_way, by_rounds, wanted, with_access, turn, turns, round, NobodyWants}
use Rattle.slnf_run.specs.Made.{clock}
use Rattle.slnf_shards.specs.Parts.{ArePartsOf}
use Rattle.slnf_instance.specs.Items.{Workload}
use Rattle.slnf_instance.specs.Instances.{Acting, StandsBy, ask_by}

-- Of so many numbers from this one on, these are left in order. Of each other one the property holds.
abbrev pub AreLeft : (ℕ → Type 0) → ℕ → ℕ → List ℕ → Type 0
AreLeft Ended from zero [] = Unit {0}
AreLeft Ended from zero (number ∷ numbers) = ⊥
AreLeft Ended from (suc count) [] = Ended from × AreLeft Ended (from + 1) count []
AreLeft Ended from (suc count) (number ∷ numbers) =
    ((from ≡ number) × AreLeft Ended (from + 1) count numbers)
    ⊎ (Ended from × AreLeft Ended (from + 1) count (number ∷ numbers))

-- An epoch of a setting: its number and its first incarnation, how far each lane has come before it, and its actors
-- and their schedule. What boxes see has no part in it.
pub record Stage (F : Type 0) : Type 0 where
  pub setting : Setting F (Unit {0})
  pub number : ℕ
  pub base : ℕ
  pub places : ℕ → ℕ
  pub era : Era

-- What an epoch works with: its first incarnation, the shards' histories, and its actors with their clocks.
pub record AtWork (G F : Type 0) : Type 0 where
  pub base : ℕ
  pub histories : List (List Entry)
  pub instances : List (Acting G F)
  pub clocks : List ℕ

-- all of them together
abbrev pub at_work : {G F : Type 0} → ℕ → List (List Entry) → List (Acting G F) → List ℕ → AtWork G F
at_work base histories instances clocks =
    record { base = base; histories = histories; instances = instances; clocks = clocks }

module _ {F : Type 0} (stage : Stage F) where
  -- the epoch of an incarnation
  abbrev pub epoch_in : ℕ → ℕ
  epoch_in = era_of stage.setting.eras

  -- the way of the schedule
  abbrev pub way_in : Way
  way_in = usual_way stage.setting.eras

  -- the job of the actor with this number
  abbrev pub job_at : ℕ → Actor → Job F
  job_at number actor = job_of stage.setting (stage.base + number) (at_lane stage.places actor) actor

  -- the access that it wants after these
  abbrev pub wanted_at : List Entry → ℕ → Actor → Option Ask
  wanted_at m number actor =
      wanted stage.setting by_rounds m (stage.base + number) (at_lane stage.places actor) actor

  -- the accesses after its turn
  abbrev pub after_turn : List Entry → ℕ → Actor → List Entry
  after_turn m number actor = with_access stage.setting way_in m (stage.base + number) (wanted_at m number actor)

  -- the accesses after a turn by number, and after such turns in order
  abbrev pub turn_in : List Entry → ℕ → List Entry
  turn_in m number = turn stage.setting way_in stage.base stage.places stage.era m number

  abbrev pub turns_in : List ℕ → List Entry → List Entry
  turns_in numbers m = turns stage.setting way_in stage.base stage.places stage.era numbers m

  -- the epoch's actor with this number, if there is one, wants no access after these
  abbrev pub IsEnded : List Entry → ℕ → Type 0
  IsEnded m number = (actor : Actor) → slice_get stage.era.actors number ≡ Some actor →
      wanted_at m number actor ≡ None

  -- no actor of the epoch wants an access after these
  abbrev pub NobodyWantsIn : List Entry → Type 0
  NobodyWantsIn m = NobodyWants stage.setting by_rounds stage.places m stage.base stage.era.actors

  -- The histories are the shards' parts of these accesses, which were made up to this epoch. No stamp is above the
  -- number of accesses.
  pub record HasHistories (m : List Entry) (histories : List (List Entry)) : Type 0 where
    pub count : length histories ≡ stage.setting.shards
    pub parts : ArePartsOf epoch_in m histories
    pub within : AllByRecursion (λ e. e.stamp ≤ length m) m
    pub latest : AllByRecursion (λ e. epoch_in e.incarnation ≤ stage.number) m

-- Actors over items with this work.
module _ {G F : Type 0} (work : G → Workload F) where
  -- an epoch's
  module _ (stage : Stage F) where
    -- The actor with this number and this clock stands after these accesses.
    pub record IsAt (m : List Entry) (number : ℕ) (actor : Actor) (i : Acting G F) (now : ℕ) : Type 0 where
      pub epoch_is : epoch_in stage (stage.base + number) ≡ stage.number
      pub stands : StandsBy work (job_at stage number actor) (part_of (stage.base + number) m) i
      pub clock_is : now ≡ clock (epoch_in stage) m (stage.base + number)

    -- A turn of that actor: it made the access that is wanted, if one is.
    pub record IsTurn (m : List Entry) (number : ℕ) (actor : Actor) (histories : List (List Entry)) (i : Acting G F)
        (now : ℕ) (made : Bool) : Type 0 where
      pub idle : made ≡ false → wanted_at stage m number actor ≡ None
      pub kept : HasHistories stage (after_turn stage m number actor) histories
      pub at : IsAt (after_turn stage m number actor) number actor i now

    -- The epoch's actors and the shards stand after these accesses.
    pub record AreStanding (m : List Entry) (w : AtWork G F) : Type 0 where
      pub base_is : stage.base ≡ w.base
      pub kept : HasHistories stage m w.histories
      pub count : length w.instances ≡ length stage.era.actors
      pub clocks_are : length w.clocks ≡ length stage.era.actors
      pub each : (k : ℕ) (actor : Actor) (i : Acting G F) (now : ℕ) → slice_get stage.era.actors k ≡ Some actor →
          slice_get w.instances k ≡ Some i → slice_get w.clocks k ≡ Some now → IsAt m k actor i now

    -- The turn of the actor with this number.
    pub record IsTurnAt (m : List Entry) (number : ℕ) (w : AtWork G F) (made : Bool) : Type 0 where
      pub idle : made ≡ false → IsEnded stage m number
      pub stands : AreStanding (turn_in stage m number) w

    -- A round of the epoch's actors, after which these are left. All others have ended.
    pub record IsRound (m : List Entry) (w : AtWork G F) (live : List ℕ) : Type 0 where
      pub stands : AreStanding (turns_in stage (round stage.era) m) w
      pub left : AreLeft (IsEnded stage (turns_in stage (round stage.era) m)) 0 (length stage.era.actors) live

    -- All of the epoch's actors have ended, after so many rounds.
    pub record AreDone (m : List Entry) (w : AtWork G F) : Type 0 where
      pub rounds : ℕ
      pub stands : AreStanding (turns_in stage (repeat rounds (round stage.era)) m) w
      pub nothing : NobodyWantsIn stage (turns_in stage (repeat rounds (round stage.era)) m)

  -- Stamps are left for the access of the actor with this number: all stand after fewer than 2^41 accesses.
  pub record HasRoomAt (base number : ℕ) (histories : List (List Entry)) (i : Acting G F) (now : ℕ)
      : Type 0 where
    pub stage : Stage F
    pub list : List Entry
    pub actor : Actor
    pub base_is : stage.base ≡ base
    pub kept : HasHistories stage list histories
    pub at : IsAt stage list number actor i now
    pub few : length list < 2 ^ 41

  -- Stamps are left for whatever turns are made next: all stand so that these make fewer than 2^41 accesses.
  pub record HasRoom (w : AtWork G F) : Type 0 where
    pub stage : Stage F
    pub list : List Entry
    pub stands : AreStanding stage list w
    pub few : (numbers : List ℕ) → length (turns_in stage numbers list) < 2 ^ 41

-- the actor with this number asks nothing
abbrev pub IsIdleAt : {G F : Type 0} → List (Acting G F) → ℕ → Type 0
IsIdleAt {G} {F} instances number = (i : Acting G F) → slice_get instances number ≡ Some i → ask_by i ≡ None

-- all actors have ended
abbrev pub AreIdle : {G F : Type 0} → List (Acting G F) → Type 0
AreIdle instances = (k : ℕ) → IsIdleAt instances k
