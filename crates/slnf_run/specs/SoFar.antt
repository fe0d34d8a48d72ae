-- The accesses of a schedule so far: those of whole epochs that have passed, and of some turns of the epoch in hand.
use Rattle.std.specs.Prelude.{◌≡◌, ℕ, zero, suc, ◌+◌, ◌≤◌, Some, List, [], ◌++◌, length, slice_get}
use Rattle.std.specs.List.{repeat, AllByRecursion}
use Rattle.slnf_access.specs.declared.requests.Entry.{Entry}
use Rattle.slnf_access.specs.Map.{IsLegal}
use Rattle.slnf_run.specs.Setting.{Era, Setting, era_of}
use Rattle.slnf_run.specs.Parts.{places_after}
use Rattle.slnf_run.specs.Keeps.{HasPaths}
use Rattle.slnf_run.specs.Scheduled.{Way, turns, round, NobodyWants}
use Rattle.slnf_run.specs.Made.{Grown, IsLaid, clock, of_shard, last_stamp}

module _ {F A : Type 0} (s : Setting F A) (way : Way) where
  -- An epoch passes from the first list to the second: its schedule and some rounds make it, and then nobody wants
  -- anything.
  pub record Passes (base : ℕ) (places : ℕ → ℕ) (era : Era) (es m : List Entry) : Type 0 where
    pub rounds : ℕ
    pub turned : m ≡ turns s way base places era (era.schedule ++ repeat rounds (round era)) es
    pub nothing : NobodyWants s way.comes_before places m base era.actors

  -- So many whole epochs have made this list, one after another. The next incarnation has the number `base`, and
  -- lanes have come so far.
  abbrev pub HavePassed : ℕ → ℕ → (ℕ → ℕ) → List Entry → Type 0
  HavePassed zero base places m = (base ≡ 0) × ((lane : ℕ) → places lane ≡ 0) × (m ≡ [])
  HavePassed (suc number) base places m =
      (first : ℕ) × (from : ℕ → ℕ) × (era : Era) × (es : List Entry) × HavePassed number first from es
      × (slice_get s.eras number ≡ Some era) × Passes first from era es m × (base ≡ first + length era.actors)
      × ((lane : ℕ) → places lane ≡ places_after s m first from era lane)

  -- The epochs before the one with this number have passed, and some turns of that one have been made. Its first
  -- incarnation has the number `base`, and lanes had come so far when it began.
  pub record IsSoFar (number base : ℕ) (places : ℕ → ℕ) (m : List Entry) : Type 0 where
    pub begun : List Entry
    pub passed : HavePassed number base places begun
    pub era : Era
    pub at : slice_get s.eras number ≡ Some era
    pub numbers : List ℕ
    pub turned : m ≡ turns s way base places era numbers begun

-- What holds of the accesses so far: each reply is the map's, each item's entries are a path, and no stamp and no
-- clock, of an actor or of a shard, is above the number of accesses.
pub record HoldsSoFar {F A : Type 0} (s : Setting F A) (m : List Entry) : Type 0 where
  pub laid : Grown (IsLaid (era_of s.eras) s.shards) [] m
  pub legal : IsLegal m
  pub paths : HasPaths s.scene m
  pub stamps : AllByRecursion (λ e. e.stamp ≤ length m) m
  pub clocks : (incarnation : ℕ) → clock (era_of s.eras) m incarnation ≤ length m
  pub shards : (shard : ℕ) → last_stamp (of_shard shard m) ≤ length m
