-- A setting: what a plan and its captures fix of a run. All definitions of runs speak of settings, and of no
-- plan's format. A flight is of the type F.
use Rattle.std.specs.Prelude.{ℕ, zero, suc, ◌-◌, ◌+◌, Bool, false, ◌==◌, nat_lt, if◌then◌else◌, Option, Some, None, List, [], ◌∷◌, ◌++◌, length}
use Rattle.slnf_run.specs.Scene.{Scene}

-- An actor of an epoch: an instance of a lane, or the sweep, which has none. An instance may have a quota of
-- packets, and each may stop after so many accesses.
pub record Actor : Type 0 where
  pub lane : Option ℕ
  pub quota : Option ℕ
  pub stop : Option ℕ

-- An epoch: its actors, the sweep last, and the schedule of their turns, by their numbers in the epoch.
pub record Era : Type 0 where
  pub actors : List Actor
  pub schedule : List ℕ

-- The incarnations of a setting are numbered over all epochs in order.
pub record Setting (F A : Type 0) : Type 0 where
  -- how many shards there are, how many packets a batch has at most, how many packets each lane has, and how many
  -- items a sweep has
  pub shards : ℕ
  pub batch : ℕ
  pub lanes : List ℕ
  pub sweep_items : ℕ
  pub eras : List Era
  -- the machines, and what a box sees of them
  pub scene : Scene F A

-- the actor works on this lane
abbrev pub is_on : ℕ → Actor → Bool
is_on lane actor = elim (actor.lane) [ None ↦ false | Some own ↦ own == lane ]

-- the epoch of an incarnation
abbrev pub era_of : List Era → ℕ → ℕ
era_of [] incarnation = 0
era_of (era ∷ eras) incarnation =
    if nat_lt incarnation (length era.actors) then 0 else era_of eras (incarnation - length era.actors) + 1

-- the first incarnation of the epoch with this number
abbrev pub base_of : List Era → ℕ → ℕ
base_of eras zero = 0
base_of [] (suc number) = 0
base_of (era ∷ eras) (suc number) = length era.actors + base_of eras number

-- the first incarnation of an incarnation's epoch
abbrev pub own_base : List Era → ℕ → ℕ
own_base eras incarnation = base_of eras (era_of eras incarnation)

-- the actors of these epochs: those of all incarnations, in order
abbrev pub actors_of : List Era → List Actor
actors_of [] = []
actors_of (era ∷ eras) = era.actors ++ actors_of eras

-- how many packets these lanes have together
abbrev pub total_of : List ℕ → ℕ
total_of [] = 0
total_of (count ∷ counts) = count + total_of counts

-- how many of these actors have no lane
abbrev pub sweeps_in : List Actor → ℕ
sweeps_in [] = 0
sweeps_in (actor ∷ actors) = elim (actor.lane) [ None ↦ 1 | Some lane ↦ 0 ] + sweeps_in actors
