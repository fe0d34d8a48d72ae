-- What is so when a command has ended.
use Rattle.std.specs.Prelude.{◌≡◌, ◌≢◌, ◌⊎◌, ℕ, List, Result, Ok, Err}
use Rattle.slnf_shelf.specs.Shelf.{Faults, Moves, SameFiles}
use Rattle.slnf_follow.specs.declared.refusals.Refusal.{Refusal}
use Rattle.slnf_top.specs.declared.statuses.Status.{Status}
use Rattle.slnf_top.specs.declared.statuses.Status.TheVariants as status
use Rattle.slnf_top.specs.Kinds.{Whole, Refusing, Broken, kind_of, HasRead, MayWrite}
use Rattle.slnf_top.specs.Words.{Command, Run, Step, Check, Box, Load}
use Rattle.slnf_top.specs.Readings.{inputs_of}
use Rattle.slnf_top.specs.Reached.{Holds, IsUnread, IsRefused, AllPassed}
use Rattle.slnf_top.specs.Effects.{IsOutput, Reads, Calls, WriteRose}
use Rattle.slnf_top.specs.Written.{status_of, WroteAll, WroteFront, WasBroken}

-- How a command ended.
pub record Ended (command : Command) (ended : Status) (before now : Faults) (held holds : Holds) : Type 0 where
  pub counts : Moves (Calls command) before now
  pub others : (name : List ℕ) → ¬ IsOutput command name → holds name ≡ held name
  pub not_usage : ended ≢ status.Usage
  pub read_fault : ended ≡ status.ReadFault → IsUnread held (inputs_of command) before now
  pub write_fault : ended ≡ status.WriteFault → WriteRose command before now
  pub no_fault : ended ≢ status.ReadFault → ended ≢ status.WriteFault → now ≡ before
  pub nothing_begun : ¬ MayWrite (kind_of ended) → Moves (Reads command) before now × SameFiles held holds
  pub reached : kind_of ended ≡ Refusing → IsRefused held (inputs_of command) ended
  pub broken : kind_of ended ≡ Broken → WasBroken command ended held
  pub passed : HasRead (kind_of ended) → AllPassed held (inputs_of command)
  pub written : kind_of ended ≡ Whole → WroteAll command ended held holds
  pub stopped : ended ≡ status.WriteFault → WroteFront command before now held holds

-- how a command ended that left so many packets, or was refused so
abbrev pub ended_by : Result ℕ Status → Status
ended_by (Ok left) = status_of left
ended_by (Err refusal) = refusal

-- accepted, or refused by a rule
abbrev pub Judges : Status → Type 0
Judges ended = (ended ≡ status.Ok) ⊎ ((refusal : Refusal) × (ended ≡ status.Refused refusal))

-- A command with no fault and no refused input did all, or memory was wanting. `load` leaves no packet. `check` and `box`
-- accept or name a rule.
abbrev pub IsComplete : Command → Status → Type 0
IsComplete (Run words) ended = (kind_of ended ≡ Whole) ⊎ (ended ≡ status.NoMemory)
IsComplete (Step words) ended = (kind_of ended ≡ Whole) ⊎ (ended ≡ status.NoMemory)
IsComplete (Check words) ended = Judges ended ⊎ (ended ≡ status.NoMemory)
IsComplete (Box words) ended = Judges ended ⊎ (ended ≡ status.NoMemory)
IsComplete (Load words) ended = (ended ≡ status.Ok) ⊎ (ended ≡ status.NoMemory)
