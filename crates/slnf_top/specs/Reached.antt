-- How far the reading of a command's inputs came. What is said of an input is said where the shelf tells what it
-- holds.
use Rattle.std.specs.Prelude.{◌≡◌, ◌≢◌, ◌⊎◌, ℕ, ◌+◌, List, [], ◌∷◌, ◌++◌, Option, IfSome, Result, Ok, Err}
use Rattle.slnf_pcap.specs.declared.errors.PcapError.{PcapError}
use Rattle.slnf_pcap.specs.declared.errors.PcapError.TheVariants.{NoMemory as PcapNoMemory}
use Rattle.slnf_plan.specs.declared.error.PlanError.{PlanError}
use Rattle.slnf_plan.specs.declared.error.PlanError.TheVariants.{NoMemory as PlanNoMemory}
use Rattle.slnf_plan.specs.Plain.{PlainPlan}
use Rattle.slnf_shelf.specs.declared.shelf.Call.TheVariants.{Read}
use Rattle.slnf_shelf.specs.Shelf.{Faults, Rose}
use Rattle.slnf_top.specs.declared.statuses.Status.{Status}
use Rattle.slnf_top.specs.declared.statuses.Status.TheVariants as status
use Rattle.slnf_top.specs.declared.inputs.Tally.{Tally}
use Rattle.slnf_top.specs.Limits.{plan_limit, capture_limit}
use Rattle.slnf_top.specs.Words.{Command, Run, Step, Check, Box, Load}
use Rattle.slnf_top.specs.Readings.{Input, PlanFile, CaptureFile, ProductFile, name_of, reading_of, limit_of, most_of, no_tally}

-- what stands under each name, where it is told
abbrev pub Holds : Type 0
Holds = List ℕ → Option (List ℕ)

-- These inputs were read one after another, from the first tally to the last, and each passed.
abbrev pub HavePassed : Holds → List Input → Tally → Tally → Type 0
HavePassed held [] first last = first ≡ last
HavePassed held (input ∷ inputs) first last =
    (next : Tally) × IfSome (held (name_of input)) (λ bytes. reading_of input first bytes ≡ Ok next)
    × HavePassed held inputs next last

-- The reading that began with the first tally came to this input, with this one: each input before it had passed.
pub record IsReachedFrom (first : Tally) (held : Holds) (inputs : List Input) (input : Input) (tally : Tally)
    : Type 0 where
  pub before : List Input
  pub after : List Input
  pub are : inputs ≡ before ++ input ∷ after
  pub passed : HavePassed held before first tally

-- A read met a fault at the input that the reading had come to.
pub record IsUnreadFrom (first : Tally) (held : Holds) (inputs : List Input) (before now : Faults) : Type 0 where
  pub input : Input
  pub tally : Tally
  pub reached : IsReachedFrom first held inputs input tally
  pub rose : Rose Read (name_of input) before now

-- the same from no tally on
abbrev pub IsReached : Holds → List Input → Input → Tally → Type 0
IsReached held inputs input tally = IsReachedFrom no_tally held inputs input tally

abbrev pub IsUnread : Holds → List Input → Faults → Faults → Type 0
IsUnread held inputs before now = IsUnreadFrom no_tally held inputs before now

-- The refusals that a plan can get, those of the capture behind a tally, and that of what a run made. None carries want
-- of memory.
abbrev pub MayRefuse : Input → Tally → Status → Type 0
MayRefuse (PlanFile name) tally refusal =
    ((error : PlanError) × (error ≢ PlanNoMemory) × (refusal ≡ status.PlanBad error))
    ⊎ (refusal ≡ status.OverLimit 1 (plan_limit + 1))
MayRefuse (CaptureFile name) tally refusal =
    ((error : PcapError) × (error ≢ PcapNoMemory) × (refusal ≡ status.CaptureBad tally.lanes error))
    ⊎ (refusal ≡ status.OverLimit 2 (capture_limit + 1))
    ⊎ ((count : ℕ) × (refusal ≡ status.OverLimit 3 count))
    ⊎ ((count : ℕ) × (refusal ≡ status.OverLimit 4 count))
MayRefuse (ProductFile product name) tally refusal =
    refusal ≡ status.OverLimit (limit_of product) (most_of product + 1)

-- The input that the reading had come to was refused so, which is what its bytes get.
pub record IsRefusedFrom (first : Tally) (held : Holds) (inputs : List Input) (refusal : Status) : Type 0 where
  pub input : Input
  pub tally : Tally
  pub reached : IsReachedFrom first held inputs input tally
  pub may : MayRefuse input tally refusal
  pub gives : IfSome (held (name_of input)) (λ bytes. reading_of input tally bytes ≡ Err refusal)

-- the same from no tally on
abbrev pub IsRefused : Holds → List Input → Status → Type 0
IsRefused held inputs refusal = IsRefusedFrom no_tally held inputs refusal

-- All of these inputs were read, and each passed.
pub record AllPassed (held : Holds) (inputs : List Input) : Type 0 where
  pub tally : Tally
  pub passed : HavePassed held inputs no_tally tally

-- the file is one that the command reads as a plan
abbrev pub IsPlanOfCommand : Command → List ℕ → Type 0
IsPlanOfCommand (Run words) name = name ≡ words.plan
IsPlanOfCommand (Step words) name = name ≡ words.plan
IsPlanOfCommand (Check words) name = name ≡ words.plan
IsPlanOfCommand (Box words) name = name ≡ words.plan
IsPlanOfCommand (Load words) name = ⊥

-- a refusal that is a plan's
abbrev pub IsOfPlan : Status → Type 0
IsOfPlan refusal =
    ((error : PlanError) × (refusal ≡ status.PlanBad error)) ⊎ ((count : ℕ) × (refusal ≡ status.OverLimit 1 count))

-- How a command ends by what its plan reads as: with the plan's refusal, unless the plan couldn't be read or memory
-- was wanting; and with no refusal of a plan where it passes.
abbrev pub FollowsPlan : Status → Result PlainPlan Status → Type 0
FollowsPlan ended (Ok plan) = ¬ IsOfPlan ended
FollowsPlan ended (Err refusal) = (ended ≡ refusal) ⊎ (ended ≡ status.ReadFault) ⊎ (ended ≡ status.NoMemory)
