-- How inputs were read, one after another.
use Rattle.std.specs.Prelude.{◌≡◌, ◌∷◌, ℕ, List, map, IfSome}
use Rattle.slnf_shelf.specs.Shelf.{Faults, Moves, SameFiles}
use Rattle.slnf_check.specs.declared.given.RunFiles.{RunFiles}
use Rattle.slnf_top.specs.declared.inputs.Tally.{Tally}
use Rattle.slnf_top.specs.declared.statuses.Status.{Status}
use Rattle.slnf_top.specs.declared.statuses.Status.TheVariants as status
use Rattle.slnf_top.specs.declared.inputs.Inputs.{Inputs}
use Rattle.slnf_top.specs.Words.{PlanWords}
use Rattle.slnf_top.specs.Names.{capture_names, verdicts_name, journal_name}
use Rattle.slnf_top.specs.Readings.{Input, name_of}
use Rattle.slnf_top.specs.Reached.{Holds, HavePassed}
use Rattle.slnf_top.specs.Effects.{ReadsOf}
use Rattle.slnf_top.specs.Inputs.{AreTexts, AreInputs}
use Rattle.slnf_top.specs.Refused.{RefusesFrom, StaysUnless}

-- the names of these inputs
abbrev pub names_of : List Input → List (List ℕ)
names_of inputs = map name_of inputs

-- These inputs were read, and each passed, from the first tally to the last.
pub record WereRead (inputs : List Input) (first last : Tally) (before now : Faults) (held holds : Holds) : Type 0 where
  pub counts : Moves (ReadsOf (names_of inputs)) before now
  pub still : now ≡ before
  pub same : SameFiles held holds
  pub passed : HavePassed held inputs first last

-- One of these inputs wasn't read, or is refused, behind the first tally.
pub record WereRefused (inputs : List Input) (first : Tally) (before now : Faults) (held holds : Holds)
    (ended : Status) : Type 0 where
  pub counts : Moves (ReadsOf (names_of inputs)) before now
  pub still : StaysUnless status.ReadFault before now ended
  pub same : SameFiles held holds
  pub refused : RefusesFrom first held inputs before now ended

-- the same behind any tally, which stays
abbrev pub WerePassed : List Input → Faults → Faults → Holds → Holds → Type 0
WerePassed inputs before now held holds = (tally : Tally) → WereRead inputs tally tally before now held holds

abbrev pub WereStopped : List Input → Faults → Faults → Holds → Holds → Status → Type 0
WereStopped inputs before now held holds ended = (tally : Tally) → WereRefused inputs tally before now held holds ended

-- The plan and the captures of these words were read, and no call met a fault.
pub record WereInputsRead (words : PlanWords) (inputs : Inputs) (before now : Faults) (held holds : Holds)
    : Type 0 where
  pub counts : Moves (ReadsOf (words.plan ∷ words.captures)) before now
  pub still : now ≡ before
  pub same : SameFiles held holds
  pub are : AreInputs words.plan words.captures held inputs

-- The files of a run are those of its names, as far as the shelf tells them: of OUT, and of as many output captures as
-- there are captures.
pub record AreFilesOf (out : List ℕ) (captures : List (List ℕ)) (held : Holds) (files : RunFiles) : Type 0 where
  pub journal : IfSome (held (journal_name out)) (λ bytes. files.journal ≡ bytes)
  pub verdicts : IfSome (held (verdicts_name out)) (λ bytes. files.verdicts ≡ bytes)
  pub outputs : AreTexts (map held (capture_names out 0 captures)) files.outputs
