-- Which files a command may read and write, and where a fault of writing came from.
use Rattle.std.specs.Prelude.{◌≡◌, ◌⊎◌, ℕ, List, [], ◌∷◌, map}
use Rattle.slnf_shelf.specs.declared.shelf.Call.{Call}
use Rattle.slnf_shelf.specs.declared.shelf.Call.TheVariants.{Read, Begin, Append}
use Rattle.slnf_shelf.specs.Shelf.{Faults, Rose}
use Rattle.slnf_top.specs.Words.{Command}
use Rattle.slnf_top.specs.Names.{outputs_of}
use Rattle.slnf_top.specs.Readings.{name_of, inputs_of}

-- the name is one of these
abbrev pub IsAmong : List (List ℕ) → List ℕ → Type 0
IsAmong [] name = ⊥
IsAmong (other ∷ names) name = (name ≡ other) ⊎ IsAmong names name

-- the names of the files that a command reads, in order
abbrev pub input_names : Command → List (List ℕ)
input_names command = map name_of (inputs_of command)

-- the name is that of a file that the command writes
abbrev pub IsOutput : Command → List ℕ → Type 0
IsOutput command name = IsAmong (outputs_of command) name

-- the reads of these files
abbrev pub ReadsOf : List (List ℕ) → Call → List ℕ → Type 0
ReadsOf names Read name = IsAmong names name
ReadsOf names Begin name = ⊥
ReadsOf names Append name = ⊥

-- the reads of these files, and the begins and appends of those
abbrev pub CallsOf : List (List ℕ) → List (List ℕ) → Call → List ℕ → Type 0
CallsOf inputs outputs Read name = IsAmong inputs name
CallsOf inputs outputs Begin name = IsAmong outputs name
CallsOf inputs outputs Append name = IsAmong outputs name

-- the reads of a command's inputs
abbrev pub Reads : Command → Call → List ℕ → Type 0
Reads command call name = ReadsOf (input_names command) call name

-- the calls that a command makes
abbrev pub Calls : Command → Call → List ℕ → Type 0
Calls command call name = CallsOf (input_names command) (outputs_of command) call name

-- a begin or an append of one of these files met a fault
abbrev pub RoseAt : List (List ℕ) → Faults → Faults → Type 0
RoseAt names before now =
    (name : List ℕ) × IsAmong names name × (Rose Begin name before now ⊎ Rose Append name before now)

-- a begin or an append of an output met a fault
abbrev pub WriteRose : Command → Faults → Faults → Type 0
WriteRose command before now = RoseAt (outputs_of command) before now

-- no call at all
abbrev pub NoCalls : Call → List ℕ → Type 0
NoCalls call name = ⊥
