-- The files of a run, and writing them one after another.
use Rattle.std.specs.Prelude.{◌≡◌, ◌⊎◌, ℕ, ◌+◌, List, [], ◌∷◌, ◌++◌}
use Rattle.slnf_base.specs.declared.packets.Verdict.{Verdict}
use Rattle.slnf_access.specs.declared.requests.Entry.{Entry}
use Rattle.slnf_shelf.specs.declared.shelf.Call.{Call}
use Rattle.slnf_shelf.specs.declared.shelf.Call.TheVariants.{Read, Begin, Append}
use Rattle.slnf_shelf.specs.Shelf.{Faults, Rose, SameFiles, SameOthers, WritesFront, WritesSome, set_to}
use Rattle.slnf_flight.specs.Output.{output_of}
use Rattle.slnf_journal.specs.Journal.{journal_text}
use Rattle.slnf_journal.specs.Verdicts.{verdicts_text}
use Rattle.slnf_journal.specs.Summary.{summary_text}
use Rattle.slnf_check.specs.declared.given.Given.{Given}
use Rattle.slnf_top.specs.declared.outputs.File.{File}
use Rattle.slnf_top.specs.Names.{capture_name, verdicts_name, journal_name, standard_output}
use Rattle.slnf_top.specs.Effects.{IsAmong}
use Rattle.slnf_top.specs.Reached.{Holds}

-- the output captures of these lanes, of which the first has this number
abbrev pub capture_files : List ℕ → ℕ → List Given → List (List Verdict) → List File
capture_files out lane [] verdicts = []
capture_files out lane (given ∷ more) [] = []
capture_files out lane (given ∷ more) (verdicts ∷ others) =
    record { name = capture_name out lane; text = output_of given.bytes given.capture verdicts }
    ∷ capture_files out (lane + 1) more others

-- the summary's file
abbrev pub summary_file : List (List Verdict) → List Entry → File
summary_file verdicts journal = record { name = standard_output; text = summary_text verdicts journal }

-- the files of a run, in the order in which they are written
abbrev pub files_of : List ℕ → List Given → List (List Verdict) → List Entry → List File
files_of out given verdicts journal =
    capture_files out 0 given verdicts
    ++ record { name = verdicts_name out; text = verdicts_text verdicts }
    ∷ record { name = journal_name out; text = journal_text journal }
    ∷ summary_file verdicts journal ∷ []

-- what a run writes, by its captures, its verdicts and its journal
abbrev pub Texts : Type 0
Texts = List Given → List (List Verdict) → List Entry → List File

-- the summary alone
abbrev pub summary_alone : Texts
summary_alone given verdicts journal = summary_file verdicts journal ∷ []

-- each of these files holds its text, where the shelf tells what it held
abbrev pub HoldFiles : List File → Holds → Holds → Type 0
HoldFiles [] held holds = Unit {0}
HoldFiles (file ∷ files) held holds =
    (holds file.name ≡ set_to file.text (held file.name)) × HoldFiles files held holds

-- the names of these files
abbrev pub names_of : List File → List (List ℕ)
names_of [] = []
names_of (file ∷ files) = file.name ∷ names_of files

-- the name is that of one of these files
abbrev pub IsNamed : List File → List ℕ → Type 0
IsNamed files name = IsAmong (names_of files) name

-- the begins and appends of these files
abbrev pub WritesFiles : List File → Call → List ℕ → Type 0
WritesFiles files Read name = ⊥
WritesFiles files Begin name = IsNamed files name
WritesFiles files Append name = IsNamed files name

-- One file was written.
pub record WroteOne (file : File) (held holds : Holds) : Type 0 where
  pub text : holds file.name ≡ set_to file.text (held file.name)
  pub others : SameOthers file.name held holds

-- these files were written one after another
abbrev pub Wrote : List File → Holds → Holds → Type 0
Wrote [] held holds = SameFiles held holds
Wrote (file ∷ files) held holds = (middle : Holds) × WroteOne file held middle × Wrote files middle holds

-- One file was written up to some byte, or is as before, and the second only where its begin met a fault.
pub record WroteSome (file : File) (before now : Faults) (held holds : Holds) : Type 0 where
  pub text : WritesSome file.text (held file.name) (holds file.name)
  pub front : ¬ Rose Begin file.name before now → WritesFront file.text (held file.name) (holds file.name)
  pub others : SameOthers file.name held holds

-- The writing stopped at one of these files: those before it were written, and those behind it are as before.
abbrev pub StoppedAt : List File → Faults → Faults → Holds → Holds → Type 0
StoppedAt [] before now held holds = ⊥
StoppedAt (file ∷ files) before now held holds =
    WroteSome file before now held holds
    ⊎ ((middle : Holds) × WroteOne file held middle × StoppedAt files before now middle holds)
