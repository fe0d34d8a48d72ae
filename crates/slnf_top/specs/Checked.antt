-- What `check` and `box` find of the files that a run made, and what they write.
use Rattle.std.specs.Prelude.{◌≡◌, ◌⊎◌, ◌↔◌, ℕ, List, [], ◌∷◌, ◌++◌, length, IfSome, codes, decimal, map}
use Rattle.slnf_access.specs.declared.requests.Entry.{Entry}
use Rattle.slnf_plan.specs.declared.plan.Plan.{Plan}
use Rattle.slnf_flight.specs.declared.lanes.Lane.{Lane}
use Rattle.slnf_follow.specs.declared.refusals.Refusal.{Refusal}
use Rattle.slnf_check.specs.declared.given.Given.{Given}
use Rattle.slnf_check.specs.declared.given.RunFiles.{RunFiles}
use Rattle.slnf_check.specs.Checks.{IsJournalOf, IsRefusedJournal, AreTrue, AreRefused}
use Rattle.slnf_replay.specs.BoxText.{box_text}
use Rattle.slnf_shelf.specs.Shelf.{Faults}
use Rattle.slnf_top.specs.declared.statuses.Status.{Status}
use Rattle.slnf_top.specs.declared.statuses.Status.TheVariants as status
use Rattle.slnf_top.specs.declared.outputs.File.{File}
use Rattle.slnf_top.specs.Names.{journal_name, standard_output}
use Rattle.slnf_top.specs.Words.{PlanWords, Command, Run, Step, Check, Box, Load}
use Rattle.slnf_top.specs.Reached.{Holds}
use Rattle.slnf_top.specs.Reads.{AreFilesOf}
use Rattle.slnf_top.specs.Inputs.{Source, WorksOn}
use Rattle.slnf_top.specs.Files.{HoldFiles, StoppedAt}

-- the plan and the captures that these words name hold this, where the shelf tells it
abbrev pub named_source : PlanWords → Holds → Source
named_source words held = record { plan = held words.plan; captures = map held words.captures }

-- `accepted entries N`, and a line feed
abbrev pub accepted_text : ℕ → List ℕ
accepted_text count = codes "accepted entries " ++ decimal count ++ codes "\n"

-- what `check` writes of a journal of these entries
abbrev pub accepted_file : List Entry → File
accepted_file entries = record { name = standard_output; text = accepted_text (length entries) }

-- what `box` writes: the answers of the plan's one ordinary box
abbrev pub lines_file : Plan → List Lane → List Entry → File
lines_file plan lanes entries = record { name = standard_output; text = box_text plan lanes entries }

-- The file tells that these files of a run are accepted.
pub record TellsAccepted (plan : Plan) (lanes : List Lane) (given : List Given) (files : RunFiles) (file : File)
    : Type 0 where
  pub entries : List Entry
  pub are_true : AreTrue plan lanes given files entries
  pub file_is : file ≡ accepted_file entries

-- The file tells what the box answers to the packets of a run with this journal.
pub record TellsLines (plan : Plan) (lanes : List Lane) (journal : List ℕ) (file : File) : Type 0 where
  pub entries : List Entry
  pub is_journal : IsJournalOf plan lanes journal entries
  pub file_is : file ≡ lines_file plan lanes entries

-- the status is a refusal by a rule, of which this is so, or memory was wanting
abbrev pub BreaksBy : (Refusal → Type 0) → Status → Type 0
BreaksBy P ended =
    (ended ≡ status.NoMemory) ⊎ ((refusal : Refusal) × (ended ≡ status.Refused refusal) × P refusal)

-- What a command worked on: the plan and the captures that its words name, with their lanes.
pub record Worked (words : PlanWords) (held : Holds) : Type 0 where
  pub plan : Plan
  pub given : List Given
  pub lanes : List Lane
  pub works_on : WorksOn (named_source words held) plan given lanes

-- What `check` worked on: these, and the files of a run.
pub record Checked (words : PlanWords) (held : Holds) : Type 0 where
  pub worked : Worked words held
  pub files : RunFiles
  pub told : AreFilesOf words.out words.captures held files

-- What `box` worked on: these, and a journal.
pub record Followed (words : PlanWords) (held : Holds) : Type 0 where
  pub worked : Worked words held
  pub journal : List ℕ
  pub told : IfSome (held (journal_name words.out)) (λ bytes. journal ≡ bytes)

-- The files are accepted: they are those of a true run with this journal.
pub record IsAccepted (words : PlanWords) (held : Holds) (entries : List Entry) : Type 0 where
  pub checked : Checked words held
  pub are_true : AreTrue checked.worked.plan checked.worked.lanes checked.worked.given checked.files entries

-- The journal is that of a run, and this is what the box answers.
pub record IsAnswered (words : PlanWords) (held : Holds) (file : File) : Type 0 where
  pub followed : Followed words held
  pub tells : TellsLines followed.worked.plan followed.worked.lanes followed.journal file

-- This is the first rule that the files break, with its least place.
pub record IsBroken (words : PlanWords) (held : Holds) (refusal : Refusal) : Type 0 where
  pub checked : Checked words held
  pub refused : AreRefused checked.worked.plan checked.worked.lanes checked.worked.given checked.files refusal

-- The same of the journal alone.
pub record IsBrokenJournal (words : PlanWords) (held : Holds) (refusal : Refusal) : Type 0 where
  pub followed : Followed words held
  pub refused : IsRefusedJournal followed.worked.plan followed.worked.lanes followed.journal refusal

-- `check` ended with Ok exactly where the files are those of a true run, and with Refused exactly for the first rule that
-- they break, at its least place.
pub record IsCheck (words : PlanWords) (held : Holds) (ended : Status) : Type 0 where
  pub checked : Checked words held
  pub accepts : (ended ≡ status.Ok) ↔ ((entries : List Entry)
      × AreTrue checked.worked.plan checked.worked.lanes checked.worked.given checked.files entries)
  pub refuses : (refusal : Refusal) → (ended ≡ status.Refused refusal)
      ↔ AreRefused checked.worked.plan checked.worked.lanes checked.worked.given checked.files refusal

-- `box` ended with Ok exactly where the journal is that of a run, and with Refused exactly for the first rule that it
-- breaks.
pub record IsBox (words : PlanWords) (held : Holds) (ended : Status) : Type 0 where
  pub followed : Followed words held
  pub answers : (ended ≡ status.Ok) ↔ ((entries : List Entry)
      × IsJournalOf followed.worked.plan followed.worked.lanes followed.journal entries)
  pub refuses : (refusal : Refusal) → (ended ≡ status.Refused refusal)
      ↔ IsRefusedJournal followed.worked.plan followed.worked.lanes followed.journal refusal

-- the file is what `check` writes of files that are accepted, or `box` of such a journal
abbrev pub IsFound : Command → Holds → File → Type 0
IsFound (Run words) held file = ⊥
IsFound (Step words) held file = ⊥
IsFound (Check words) held file =
    (entries : List Entry) × IsAccepted words held entries × (file ≡ accepted_file entries)
IsFound (Box words) held file = IsAnswered words held file
IsFound (Load words) held file = ⊥

-- the status names this refusal
abbrev pub Names : (Refusal → Type 0) → Status → Type 0
Names P ended = (refusal : Refusal) × (ended ≡ status.Refused refusal) × P refusal

-- `-` holds how many entries were accepted, or what the box answers
abbrev pub HoldsAccepted : PlanWords → Holds → Holds → Type 0
HoldsAccepted words held holds =
    (entries : List Entry) × IsAccepted words held entries × HoldFiles (accepted_file entries ∷ []) held holds

abbrev pub HoldsLines : PlanWords → Holds → Holds → Type 0
HoldsLines words held holds = (file : File) × IsAnswered words held file × HoldFiles (file ∷ []) held holds

-- the writing of it was stopped
abbrev pub StopsAccepted : PlanWords → Faults → Faults → Holds → Holds → Type 0
StopsAccepted words before now held holds =
    (entries : List Entry) × IsAccepted words held entries
    × StoppedAt (accepted_file entries ∷ []) before now held holds

abbrev pub StopsLines : PlanWords → Faults → Faults → Holds → Holds → Type 0
StopsLines words before now held holds =
    (file : File) × IsAnswered words held file × StoppedAt (file ∷ []) before now held holds
