-- Which files are those of a true run, and what others are refused by: the first rule that is broken, and its least place.
use Rattle.std.specs.Prelude.{◌≡◌, ◌⊎◌, ℕ, Option, Some, List, Result, Ok, Err}
use Rattle.slnf_base.specs.declared.packets.Verdict.{Verdict}
use Rattle.slnf_access.specs.declared.requests.Entry.{Entry}
use Rattle.slnf_plan.specs.declared.plan.Plan.{Plan}
use Rattle.slnf_run.specs.Run.{IsRun}
use Rattle.slnf_run.specs.Verdicts.{verdicts_of}
use Rattle.slnf_flight.specs.declared.lanes.Lane.{Lane}
use Rattle.slnf_flight.specs.PlanSetting.{setting_of}
use Rattle.slnf_journal.specs.declared.errors.JournalError.{JournalError}
use Rattle.slnf_journal.specs.Reading.{journal_in}
use Rattle.slnf_journal.specs.Versions.{One}
use Rattle.slnf_journal.specs.Verdicts.{verdicts_text}
use Rattle.slnf_follow.specs.declared.refusals.Refusal.{Refusal}
use Rattle.slnf_follow.specs.Refusals.{IsAnswer}
use Rattle.slnf_check.specs.declared.given.Given.{Given}
use Rattle.slnf_check.specs.declared.given.RunFiles.{RunFiles}
use Rattle.slnf_check.specs.Outputs.{outputs_of, unread, or_else, verdicts_refusal, outputs_refusal}

-- The bytes are the journal of a run.
pub record IsJournalOf (plan : Plan) (lanes : List Lane) (bytes : List ℕ) (entries : List Entry) : Type 0 where
  pub read : journal_in One bytes ≡ Ok entries
  pub run : IsRun (setting_of plan lanes) entries

-- what a journal's text says is refused so: by rule 1 at the text, or by one of rules 2 to 5 at its entries
abbrev pub IsUnfollowed : Plan → List Lane → Result (List Entry) JournalError → Refusal → Type 0
IsUnfollowed plan lanes (Err error) refusal = refusal ≡ unread error
IsUnfollowed plan lanes (Ok entries) refusal = IsAnswer (setting_of plan lanes) entries (Some refusal)

-- the bytes are refused so, by rules 1 to 5
abbrev pub IsRefusedJournal : Plan → List Lane → List ℕ → Refusal → Type 0
IsRefusedJournal plan lanes bytes refusal = IsUnfollowed plan lanes (journal_in One bytes) refusal

-- Files that a true run leaves: the journal is a run's, and verdicts and outputs are its own.
pub record AreTrue (plan : Plan) (lanes : List Lane) (given : List Given) (files : RunFiles) (entries : List Entry)
    : Type 0 where
  pub journal : IsJournalOf plan lanes files.journal entries
  pub verdicts : files.verdicts ≡ verdicts_text (verdicts_of (setting_of plan lanes) entries)
  pub outputs : files.outputs ≡ outputs_of given (verdicts_of (setting_of plan lanes) entries)

-- by rules 6 and 7, where the verdicts are these
abbrev pub leavings_refusal : List Given → RunFiles → List (List Verdict) → Option Refusal
leavings_refusal given files verdicts =
    or_else (verdicts_refusal files.verdicts verdicts) (outputs_refusal 0 files.outputs (outputs_of given verdicts))

-- the files are refused so: by rules 1 to 5, or where these hold by 6 and 7
abbrev pub AreRefused : Plan → List Lane → List Given → RunFiles → Refusal → Type 0
AreRefused plan lanes given files refusal = IsRefusedJournal plan lanes files.journal refusal
    ⊎ ((entries : List Entry) × IsJournalOf plan lanes files.journal entries
    × (leavings_refusal given files (verdicts_of (setting_of plan lanes) entries) ≡ Some refusal))
