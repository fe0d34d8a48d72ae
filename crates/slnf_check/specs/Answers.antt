-- What an error of a check tells.
use Rattle.std.specs.Prelude.{◌≡◌, Option, Some}
use Rattle.slnf_journal.specs.declared.errors.JournalError.{JournalError}
use Rattle.slnf_journal.specs.declared.errors.JournalError.TheVariants as journal
use Rattle.slnf_follow.specs.declared.refusals.Refusal.{Refusal}
use Rattle.slnf_check.specs.declared.refusals.CheckError.{CheckError}
use Rattle.slnf_check.specs.declared.refusals.CheckError.TheVariants.{Refused, NoMemory}
use Rattle.slnf_check.specs.Outputs.{unread}

-- the error is a refusal of which this is so, or memory was wanting
abbrev pub IfRefused : (Refusal → Type 0) → CheckError → Type 0
IfRefused P (Refused refusal) = P refusal
IfRefused P NoMemory = Unit {0}

-- the error is this refusal, or memory was wanting
abbrev pub IsRefusedBy : Option Refusal → CheckError → Type 0
IsRefusedBy found error = IfRefused (λ refusal. found ≡ Some refusal) error

-- what the error of a journal's reading becomes
abbrev pub error_of : JournalError → CheckError
error_of journal.BadHeader = Refused (unread journal.BadHeader)
error_of (journal.NoNewline line) = Refused (unread (journal.NoNewline line))
error_of (journal.BadField line field) = Refused (unread (journal.BadField line field))
error_of journal.NoMemory = NoMemory
