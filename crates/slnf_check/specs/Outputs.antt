-- What verdicts and outputs are refused by, where the verdicts are known, and a text that is no journal.
use Rattle.std.specs.Prelude.{ℕ, ◌+◌, Option, Some, None, List, [], ◌∷◌, option_map}
use Rattle.slnf_base.specs.declared.packets.Verdict.{Verdict}
use Rattle.slnf_flight.specs.Output.{output_of}
use Rattle.slnf_journal.specs.declared.errors.JournalError.{JournalError}
use Rattle.slnf_journal.specs.declared.errors.JournalError.TheVariants.{BadHeader, NoNewline, BadField, NoMemory}
use Rattle.slnf_journal.specs.Verdicts.{verdicts_text}
use Rattle.slnf_follow.specs.declared.refusals.At.TheVariants.{Line, OutputByte}
use Rattle.slnf_follow.specs.declared.refusals.Refusal.{Refusal}
use Rattle.slnf_check.specs.declared.given.Given.{Given}
use Rattle.slnf_check.specs.Compare.{first_other_byte, first_other_line}

-- by rule 1: the text is no journal; no text gives the last case
abbrev pub unread : JournalError → Refusal
unread BadHeader = record { rule = 1; at = Line 1 }
unread (NoNewline line) = record { rule = 1; at = Line line }
unread (BadField line field) = record { rule = 1; at = Line line }
unread NoMemory = record { rule = 1; at = Line 0 }

-- by rule 6: the text isn't that of these verdicts
abbrev pub verdicts_refusal : List ℕ → List (List Verdict) → Option Refusal
verdicts_refusal text verdicts =
    option_map (λ line. record { rule = 6; at = Line line }) (first_other_line text (verdicts_text verdicts))

-- by rule 7, at this byte of a lane's output
abbrev pub refused_at : ℕ → ℕ → Refusal
refused_at lane place = record { rule = 7; at = OutputByte lane place }

-- the first of two refusals
abbrev pub or_else : Option Refusal → Option Refusal → Option Refusal
or_else None later = later
or_else (Some refusal) later = Some refusal

-- by rule 7: the first lane's output that isn't the true one; these begin at this lane, and one that isn't there, or
-- shouldn't be, differs in its first byte
abbrev pub outputs_refusal : ℕ → List (List ℕ) → List (List ℕ) → Option Refusal
outputs_refusal lane [] [] = None
outputs_refusal lane [] (own ∷ owns) = Some (refused_at lane 0)
outputs_refusal lane (output ∷ outputs) [] = Some (refused_at lane 0)
outputs_refusal lane (output ∷ outputs) (own ∷ owns) =
    or_else (option_map (refused_at lane) (first_other_byte output own)) (outputs_refusal (lane + 1) outputs owns)

-- the output captures by these verdicts
abbrev pub outputs_of : List Given → List (List Verdict) → List (List ℕ)
outputs_of [] verdicts = []
outputs_of (given ∷ more) [] = []
outputs_of (given ∷ more) (verdicts ∷ others) =
    output_of given.bytes given.capture verdicts ∷ outputs_of more others
