-- The summary line.
use Rattle.std.specs.Prelude.{ℕ, ◌+◌, Bool, true, false, if◌then◌else◌, List, [], ◌∷◌, ◌++◌, length, codes, decimal}
use Rattle.slnf_base.specs.declared.packets.Verdict.{Verdict}
use Rattle.slnf_base.specs.declared.packets.Verdict.TheVariants.{Emit, Dropped, Lost, Left}
use Rattle.slnf_access.specs.declared.requests.Entry.{Entry}
use Rattle.slnf_run.specs.Verdicts.{left_in}
use Rattle.slnf_journal.specs.declared.summary.Ending.{Ending}
use Rattle.slnf_journal.specs.declared.summary.Ending.TheVariants as ending

-- the verdict is of this ending
abbrev pub ends_as : Ending → Verdict → Bool
ends_as ending.Emitted (Emit change) = true
ends_as ending.Dropped (Dropped reason) = true
ends_as ending.Lost Lost = true
ends_as other verdict = false

-- how many packets of a lane end so
abbrev pub count_of : Ending → List Verdict → ℕ
count_of ending [] = 0
count_of ending (verdict ∷ verdicts) = (if ends_as ending verdict then 1 else 0) + count_of ending verdicts

-- how many packets of all lanes end so
abbrev pub count_in : Ending → List (List Verdict) → ℕ
count_in ending [] = 0
count_in ending (verdicts ∷ lanes) = count_of ending verdicts + count_in ending lanes

-- how many packets are emitted, dropped and lost
abbrev pub emitted_in : List (List Verdict) → ℕ
emitted_in lanes = count_in ending.Emitted lanes

abbrev pub dropped_in : List (List Verdict) → ℕ
dropped_in lanes = count_in ending.Dropped lanes

abbrev pub lost_in : List (List Verdict) → ℕ
lost_in lanes = count_in ending.Lost lanes

-- how many packets there are
abbrev pub packets_in : List (List Verdict) → ℕ
packets_in [] = 0
packets_in (verdicts ∷ lanes) = length verdicts + packets_in lanes

-- `packets A emitted B dropped C lost D left E entries N`, and a line feed
unfoldable pub summary_text : List (List Verdict) → List Entry → List ℕ
summary_text lanes entries =
    codes "packets " ++ decimal (packets_in lanes)
    ++ codes " emitted " ++ decimal (emitted_in lanes)
    ++ codes " dropped " ++ decimal (dropped_in lanes)
    ++ codes " lost " ++ decimal (lost_in lanes)
    ++ codes " left " ++ decimal (left_in lanes)
    ++ codes " entries " ++ decimal (length entries) ++ codes "\n"
