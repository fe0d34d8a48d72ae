-- The text of the verdicts.
use Rattle.std.specs.Prelude.{ℕ, ◌+◌, List, [], ◌∷◌, ◌++◌, codes, decimal}
use Rattle.slnf_base.specs.declared.packets.Change.{Change}
use Rattle.slnf_base.specs.declared.packets.Change.TheVariants.{Keep, Source, Dest}
use Rattle.slnf_base.specs.declared.packets.Verdict.{Verdict}
use Rattle.slnf_base.specs.declared.packets.Verdict.TheVariants.{Emit, Dropped, Lost, Left}
use Rattle.slnf_base.specs.Numbers.{reason_number}
use Rattle.slnf_journal.specs.Words.{pair_text}

-- `keep`, `source PAIR` or `dest PAIR`
unfoldable pub change_text : Change → List ℕ
change_text Keep = codes "keep"
change_text (Source pair) = codes "source " ++ pair_text pair
change_text (Dest pair) = codes "dest " ++ pair_text pair

-- `emit CHANGE`, `drop REASON`, `lost` or `left`
unfoldable pub verdict_text : Verdict → List ℕ
verdict_text (Emit change) = codes "emit " ++ change_text change
verdict_text (Dropped reason) = codes "drop " ++ decimal (reason_number reason)
verdict_text Lost = codes "lost"
verdict_text Left = codes "left"

-- `LANE NUMBER VERDICT`, and a line feed
unfoldable pub verdict_line : ℕ → ℕ → Verdict → List ℕ
verdict_line lane number verdict = decimal lane ++ 32 ∷ [] ++ decimal number ++ 32 ∷ [] ++ verdict_text verdict ++ 10 ∷ []

-- the lines of a lane's packets, of which the first has this number
abbrev pub lane_text : ℕ → ℕ → List Verdict → List ℕ
lane_text lane number [] = []
lane_text lane number (verdict ∷ verdicts) = verdict_line lane number verdict ++ lane_text lane (number + 1) verdicts

-- the lines of these lanes, of which the first has this number
abbrev pub lanes_text : ℕ → List (List Verdict) → List ℕ
lanes_text lane [] = []
lanes_text lane (verdicts ∷ lanes) = lane_text lane 0 verdicts ++ lanes_text (lane + 1) lanes

-- the first line
abbrev pub verdicts_header : List ℕ
verdicts_header = codes "slnf verdicts 1\n"

-- the first line, and one line for each packet, lane by lane
abbrev pub verdicts_text : List (List Verdict) → List ℕ
verdicts_text lanes = verdicts_header ++ lanes_text 0 lanes
