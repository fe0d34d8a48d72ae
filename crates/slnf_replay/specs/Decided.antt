-- What a list of entries itself decides of its packets, in the order of the packets' places: no box is asked.
use Rattle.std.specs.Prelude.{◌≡◌, ◌⊎◌, ℕ, ◌+◌, ◌==◌, if◌then◌else◌, Option, Some, None, List, [], ◌∷◌, length, slice_get}
use Rattle.std.specs.List.{range_with_len, flat_map}
use Rattle.slnf_base.specs.declared.packets.Verdict.TheVariants.{Lost}
use Rattle.slnf_access.specs.declared.requests.Entry.{Entry}
use Rattle.slnf_run.specs.Setting.{Setting}
use Rattle.slnf_run.specs.Verdicts.{verdict_of}
use Rattle.slnf_run.specs.Visits.{Decision, decision_at}
use Rattle.slnf_journal.specs.declared.box_lines.BoxLine.{BoxLine}
use Rattle.slnf_replay.specs.Lines.{lane_of}

-- the verdict that is decided at the entry e with the number `decider`, if one is, of a packet with its place at t
abbrev pub decided_here : {F A : Type 0} → Setting F A → List Entry → ℕ → ℕ → Option Entry → Option (Decision F)
    → List BoxLine
decided_here s es t decider None decision = []
decided_here s es t decider (Some e) None = []
decided_here s es t decider (Some e) (Some decision) =
    if s.scene.place es decider decision.first decision.verdict == t
    then record { place = t + 1; lane = lane_of s e.incarnation; number = e.item; verdict = decision.verdict } ∷ []
    else []

-- the verdicts of all packets with their place at the entry with the number t, from 0 on
abbrev pub decided_with_place : {F A : Type 0} → Setting F A → List Entry → ℕ → List BoxLine
decided_with_place s es t = flat_map
    (λ decider. decided_here s es t decider (slice_get es decider) (decision_at s.scene es decider))
    (range_with_len 0 (length es))

-- The verdicts of all packets that have a place, in the order of the places, which are counted from 1.
abbrev pub decided_lines : {F A : Type 0} → Setting F A → List Entry → List BoxLine
decided_lines s es = flat_map (decided_with_place s es) (range_with_len 0 (length es))

-- The verdict that is written for a line's packet is the line's, or the packet is lost.
abbrev pub IsWritten : {F A : Type 0} → Setting F A → List Entry → BoxLine → Type 0
IsWritten s es line = (verdict_of s es line.lane line.number ≡ line.verdict)
    ⊎ (verdict_of s es line.lane line.number ≡ Lost)
