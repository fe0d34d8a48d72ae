-- Each packet is of one ending, or left.
use Rattle.std.proofs.Common.{◌≡◌, ℕ, ◌+◌, List, [], ◌∷◌, length, refl, arith}
use Rattle.slnf_base.specs.declared.packets.Verdict.{Verdict}
use Rattle.slnf_base.specs.declared.packets.Verdict.TheVariants.{Emit, Dropped, Lost, Left}
use Rattle.slnf_run.specs.Verdicts.{left_of, left_in}
use Rattle.slnf_journal.specs.declared.summary.Ending.TheVariants as ending
use Rattle.slnf_journal.specs.Summary.{count_of, count_in, packets_in}

-- in a lane
lane_adds_up : (verdicts : List Verdict) → length verdicts ≡ count_of ending.Emitted verdicts
    + count_of ending.Dropped verdicts + count_of ending.Lost verdicts + left_of verdicts
lane_adds_up [] = refl
lane_adds_up (Emit change ∷ verdicts) = let rest = lane_adds_up verdicts in omega arith
lane_adds_up (Dropped reason ∷ verdicts) = let rest = lane_adds_up verdicts in omega arith
lane_adds_up (Lost ∷ verdicts) = let rest = lane_adds_up verdicts in omega arith
lane_adds_up (Left ∷ verdicts) = let rest = lane_adds_up verdicts in omega arith

-- in all lanes
pub adds_up : (lanes : List (List Verdict)) → packets_in lanes
    ≡ count_in ending.Emitted lanes + count_in ending.Dropped lanes + count_in ending.Lost lanes + left_in lanes
adds_up [] = refl
adds_up (verdicts ∷ lanes) = let lane = lane_adds_up verdicts in let rest = adds_up lanes in omega arith
