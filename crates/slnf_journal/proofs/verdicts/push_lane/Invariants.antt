-- the lines so far, and those of the verdicts that are left, are the lane's
use Rattle.std.proofs.Common.{◌≡◌, ◌++◌, drop}
use Rattle.slnf_journal.specs.Verdicts.{lane_text}
use Rattle.slnf_journal.proofs.verdicts.push_lane.Given as goal

abbrev pub invariant-loop-number : goal.invariant-loop-number
invariant-loop-number l =
    l.lines ++ lane_text l.lane l.number (drop l.number l.verdicts) ≡ l.fn.lines ++ lane_text l.lane 0 l.verdicts
