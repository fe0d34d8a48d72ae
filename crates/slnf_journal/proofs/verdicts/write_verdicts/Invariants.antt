-- the lines so far, and those of the lanes that are left, are the text
use Rattle.std.proofs.Common.{◌≡◌, ◌++◌, drop}
use Rattle.slnf_journal.specs.Verdicts.{lanes_text, verdicts_text}
use Rattle.slnf_journal.proofs.verdicts.write_verdicts.Given as goal

abbrev pub invariant-loop-lane : goal.invariant-loop-lane
invariant-loop-lane l = l.lines ++ lanes_text l.lane (drop l.lane l.verdicts) ≡ verdicts_text l.verdicts
