-- what is counted, and what is left to count, are all
use Rattle.std.proofs.Common.{◌≡◌, ◌+◌, drop}
use Rattle.slnf_run.specs.Verdicts.{left_in}
use Rattle.slnf_ledger.proofs.lefts.left_in.Given as goal

abbrev pub invariant-loop-verdicts : goal.invariant-loop-verdicts
invariant-loop-verdicts l = l.count + left_in (drop l.verdicts-index l.lanes) ≡ left_in l.lanes
