-- what is counted, and what is left to count, are all
use Rattle.std.proofs.Common.{◌≡◌, ◌≤◌, ◌+◌, drop}
use Rattle.slnf_run.specs.Verdicts.{left_of}
use Rattle.slnf_ledger.proofs.lefts.left_of.Given as goal

abbrev pub invariant-loop-verdict : goal.invariant-loop-verdict
invariant-loop-verdict l = record {
  counted : l.count + left_of (drop l.verdict-index l.verdicts) ≡ left_of l.verdicts;
  small : l.count ≤ l.verdict-index;
}
