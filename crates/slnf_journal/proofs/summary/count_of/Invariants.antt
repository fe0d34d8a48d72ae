-- what is counted, and what is left to count, are all
use Rattle.std.proofs.Common.{◌≡◌, ◌≤◌, ◌+◌, drop}
use Rattle.slnf_journal.specs.Summary.{count_of}
use Rattle.slnf_journal.proofs.summary.count_of.Given as goal

abbrev pub invariant-loop-verdict : goal.invariant-loop-verdict
invariant-loop-verdict l = record {
  counted : l.count + count_of l.ending (drop l.verdict-index l.verdicts) ≡ count_of l.ending l.verdicts;
  small : l.count ≤ l.verdict-index;
}
