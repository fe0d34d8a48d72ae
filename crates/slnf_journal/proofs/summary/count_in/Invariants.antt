-- what is counted, and what is left to count, are all
use Rattle.std.proofs.Common.{◌≡◌, ◌≤◌, ◌+◌, ◌*◌, ◌^◌, drop}
use Rattle.slnf_journal.specs.Summary.{count_in}
use Rattle.slnf_journal.proofs.summary.count_in.Given as goal

abbrev pub invariant-loop-verdicts : goal.invariant-loop-verdicts
invariant-loop-verdicts l = record {
  counted : l.count + count_in l.ending (drop l.verdicts-index l.lanes) ≡ count_in l.ending l.lanes;
  small : l.count ≤ 2 ^ 64 * l.verdicts-index;
}
