-- what is counted, and the packets of the lanes that are left, are all
use Rattle.std.proofs.Common.{◌≡◌, ◌≤◌, ◌+◌, ◌*◌, ◌^◌, drop}
use Rattle.slnf_journal.specs.Summary.{packets_in}
use Rattle.slnf_journal.proofs.summary.packets_in.Given as goal

abbrev pub invariant-loop-verdicts : goal.invariant-loop-verdicts
invariant-loop-verdicts l = record {
  counted : l.count + packets_in (drop l.verdicts-index l.lanes) ≡ packets_in l.lanes;
  small : l.count ≤ 2 ^ 64 * l.verdicts-index;
}
