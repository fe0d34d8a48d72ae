-- the epochs so far have passed
use Rattle.std.proofs.Common.{◌≤◌, ◌*◌}
use Rattle.slnf_orch.specs.Passing.{IsUnderWay}
use Rattle.slnf_orch.proofs.plans.pass_epochs.Given as goal

abbrev pub invariant-loop-number : goal.invariant-loop-number
invariant-loop-number l = record {
  base : l.base ≤ 33 * l.number;
  under_way : IsUnderWay l.plan l.lanes l.number l.base l.shards l.ledger;
}
