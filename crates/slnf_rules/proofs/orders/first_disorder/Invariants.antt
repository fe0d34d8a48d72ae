-- so many entries are in order
use Rattle.std.proofs.Common.{◌-◌, ◌≤◌, length, take, []}
use Rattle.slnf_run.specs.Made.{Grown}
use Rattle.slnf_local.specs.Rules.{IsOrderly}
use Rattle.slnf_rules.proofs.orders.first_disorder.Given as goal

abbrev pub invariant-loop-done : goal.invariant-loop-done
invariant-loop-done l = record {
  upto : l.done ≤ length l.entries;
  grown : Grown (IsOrderly l.shards) [] (take l.done l.entries);
}

abbrev pub decreases-loop-done : goal.decreases-loop-done
decreases-loop-done l = length l.entries - l.done
