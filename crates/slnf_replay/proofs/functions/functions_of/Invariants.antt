-- each function so far is its epoch's
use Rattle.std.proofs.Common.{◌≡◌, length}
use Rattle.slnf_replay.proofs.Crews.{AreFunctionsSoFar}
use Rattle.slnf_replay.proofs.functions.functions_of.Given as goal

abbrev pub invariant-loop-number : goal.invariant-loop-number
invariant-loop-number l = record {
  count : length l.functions.items ≡ l.number;
  each : AreFunctionsSoFar l.plan.function l.plan.epochs l.functions.items;
}
