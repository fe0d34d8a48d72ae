use Rattle.std.proofs.Common.{◌≡◌}
use Rattle.slnf_turns.specs.Passes.{view, IsOf, HasNoTurn}
use Rattle.slnf_turns.proofs.tests.work.Given as goal

abbrev pub invariant-loop-round : goal.invariant-loop-round
invariant-loop-round g l = IsOf l.turns l.pass × HasNoTurn (view l.pass) × ((view l.pass).number ≡ l.number)

abbrev pub invariant-loop-shard : goal.invariant-loop-shard
invariant-loop-shard g l = IsOf l.turns l.pass × HasNoTurn (view l.pass) × ((view l.pass).number ≡ l.number)
