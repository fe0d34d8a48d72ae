use Rattle.std.proofs.Common.{◌≡◌, ◌≤◌}
use Rattle.slnf_turns.proofs.turns.steps.wait.Given as goal

abbrev pub invariant-loop : goal.invariant-loop
invariant-loop g l = (l.place.table_id ≡ l.initial.place.table_id) × (l.place.me ≡ l.initial.place.me) × (l.looks ≤ 64)
