use Rattle.std.proofs.Common.{◌≡◌}
use Rattle.slnf_plan.specs.Plans.{places}
use Rattle.slnf_plan.proofs.epochs.places.Given as goal

abbrev pub invariant-loop-place : goal.invariant-loop-place
invariant-loop-place l = l.all.items ≡ places l.place
