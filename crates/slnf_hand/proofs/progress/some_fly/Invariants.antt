-- none of so many flies
use Rattle.std.proofs.Common.{◌≡◌, ◌-◌, ◌≤◌, length, drop}
use Rattle.slnf_hand.specs.Reached.{some_fly}
use Rattle.slnf_hand.proofs.progress.some_fly.Given as goal

abbrev pub invariant-loop-done : goal.invariant-loop-done
invariant-loop-done g l = record {
  upto : l.done ≤ length l.flights;
  none : some_fly l.flights ≡ some_fly (drop l.done l.flights);
}

abbrev pub decreases-loop-done : goal.decreases-loop-done
decreases-loop-done g l = length l.flights - l.done
