-- so many have ended
use Rattle.std.proofs.Common.{◌≡◌, ◌-◌, ◌≤◌, length, drop}
use Rattle.slnf_follow.specs.Follows.{open_from}
use Rattle.slnf_follow.proofs.epochs.first_open.Given as goal

abbrev pub invariant-loop-done : goal.invariant-loop-done
invariant-loop-done g l = record {
  upto : l.done ≤ length l.hands;
  rest : open_from 0 l.hands ≡ open_from l.done (drop l.done l.hands);
}

abbrev pub decreases-loop-done : goal.decreases-loop-done
decreases-loop-done g l = length l.hands - l.done
