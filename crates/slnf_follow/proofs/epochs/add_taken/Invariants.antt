-- what the rest took is still to be added
use Rattle.std.proofs.Common.{◌≡◌, ℕ, ◌+◌, ◌-◌, ◌*◌, ◌^◌, ◌<◌, ◌≤◌, length, drop}
use Rattle.slnf_follow.specs.Follows.{come_to, taken_on}
use Rattle.slnf_follow.proofs.epochs.add_taken.Given as goal

abbrev pub invariant-loop-done : goal.invariant-loop-done
invariant-loop-done g l = record {
  upto : l.done ≤ length l.instances;
  count : length l.places.items ≡ length l.fn.places.items;
  rest : (lane : ℕ) →
      come_to l.places.items lane + taken_on lane (drop l.done l.instances) (drop l.done l.hands)
      ≡ come_to l.fn.places.items lane + taken_on lane l.instances l.hands;
  room : (lane : ℕ) → come_to l.places.items lane + (length l.instances - l.done) * 2 ^ 32 < 2 ^ 64;
}

abbrev pub decreases-loop-done : goal.decreases-loop-done
decreases-loop-done g l = length l.instances - l.done
