-- so many entries were taken
use Rattle.std.proofs.Common.{◌≡◌, ◌-◌, ◌≤◌, ℕ, length, take}
use Rattle.slnf_run.specs.Setting.{Setting}
use Rattle.slnf_flight.specs.Flights.{Arrival}
use Rattle.slnf_follow.specs.Follows.{Follows}
use Rattle.slnf_follow.proofs.entries.follow.Given as goal

abbrev pub invariant-loop-done : goal.invariant-loop-done
invariant-loop-done g l = record {
  upto : l.done ≤ length l.entries;
  count : length l.hands.items ≡ length l.fn.hands.items;
  follows : (s : Setting _ Arrival) (number : ℕ) (places : ℕ → ℕ) →
      Follows g.T.Items.work s (take l.from l.entries) number l.base places l.fn.hands.items →
      Follows g.T.Items.work s (take l.done l.entries) number l.base places l.hands.items;
}

abbrev pub decreases-loop-done : goal.decreases-loop-done
decreases-loop-done g l = length l.entries - l.done
