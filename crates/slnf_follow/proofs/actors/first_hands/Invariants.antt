-- the hands so far
use Rattle.std.proofs.Common.{◌≡◌, length}
use Rattle.slnf_run.proofs.Lists.{EveryAt}
use Rattle.slnf_follow.specs.Follows.{come_to, IsFirstOf}
use Rattle.slnf_follow.proofs.actors.first_hands.Given as goal

abbrev pub invariant-loop-number : goal.invariant-loop-number
invariant-loop-number l = record {
  count : length l.hands.items ≡ l.number;
  each : EveryAt (IsFirstOf l.plan l.epoch (come_to l.places) l.items) 0 l.hands.items;
}
