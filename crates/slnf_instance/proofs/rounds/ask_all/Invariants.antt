-- so many items were asked
use Rattle.std.proofs.Common.{◌-◌, ◌≤◌, ◌≡◌, length, take, vec_capacity}
use Rattle.slnf_instance.specs.Works.{asks_of}
use Rattle.slnf_instance.proofs.rounds.ask_all.Given as goal

abbrev pub invariant-loop-done : goal.invariant-loop-done
invariant-loop-done g l = record {
  upto : l.done ≤ length l.flights;
  asks : l.asks.items ≡ asks_of (g.T.Items.work l.items).machine.asks l.from (take l.done l.flights);
  room : vec_capacity l.fn.asks ≤ vec_capacity l.asks;
}

abbrev pub decreases-loop-done : goal.decreases-loop-done
decreases-loop-done g l = length l.flights - l.done
