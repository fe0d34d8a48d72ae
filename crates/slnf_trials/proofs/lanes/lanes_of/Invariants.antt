-- the lanes so far are few, and so are their packets
use Rattle.std.proofs.Common.{◌≤◌, ◌*◌, length}
use Rattle.slnf_flight.specs.Lanes.{packet_count}
use Rattle.slnf_trials.proofs.lanes.lanes_of.Given as goal

abbrev pub invariant-loop-piece : goal.invariant-loop-piece
invariant-loop-piece l = record {
  few : length l.lanes.items ≤ 32;
  packets : packet_count l.lanes.items ≤ 1024 * length l.lanes.items;
}
