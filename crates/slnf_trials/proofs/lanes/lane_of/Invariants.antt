-- the packets so far are few, and in their ranges
use Rattle.std.proofs.Common.{◌≤◌, length, IsTrue}
use Rattle.std.specs.List.{list_all}
use Rattle.slnf_flight.specs.Ranges.{is_taken}
use Rattle.slnf_trials.proofs.lanes.lane_of.Given as goal

abbrev pub invariant-loop-letter : goal.invariant-loop-letter
invariant-loop-letter l = record {
  few : length l.packets.items ≤ 1024;
  fit : IsTrue (list_all is_taken l.packets.items);
}
