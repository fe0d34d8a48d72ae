-- the packets so far and those of the records that are left are all, and those so far are in range
use Rattle.std.proofs.Common.{◌≡◌, ◌++◌, drop, true}
use Rattle.std.specs.List.{list_all}
use Rattle.slnf_flight.specs.Captures.{packets_in}
use Rattle.slnf_flight.specs.Ranges.{is_taken}
use Rattle.slnf_flight.proofs.captures.all_taken.Given as goal

abbrev pub invariant-loop-record : goal.invariant-loop-record
invariant-loop-record l = record {
  made : l.packets.items ++ packets_in l.link l.bytes (drop l.record-index l.records) ≡ packets_in l.link l.bytes l.records;
  in_range : list_all is_taken l.packets.items ≡ true;
}
