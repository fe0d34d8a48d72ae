use Rattle.std.proofs.Common.{length, ◌-◌, ◌≡◌, ◌≤◌, ◌++◌, drop, take, All, vec_len}
use Rattle.std.specs.List.{flat_map}
use Rattle.slnf_pcap.specs.Records.{records_from}
use Rattle.slnf_pcap.specs.Captures.{record_bytes, LiesIn}
use Rattle.slnf_pcap.proofs.Laws.{with_front}
use Rattle.slnf_pcap.proofs.read.read_records.Given as goal

abbrev pub invariant-loop-at : goal.invariant-loop-at
invariant-loop-at l = record {
  place : l.at ≤ length l.bytes;
  few : vec_len l.packets ≤ 1048576;
  rest : with_front l.packets.items (records_from l.big (1048576 - vec_len l.packets) l.at (drop l.at l.bytes))
      ≡ records_from l.big 1048576 24 (drop 24 l.bytes);
  lie : All (LiesIn l.bytes) l.packets.items;
  parts : take l.at l.bytes ≡ take 24 l.bytes ++ flat_map (record_bytes l.bytes) l.packets.items;
}

abbrev pub decreases-loop-at : goal.decreases-loop-at
decreases-loop-at l = length l.bytes - l.at
