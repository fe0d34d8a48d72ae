-- the records so far, and the words that were drawn for them
use Rattle.std.proofs.Common.{◌≡◌, ◌++◌}
use Rattle.std.specs.List.{flat_map, range_with_len}
use Rattle.slnf_gen.specs.Words.{state_after}
use Rattle.slnf_gen.specs.Packets.{file_header}
use Rattle.slnf_gen.specs.Captures.{drawn_record}
use Rattle.slnf_gen.proofs.captures.capture.Given as goal

abbrev pub invariant-loop-number : goal.invariant-loop-number
invariant-loop-number l = record {
  bytes : l.bytes.items ≡ file_header ++ flat_map (drawn_record l.fn.words) (range_with_len 0 l.number);
  drawn : l.words ≡ state_after l.number l.fn.words;
}
