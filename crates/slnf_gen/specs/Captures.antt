-- The captures of a load, and what they are read as.
use Rattle.std.specs.Prelude.{ℕ, ◌+◌, ◌*◌, List, ◌++◌, map, false}
use Rattle.std.specs.List.{flat_map, range_with_len}
use Rattle.slnf_base.specs.declared.packets.Link.TheVariants.{Raw}
use Rattle.slnf_pcap.specs.declared.capture.Capture.{Capture}
use Rattle.slnf_pcap.specs.declared.capture.Captured.{Captured}
use Rattle.slnf_gen.specs.Words.{state_after, word_after}
use Rattle.slnf_gen.specs.Packets.{file_header, record_header, ipv4_header, udp_header}

-- the datagram of this number and word
unfoldable pub datagram_of : ℕ → ℕ → List ℕ
datagram_of number word = ipv4_header number word ++ udp_header word

-- its record
unfoldable pub record_of : ℕ → ℕ → List ℕ
record_of number word = record_header number ++ datagram_of number word

-- the record of the packet of this number, where the words are the generator's from this state on
abbrev pub drawn_record : ℕ → ℕ → List ℕ
drawn_record state number = record_of number (word_after number state)

-- the capture of so many packets
unfoldable pub capture_from : ℕ → ℕ → List ℕ
capture_from state packets = file_header ++ flat_map (drawn_record state) (range_with_len 0 packets)

-- the capture of a lane, where the lanes before it have as many packets
abbrev pub lane_capture : ℕ → ℕ → ℕ → List ℕ
lane_capture number packets lane = capture_from (state_after (lane * packets) number) packets

-- The captures of a number, lane by lane: the generator's first state is the number, and each lane goes on where
-- the one before it ended.
unfoldable pub captures_of : ℕ → ℕ → ℕ → List (List ℕ)
captures_of number lanes packets = map (lane_capture number packets) (range_with_len 0 lanes)

-- what each of them is read as: raw IP, lowest bytes first, and records of 28 bytes
abbrev pub packet_told : ℕ → Captured
packet_told number = record { at = 24 + 44 * number; len = 28 }

abbrev pub capture_told : ℕ → Capture
capture_told packets = record {
  big = false;
  nanos = false;
  link = Raw;
  packets = map packet_told (range_with_len 0 packets);
}
