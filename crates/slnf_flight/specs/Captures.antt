-- The packets of a capture, as the functions see them.
use Rattle.std.specs.Prelude.{ℕ, ◌+◌, List, [], ◌∷◌, take, drop, Result, Ok, Err}
use Rattle.slnf_base.specs.declared.packets.Link.{Link}
use Rattle.slnf_base.specs.declared.packets.Reason.{Reason}
use Rattle.slnf_pcap.specs.declared.capture.Captured.{Captured}
use Rattle.slnf_pcap.specs.declared.capture.Capture.{Capture}
use Rattle.slnf_view.specs.declared.View.{View}
use Rattle.slnf_view.specs.View.{view_of}
use Rattle.slnf_flight.specs.declared.lanes.Taken.{Taken}
use Rattle.slnf_flight.specs.declared.lanes.Taken.TheVariants.{Seen, Bad}

-- the captured bytes of a record, behind the 16 of its header
abbrev pub frame_of : List ℕ → Captured → List ℕ
frame_of bytes packet = take packet.len (drop (packet.at + 16) bytes)

-- what the functions see of a frame
abbrev pub taken_of_view : Result View Reason → Taken
taken_of_view (Ok view) = Seen view.packet
taken_of_view (Err reason) = Bad reason

abbrev pub taken_of_frame : Link → List ℕ → Taken
taken_of_frame link frame = taken_of_view (view_of link frame)

-- what the functions see of these records
abbrev pub packets_in : Link → List ℕ → List Captured → List Taken
packets_in link bytes [] = []
packets_in link bytes (packet ∷ packets) = taken_of_frame link (frame_of bytes packet) ∷ packets_in link bytes packets

-- the packets of a capture that was read from these bytes
abbrev pub packets_of : List ℕ → Capture → List Taken
packets_of bytes capture = packets_in capture.link bytes capture.packets
