-- The output capture of a lane.
use Rattle.std.specs.Prelude.{ℕ, List, [], ◌∷◌, ◌++◌, take, drop, Result, Ok, Err}
use Rattle.slnf_base.specs.declared.packets.Change.{Change}
use Rattle.slnf_base.specs.declared.packets.Link.{Link}
use Rattle.slnf_base.specs.declared.packets.Reason.{Reason}
use Rattle.slnf_base.specs.declared.packets.Verdict.{Verdict}
use Rattle.slnf_base.specs.declared.packets.Verdict.TheVariants.{Emit, Dropped, Lost, Left}
use Rattle.slnf_pcap.specs.declared.capture.Captured.{Captured}
use Rattle.slnf_pcap.specs.declared.capture.Capture.{Capture}
use Rattle.slnf_view.specs.declared.View.{View}
use Rattle.slnf_view.specs.View.{view_of}
use Rattle.slnf_rewrite.specs.Rewritten.{rewritten}
use Rattle.slnf_flight.specs.Captures.{frame_of}

-- the frame after a change; one without a view, which no function sees, stays
abbrev pub changed : List ℕ → Change → Result View Reason → List ℕ
changed frame change (Ok view) = rewritten frame view change
changed frame change (Err reason) = frame

-- what a packet with this verdict adds: its record header as it stands and the rewritten frame, where it is emitted
abbrev pub emitted : Link → List ℕ → Captured → Verdict → List ℕ
emitted link bytes packet (Emit change) =
    take 16 (drop packet.at bytes) ++ changed (frame_of bytes packet) change (view_of link (frame_of bytes packet))
emitted link bytes packet (Dropped reason) = []
emitted link bytes packet Lost = []
emitted link bytes packet Left = []

-- what these packets add, in order
abbrev pub all_emitted : Link → List ℕ → List Captured → List Verdict → List ℕ
all_emitted link bytes [] verdicts = []
all_emitted link bytes (packet ∷ packets) [] = []
all_emitted link bytes (packet ∷ packets) (verdict ∷ verdicts) =
    emitted link bytes packet verdict ++ all_emitted link bytes packets verdicts

-- The input's file header, and for each emitted packet in order its record.
abbrev pub output_of : List ℕ → Capture → List Verdict → List ℕ
output_of bytes capture verdicts = take 24 bytes ++ all_emitted capture.link bytes capture.packets verdicts
