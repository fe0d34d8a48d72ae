-- What a file says as a capture.
use Rattle.std.specs.Prelude.{◌≤◌, ℕ, ◌+◌, List, take, drop, length, Result, Ok}
use Rattle.slnf_pcap.specs.declared.errors.PcapError.{PcapError}
use Rattle.slnf_pcap.specs.declared.read.Header.{Header}
use Rattle.slnf_pcap.specs.declared.capture.Captured.{Captured}
use Rattle.slnf_pcap.specs.declared.capture.Capture.{Capture}
use Rattle.slnf_pcap.specs.Format.{header_of}
use Rattle.slnf_pcap.specs.Records.{records_from, ◌>>=◌}

-- what the header and the records say
abbrev pub capture_in : Header → List Captured → Result Capture PcapError
capture_in header packets =
    Ok (record { big = header.style.big; nanos = header.style.nanos; link = header.link; packets = packets })

-- the records from place 24 on, of which there are at most 1,048,576
abbrev pub records_of : List ℕ → Header → Result Capture PcapError
records_of bytes header = records_from header.style.big 1048576 24 (drop 24 bytes) >>= capture_in header

-- the capture that a file is, or the first rule that it breaks: the header, and then the records
unfoldable pub capture_of : List ℕ → Result Capture PcapError
capture_of bytes = header_of bytes >>= records_of bytes

-- the bytes of a record, its header first
abbrev pub record_bytes : List ℕ → Captured → List ℕ
record_bytes bytes packet = take (16 + packet.len) (drop packet.at bytes)

-- A record lies in the file whole, and holds no more than 262,144 captured bytes.
pub record LiesIn (bytes : List ℕ) (packet : Captured) : Type 0 where
  pub whole : packet.at + 16 + packet.len ≤ length bytes
  pub short : packet.len ≤ 262144
