-- The frame that is emitted for a frame: the same bytes, but for one side's address and port and the two
-- checksums (RFC 3022, section 4.1).
use Rattle.std.specs.Prelude.{ℕ, ◌+◌, ◌/◌, ◌%◌, ◌==◌, if◌then◌else◌, List, [], ◌∷◌, ◌++◌, slice_set}
use Rattle.slnf_base.specs.declared.addresses.Pair.{Pair}
use Rattle.slnf_base.specs.declared.packets.Change.{Change}
use Rattle.slnf_base.specs.declared.packets.Change.TheVariants.{Keep, Source, Dest}
use Rattle.slnf_base.specs.declared.packets.Proto.{Proto}
use Rattle.slnf_base.specs.declared.packets.Proto.TheVariants.{Tcp, Udp}
use Rattle.slnf_sum.specs.Sum.{adjusted_over}
use Rattle.slnf_view.specs.declared.View.{View}
use Rattle.slnf_view.specs.Field.{word_at}

-- the bytes with a word at a place, the high byte first
abbrev pub with_word : List ℕ → ℕ → ℕ → List ℕ
with_word bytes place word =
    slice_set (slice_set bytes place (word / 256)) (place + 1) (word % 256)

-- the bytes with an address at a place: two words
abbrev pub with_address : List ℕ → ℕ → ℕ → List ℕ
with_address bytes place address =
    with_word (with_word bytes place (address / 65536)) (place + 2) (address % 65536)

-- the two words at an address's place, each with the new one
abbrev pub address_changes : List ℕ → ℕ → ℕ → List (ℕ × ℕ)
address_changes frame place address =
    (word_at frame place, address / 65536) ∷ (word_at frame (place + 2), address % 65536) ∷ []

-- those of an address and a port
abbrev pub pair_changes : List ℕ → ℕ → ℕ → Pair → List (ℕ × ℕ)
pair_changes frame address port pair =
    address_changes frame address pair.addr ++ (word_at frame port, pair.port) ∷ []

-- the place of the header's checksum (RFC 791)
abbrev pub header_check_place : View → ℕ
header_check_place view = view.ip + 10

-- the place of the checksum in a transport header (RFC 793, RFC 768)
abbrev pub check_offset : Proto → ℕ
check_offset Tcp = 16
check_offset Udp = 6

-- its place in the frame
abbrev pub transport_check_place : View → ℕ
transport_check_place view = view.l4 + check_offset view.packet.proto

-- a UDP checksum that was made is never written as zero (RFC 768)
abbrev pub nonzero : ℕ → ℕ
nonzero check = if check == 0 then 65535 else check

-- the transport checksum after changes; a UDP checksum of zero says that none was made, and stays (RFC 768)
abbrev pub transport_adjusted : Proto → ℕ → List (ℕ × ℕ) → ℕ
transport_adjusted Tcp check changes = adjusted_over check changes
transport_adjusted Udp check changes =
    if check == 0 then 0 else nonzero (adjusted_over check changes)

-- the header's checksum with another address at a place
abbrev pub header_check : List ℕ → View → ℕ → Pair → ℕ
header_check frame view address pair =
    adjusted_over (word_at frame (header_check_place view)) (address_changes frame address pair.addr)

-- the transport checksum with another pair at two places
abbrev pub transport_check : List ℕ → View → ℕ → ℕ → Pair → ℕ
transport_check frame view address port pair =
    transport_adjusted view.packet.proto (word_at frame (transport_check_place view)) (pair_changes frame address port pair)

-- the frame with another pair at two places, and both checksums
abbrev pub with_pair : List ℕ → View → ℕ → ℕ → Pair → List ℕ
with_pair frame view address port pair =
    with_word (with_word (with_word (with_address frame address pair.addr) port pair.port)
    (header_check_place view) (header_check frame view address pair))
    (transport_check_place view) (transport_check frame view address port pair)

-- the frame after a change of the packet
abbrev pub rewritten : List ℕ → View → Change → List ℕ
rewritten frame view Keep = frame
rewritten frame view (Source pair) = with_pair frame view (view.ip + 12) view.l4 pair
rewritten frame view (Dest pair) = with_pair frame view (view.ip + 16) (view.l4 + 2) pair
