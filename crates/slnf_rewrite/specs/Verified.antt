-- What the checksums of a frame cover.
use Rattle.std.specs.Prelude.{◌≡◌, ◌≢◌, ℕ, ◌+◌, ◌*◌, ◌≤◌, ◌<◌, ◌^◌, List, ◌∷◌, ◌++◌, slice_range}
use Rattle.slnf_base.specs.Numbers.{proto_number}
use Rattle.slnf_base.specs.declared.addresses.Pair.{Pair}
use Rattle.slnf_base.specs.declared.packets.Proto.TheVariants.{Udp}
use Rattle.slnf_sum.specs.Sum.{words_of, Verifies}
use Rattle.slnf_view.specs.declared.View.{View}
use Rattle.slnf_view.specs.Field.{word_at}
use Rattle.slnf_view.specs.View.{transport_length}
use Rattle.slnf_rewrite.specs.Rewritten.{transport_check_place}

-- the words of the IPv4 header (RFC 791)
abbrev pub header_words : List ℕ → View → List ℕ
header_words frame view = words_of (slice_range frame view.ip view.l4)

-- the words of the pseudo-header, which are the two addresses, the protocol and the length of the segment or
-- user datagram, and the words of so many bytes from the transport header on (RFC 793, RFC 768)
abbrev pub transport_words : List ℕ → View → ℕ → List ℕ
transport_words frame view count =
    words_of (slice_range frame (view.ip + 12) (view.ip + 20))
    ++ proto_number view.packet.proto ∷ count ∷ words_of (slice_range frame view.l4 (view.l4 + count))

-- a transport checksum was made: always for TCP, and unless it is zero for UDP (RFC 768)
abbrev pub HasCheck : List ℕ → View → Type 0
HasCheck frame view =
    view.packet.proto ≡ Udp → word_at frame (transport_check_place view) ≢ 0

-- a transport checksum that verified verifies, whatever length there is to the transport header and its data
abbrev pub StaysVerified : List ℕ → List ℕ → View → Type 0
StaysVerified old new view =
    (count : ℕ) → transport_length view.packet.proto ≤ count
    → count < 2 ^ 16 → Verifies (transport_words old view count) → Verifies (transport_words new view count)

-- the places of the source's address and port, or of the destination's: side 0 or 1
abbrev pub IsSide : View → ℕ → ℕ → Type 0
IsSide view address port =
    (side : ℕ) × (side ≤ 1) × (address ≡ view.ip + 12 + 4 * side) × (port ≡ view.l4 + 2 * side)
