-- What the functions see of a frame, or the first reason against it. `p` is an IPv4 datagram, that is, the
-- frame behind its link header.
use Rattle.std.specs.Prelude.{◌≡◌, ℕ, ◌+◌, ◌*◌, ◌/◌, ◌%◌, ◌≤◌, Bool, false, ◌||◌, ◌&&◌, not, ◌==◌, nat_lt, nat_le, if◌then◌else◌, List, length, drop, slice_index, Option, Some, None, Result, Ok, Err}
use Rattle.std.specs.Option.{option_map_or}
use Rattle.slnf_base.specs.declared.packets.Link.{Link}
use Rattle.slnf_base.specs.declared.packets.Link.TheVariants.{Ethernet, Raw}
use Rattle.slnf_base.specs.declared.packets.Packet.{Packet}
use Rattle.slnf_base.specs.Numbers.{proto_with}
use Rattle.slnf_base.specs.declared.packets.Proto.{Proto}
use Rattle.slnf_base.specs.declared.packets.Proto.TheVariants.{Tcp, Udp}
use Rattle.slnf_base.specs.declared.packets.Reason.{Reason}
use Rattle.slnf_base.specs.declared.packets.Reason.TheVariants.{NotIpv4, Fragment, Short, Protocol}
use Rattle.slnf_view.specs.declared.View.{View}
use Rattle.slnf_view.specs.Field.{word_at, address_at}

-- where the IPv4 header begins: behind the 14 bytes of an Ethernet header, or at once
abbrev pub ip_of : Link → ℕ
ip_of Ethernet = 14
ip_of Raw = 0

-- the IPv4 datagram of a frame
abbrev pub datagram_of : Link → List ℕ → List ℕ
datagram_of link frame = drop (ip_of link) frame

-- an Ethernet header is cut, or its type isn't IPv4 (RFC 894)
abbrev pub lacks_ipv4_type : Link → List ℕ → Bool
lacks_ipv4_type Ethernet frame = nat_lt (length frame) 14 || not (word_at frame 12 == 0x0800)
lacks_ipv4_type Raw frame = false

-- the link header doesn't announce IPv4, or nothing is behind it, or the version isn't 4 (RFC 791)
abbrev pub is_not_ipv4 : Link → List ℕ → Bool
is_not_ipv4 link frame =
    let p = datagram_of link frame in
    lacks_ipv4_type link frame || (length p == 0) || not (slice_index p 0 / 16 == 4)

-- the flag "more fragments" (0x2000) or the offset (0x1fff) isn't zero, where they are there (RFC 791)
abbrev pub is_fragment : List ℕ → Bool
is_fragment p = nat_le 8 (length p) && not (word_at p 6 % 0x4000 == 0)

-- the length of the IPv4 header in bytes: IHL words of four bytes (RFC 791)
abbrev pub header_length : List ℕ → ℕ
header_length p = 4 * (slice_index p 0 % 16)

-- the datagram's protocol
abbrev pub proto_of : List ℕ → Option Proto
proto_of p = proto_with (slice_index p 9)

-- the length of the transport header without options (RFC 793, RFC 768)
abbrev pub transport_length : Proto → ℕ
transport_length Tcp = 20
transport_length Udp = 8

-- how many bytes both headers take
abbrev pub headers_length : List ℕ → ℕ
headers_length p = header_length p + option_map_or transport_length (proto_of p) 0

-- the total length (RFC 791) or what was captured doesn't cover both headers
abbrev pub is_short : List ℕ → Bool
is_short p =
    nat_lt (length p) 20
    || nat_lt (header_length p) 20
    || nat_lt (word_at p 2) (headers_length p)
    || nat_lt (length p) (headers_length p)

-- byte 13 of a TCP header, and 0 for UDP
abbrev pub flags_of : Proto → List ℕ → ℕ
flags_of Tcp p = slice_index p (header_length p + 13)
flags_of Udp p = 0

-- the two pairs at their places in the headers, and the flags
abbrev pub packet_of : Proto → List ℕ → Packet
packet_of proto p = record {
  proto = proto;
  source = record { addr = address_at p 12; port = word_at p (header_length p) };
  dest = record { addr = address_at p 16; port = word_at p (header_length p + 2) };
  flags = flags_of proto p;
}

-- the view of a datagram with this protocol, whose header is at `ip` in the frame
abbrev pub viewed : ℕ → List ℕ → Option Proto → Result View Reason
viewed ip p None = Err Protocol
viewed ip p (Some proto) = Ok (record { packet = packet_of proto p; ip = ip; l4 = ip + header_length p })

-- the frame's view, or the first reason that holds
abbrev pub view_of : Link → List ℕ → Result View Reason
view_of link frame =
    let p = datagram_of link frame in
    if is_not_ipv4 link frame then Err NotIpv4
    else (if is_fragment p then Err Fragment
    else (if is_short p then Err Short
    else viewed (ip_of link) p (proto_of p)))

-- the view is the frame's, for one of the link types
abbrev pub IsViewOf : List ℕ → View → Type 0
IsViewOf frame view = (link : Link) × (view_of link frame ≡ Ok view)

-- the IPv4 header, of 20 bytes or more, and the transport header behind it lie in the frame and in the
-- datagram's total length
pub record LiesWithin (frame : List ℕ) (view : View) : Type 0 where
  pub header : view.ip + 20 ≤ view.l4
  pub transport : view.l4 + transport_length view.packet.proto ≤ length frame
  pub total : view.l4 + transport_length view.packet.proto ≤ view.ip + word_at frame (view.ip + 2)
