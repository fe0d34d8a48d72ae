-- The file format of classic captures, version 2.4: a header of 24 bytes. Its fields are the magic number,
-- the version as two numbers of 16 bits, 8 bytes that are kept unread, the snapshot length and the link type.
use Rattle.std.specs.Prelude.{ℕ, ◌==◌, ◌&&◌, List, length, drop, Bool, true, false, Option, Some, None, Result, Ok, Err, nat_lt, if◌then◌else◌}
use Rattle.byteorder.specs.Endian.{big_number, little_number}
use Rattle.slnf_base.specs.declared.packets.Link.{Link}
use Rattle.slnf_base.specs.declared.packets.Link.TheVariants.{Ethernet, Raw}
use Rattle.slnf_pcap.specs.declared.errors.PcapError.{PcapError}
use Rattle.slnf_pcap.specs.declared.errors.PcapError.TheVariants.{ShortHeader, BadMagic, BadVersion, LinkType}
use Rattle.slnf_pcap.specs.declared.read.Style.{Style}
use Rattle.slnf_pcap.specs.declared.read.Header.{Header}

-- the number in `count` bytes from a place on, with the highest or the lowest byte first
abbrev pub field : Bool → ℕ → ℕ → List ℕ → ℕ
field big count at bytes = if big then big_number count (drop at bytes) else little_number count (drop at bytes)

-- the writer's byte order and the unit of fractions, by the four spellings of the magic number
abbrev pub style_of : ℕ → Option Style
style_of magic =
    if magic == 0xa1b2c3d4 then Some (record { big = true; nanos = false })
    else if magic == 0xd4c3b2a1 then Some (record { big = false; nanos = false })
    else if magic == 0xa1b23c4d then Some (record { big = true; nanos = true })
    else if magic == 0x4d3cb2a1 then Some (record { big = false; nanos = true })
    else None

-- the link types that are read
abbrev pub link_of : ℕ → Result Link PcapError
link_of number =
    if number == 1 then Ok Ethernet
    else if number == 101 then Ok Raw
    else Err (LinkType number)

-- a style with its link type
abbrev pub with_link : Style → Result Link PcapError → Result Header PcapError
with_link style (Ok link) = Ok (record { style = style; link = link })
with_link style (Err error) = Err error

-- the version and the link type of a header in this style
abbrev pub header_in : Option Style → List ℕ → Result Header PcapError
header_in None bytes = Err BadMagic
header_in (Some style) bytes =
    if (field style.big 2 4 bytes == 2) && (field style.big 2 6 bytes == 4)
    then with_link style (link_of (field style.big 4 20 bytes))
    else Err BadVersion

-- the header of a file, or the first rule that it breaks
abbrev pub header_of : List ℕ → Result Header PcapError
header_of bytes = if nat_lt (length bytes) 24 then Err ShortHeader else header_in (style_of (big_number 4 bytes)) bytes
