-- The packets of a load: UDP datagrams of 28 bytes, each of its number and of a drawn word.
use Rattle.std.specs.Prelude.{ℕ, ◌+◌, ◌*◌, ◌/◌, ◌%◌, List, [], ◌∷◌, ◌++◌}
use Rattle.std.specs.Int.{w16, w32, to_le_bytes, to_be_bytes}
use Rattle.slnf_sum.specs.Sum.{words_of, sum_of, complement, Verifies}

-- The file header of a classic capture, lowest bytes first: the magic number for microseconds, version 2.4,
-- two fields of zeros, the snapshot length, and the link type of raw IP.
unfoldable pub file_header : List ℕ
file_header =
    to_le_bytes w32 0xa1b2c3d4 ++ to_le_bytes w16 2 ++ to_le_bytes w16 4 ++ to_le_bytes w32 0 ++ to_le_bytes w32 0
    ++ to_le_bytes w32 262144 ++ to_le_bytes w32 101

-- a record's header: seconds, fraction, captured length and length on the wire
unfoldable pub record_header : ℕ → List ℕ
record_header number = to_le_bytes w32 number ++ to_le_bytes w32 0 ++ to_le_bytes w32 28 ++ to_le_bytes w32 28

-- The IPv4 header with this checksum (RFC 791): version 4 with five words, type of service 0, total length 28,
-- the identification, no flags, time to live 64, protocol 17, the checksum, the source 10.0.0.0 to 10.0.0.255, and
-- the destination 198.51.100.7.
unfoldable pub header_with : ℕ → ℕ → ℕ → List ℕ
header_with check number word =
    69 ∷ 0 ∷ 0 ∷ 28 ∷ to_be_bytes w16 (number % 65536) ++ 0 ∷ 0 ∷ 64 ∷ 17 ∷ to_be_bytes w16 check
    ++ 10 ∷ 0 ∷ 0 ∷ (word % 256) ∷ 198 ∷ 51 ∷ 100 ∷ 7 ∷ []

-- the header's checksum: its own field is zero for it (RFC 791, RFC 1071)
unfoldable pub header_checksum : ℕ → ℕ → ℕ
header_checksum number word = complement (sum_of (words_of (header_with 0 number word)))

unfoldable pub ipv4_header : ℕ → ℕ → List ℕ
ipv4_header number word = header_with (header_checksum number word) number word

-- one of 64 ports, 256 apart
abbrev pub source_port : ℕ → ℕ
source_port word = 1024 + 256 * (word / 256 % 64)

-- the UDP header (RFC 768): the ports, the length 8, and no checksum
unfoldable pub udp_header : ℕ → List ℕ
udp_header word = to_be_bytes w16 (source_port word) ++ to_be_bytes w16 53 ++ to_be_bytes w16 8 ++ to_be_bytes w16 0

-- Law of headers. The checksum of every header of a load is right.
abbrev pub LawOfHeaders : Type 0
LawOfHeaders = (number word : ℕ) → Verifies (words_of (ipv4_header number word))
