-- Fields of packets: numbers at places, the highest byte first (network byte order).
use Rattle.std.specs.Prelude.{ℕ, ◌+◌, ◌*◌, List, slice_index}

-- the 16-bit word at a place
abbrev pub word_at : List ℕ → ℕ → ℕ
word_at bytes place = slice_index bytes place * 256 + slice_index bytes (place + 1)

-- the IPv4 address at a place: two words
abbrev pub address_at : List ℕ → ℕ → ℕ
address_at bytes place = word_at bytes place * 65536 + word_at bytes (place + 2)
