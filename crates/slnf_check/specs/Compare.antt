-- Where two texts differ.
use Rattle.std.specs.Prelude.{ℕ, suc, ◌+◌, ◌==◌, Bool, true, false, List, [], ◌∷◌, Option, Some, None, option_map, count_by, take}

-- a place found behind this byte, or this one where the bytes differ
abbrev pub behind : Bool → Option ℕ → Option ℕ
behind true found = option_map suc found
behind false found = Some 0

-- the place, counted from 0, of the first byte that differs, or that only one of the texts has
unfoldable pub first_other_byte : List ℕ → List ℕ → Option ℕ
first_other_byte [] [] = None
first_other_byte [] (byte ∷ bytes) = Some 0
first_other_byte (byte ∷ bytes) [] = Some 0
first_other_byte (one ∷ ones) (other ∷ others) = behind (one == other) (first_other_byte ones others)

-- how many line feeds these bytes have
abbrev pub line_feeds : List ℕ → ℕ
line_feeds bytes = count_by (λ byte. byte == 10) bytes

-- the line, counted from 1, that has the byte of this place
abbrev pub line_at : List ℕ → ℕ → ℕ
line_at bytes place = 1 + line_feeds (take place bytes)

-- the first line that differs, or that only one of the texts has
abbrev pub first_other_line : List ℕ → List ℕ → Option ℕ
first_other_line ones others = option_map (line_at ones) (first_other_byte ones others)
