-- The words of the texts: decimals, hexadecimal digits, and pairs.
use Rattle.std.specs.Prelude.{ℕ, zero, suc, ◌+◌, ◌-◌, ◌/◌, ◌%◌, nat_lt, if◌then◌else◌, List, [], ◌∷◌, ◌++◌, decimal}
use Rattle.slnf_base.specs.declared.addresses.Pair.{Pair}

-- the lower-case hexadecimal digit of a number below 16
abbrev pub hex_digit : ℕ → ℕ
hex_digit number = if nat_lt number 10 then 48 + number else 97 + (number - 10)

-- the number's lowest hexadecimal digits, so many of them, the highest first
unfoldable pub hex_text : ℕ → ℕ → List ℕ
hex_text zero number = []
hex_text (suc width) number = hex_text width (number / 16) ++ hex_digit (number % 16) ∷ []

-- an address and a port: four decimals joined by full stops, a colon, and the port
unfoldable pub pair_text : Pair → List ℕ
pair_text pair =
    decimal (pair.addr / 16777216) ++ 46 ∷ [] ++ decimal (pair.addr / 65536 % 256) ++ 46 ∷ []
    ++ decimal (pair.addr / 256 % 256) ++ 46 ∷ [] ++ decimal (pair.addr % 256) ++ 58 ∷ [] ++ decimal pair.port
