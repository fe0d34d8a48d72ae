-- How addresses, pairs and prefixes are written.
use Rattle.std.specs.Prelude.{ℕ, ◌+◌, ◌-◌, ◌*◌, ◌%◌, ◌^◌, Bool, true, false, not, ◌&&◌, ◌==◌, nat_le, List, [], ◌∷◌, length, take, drop, fold, Option, Some, None, option_and_then, unwrap_or, position, if◌then◌else◌}
use Rattle.std.specs.Char.{is_ascii_digit}
use Rattle.slnf_base.specs.declared.addresses.Pair.{Pair}
use Rattle.slnf_plan.specs.Plain.{PlainPrefix}

infixl 10 ◌>>=◌
abbrev pub ◌>>=◌ : {A B : Type 0} → Option A → (A → Option B) → Option B
o >>= f = option_and_then f o

-- how many decimal digits stand at the front
abbrev pub digit_count : List ℕ → ℕ
digit_count bytes = unwrap_or (position (λ b. not (is_ascii_digit b)) bytes) (length bytes)

-- the number that decimal digits spell
abbrev pub value_of : List ℕ → ℕ
value_of digits = fold (λ n b. n * 10 + (b - 48)) 0 digits

-- a decimal has a digit, and no zero before another one
abbrev pub is_decimal : List ℕ → Bool
is_decimal [] = false
is_decimal (d ∷ []) = true
is_decimal (d ∷ e ∷ ds) = not (d == 48)

-- the decimal at the front, where it is at most so much, and the bytes after it
unfoldable pub decimal_at : ℕ → List ℕ → Option (ℕ × List ℕ)
decimal_at most bytes =
    let digits = take (digit_count bytes) bytes in
    if is_decimal digits && nat_le (value_of digits) most then Some (value_of digits, drop (digit_count bytes) bytes) else None

-- the bytes after a mark
abbrev pub after : ℕ → List ℕ → Option (List ℕ)
after mark [] = None
after mark (b ∷ bytes) = if b == mark then Some bytes else None

-- a mark and then a decimal
unfoldable pub decimal_after : ℕ → ℕ → List ℕ → Option (ℕ × List ℕ)
decimal_after mark most bytes = do
  rest ← after mark bytes
  decimal_at most rest

-- four decimals 0 to 255, joined by full stops
unfoldable pub address_at : List ℕ → Option (ℕ × List ℕ)
address_at bytes = do
  a ← decimal_at 255 bytes
  b ← decimal_after 46 255 a.1
  c ← decimal_after 46 255 b.1
  d ← decimal_after 46 255 c.1
  Some (a.0 * 2 ^ 24 + b.0 * 2 ^ 16 + c.0 * 2 ^ 8 + d.0, d.1)

-- an address and nothing after it
unfoldable pub address_of : List ℕ → Option ℕ
address_of text = do
  a ← address_at text
  if length a.1 == 0 then Some a.0 else None

-- an address, a colon, and a port 1 to 65535
unfoldable pub pair_of : List ℕ → Option Pair
pair_of text = do
  a ← address_at text
  p ← decimal_after 58 65535 a.1
  if length p.1 == 0 && nat_le 1 p.0 then Some (record { addr = a.0; port = p.0 }) else None

-- an address, a slash, and 0 to 32 bits, with zeros in the address after so many
unfoldable pub prefix_of : List ℕ → Option PlainPrefix
prefix_of text = do
  a ← address_at text
  b ← decimal_after 47 32 a.1
  if length b.1 == 0 && a.0 % 2 ^ (32 - b.0) == 0 then Some (record { addr = a.0; bits = b.0 }) else None
