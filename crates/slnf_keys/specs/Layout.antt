use Rattle.std.specs.Prelude.{ℕ, ◌+◌, ◌*◌, ◌/◌, ◌%◌, ◌^◌, ◌==◌, nat_lt, ◌&&◌, if◌then◌else◌, Option, Some, None}
use Rattle.std.specs.Option.{option_map}
use Rattle.slnf_base.specs.declared.addresses.Pair.{Pair}
use Rattle.slnf_base.specs.declared.packets.Proto.{Proto}
use Rattle.slnf_base.specs.Numbers.{proto_number, proto_with}
use Rattle.slnf_keys.specs.declared.layout.Kind.{Kind}
use Rattle.slnf_keys.specs.declared.layout.Kind.TheVariants as kind
use Rattle.slnf_keys.specs.declared.layout.Parts.{Parts}

-- the number of a pair: the address, and the port in the 16 bits below it
unfoldable pub pair_number : Pair → ℕ
pair_number pair = pair.addr * 2 ^ 16 + pair.port

-- the pair in a number's lowest 48 bits
unfoldable pub pair_at : ℕ → Pair
pair_at number = record { addr = number / 2 ^ 16 % 2 ^ 32; port = number % 2 ^ 16 }

-- the pair with this number, which is below 2^48
unfoldable pub pair_of : ℕ → Option Pair
pair_of number = if nat_lt number (2 ^ 48) then Some (pair_at number) else None

-- the tag of a kind of keys
abbrev pub kind_tag : Kind → ℕ
kind_tag kind.Flow = 1
kind_tag kind.Port = 2
kind_tag kind.Conn = 3
kind_tag kind.Pin = 4

-- the number of a key, from the highest bits on: 8 of the tag, 8 of the protocol's number, 16 zeros, 48 of the
-- second pair and 48 of the first
unfoldable pub key_number : Kind → Proto → Pair → Pair → ℕ
key_number kind proto first second =
    kind_tag kind * 2 ^ 120 + proto_number proto * 2 ^ 112 + pair_number second * 2 ^ 48 + pair_number first

-- the number of a key with one pair: zeros stand in the second
unfoldable pub single_number : Kind → Proto → Pair → ℕ
single_number kind proto pair = key_number kind proto pair (record { addr = 0; port = 0 })

-- the parts of a key's number, where its tag and its zeros stand
unfoldable pub parts_of : Kind → ℕ → Option Parts
parts_of kind number =
    if (number / 2 ^ 120 == kind_tag kind) && (number / 2 ^ 96 % 2 ^ 16 == 0)
    then option_map (λ proto. record { proto = proto; first = pair_at number; second = pair_at (number / 2 ^ 48) })
    (proto_with (number / 2 ^ 112 % 2 ^ 8))
    else None

-- the parts of the number of a key with one pair
unfoldable pub single_of : Kind → ℕ → Option Parts
single_of kind number = if number / 2 ^ 48 % 2 ^ 48 == 0 then parts_of kind number else None
