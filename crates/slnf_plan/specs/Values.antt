-- Addresses apart from a prefix, and pairs of ports.
use Rattle.std.specs.Prelude.{ℕ, ◌-◌, ◌/◌, ◌^◌, ℤ, pos, Bool, ◌&&◌, ◌==◌, nat_le, Option, Some, None, Result, Ok, codes, if◌then◌else◌}
use Rattle.toml.specs.Data.{Data, Items, no_items, item, as_integer, as_array}
use Rattle.slnf_plan.specs.declared.refusal.Cause.TheVariants.{WrongType, OutOfRange}
use Rattle.slnf_plan.specs.declared.refusal.Refusal.{Refusal}
use Rattle.slnf_plan.specs.Plain.{PlainPrefix}
use Rattle.slnf_plan.specs.Refusals.{◌>>=◌, refuse, under}
use Rattle.slnf_plan.specs.Tables.{of_kind}

abbrev pub is_inside : PlainPrefix → ℕ → Bool
is_inside prefix addr = addr / 2 ^ (32 - prefix.bits) == prefix.addr / 2 ^ (32 - prefix.bits)

-- an address outside the prefix
abbrev pub apart_from : PlainPrefix → Option ℕ → Option ℕ
apart_from inside None = None
apart_from inside (Some addr) = if is_inside inside addr then None else Some addr

-- a whole number of any size
abbrev pub whole : Data → Result ℤ Refusal
whole d = of_kind (as_integer d) Ok

-- two numbers in order, from least to 65535
abbrev pub in_order : ℕ → ℤ → ℤ → Result (ℕ × ℕ) Refusal
in_order least (pos low) (pos high) =
    if nat_le least low && nat_le low high && nat_le high 65535 then Ok (low, high) else refuse OutOfRange
in_order least _ _ = refuse OutOfRange

-- a list of two numbers: another count is of another kind, and both are numbers before their range is tried
abbrev pub two_ports : ℕ → Items → Result (ℕ × ℕ) Refusal
two_ports least (item a (item b no_items)) = do
  low ← under (codes "0") (whole a)
  high ← under (codes "1") (whole b)
  in_order least low high
two_ports least _ = refuse WrongType

abbrev pub ports : ℕ → Data → Result (ℕ × ℕ) Refusal
ports least d = of_kind (as_array d) (two_ports least)
