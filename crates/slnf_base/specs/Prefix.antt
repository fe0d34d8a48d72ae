use Rattle.std.specs.Prelude.{◌≡◌, ℕ, Bool, false, ◌==◌, ◌-◌, ◌/◌, ◌^◌}
use Rattle.slnf_base.specs.declared.addresses.Prefix.{Prefix}

-- the address begins with the prefix's bits
abbrev pub is_inside : Prefix → ℕ → Bool
is_inside prefix addr = addr / 2 ^ (32 - prefix.bits) == prefix.addr / 2 ^ (32 - prefix.bits)

-- the address doesn't
abbrev pub IsOutside : Prefix → ℕ → Type 0
IsOutside prefix addr = is_inside prefix addr ≡ false
