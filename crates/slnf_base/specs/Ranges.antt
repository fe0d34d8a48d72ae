-- Ranges of values.
use Rattle.std.specs.Prelude.{◌<◌, ◌^◌, Bool, ◌&&◌, nat_lt}
use Rattle.slnf_base.specs.declared.addresses.Pair.{Pair}

-- an address has 32 bits and a port 16
pub record IsPair (pair : Pair) : Type 0 where
  pub addr_fits : pair.addr < 2 ^ 32
  pub port_fits : pair.port < 2 ^ 16

-- the same as a test
abbrev pub is_pair : Pair → Bool
is_pair pair = nat_lt pair.addr (2 ^ 32) && nat_lt pair.port (2 ^ 16)
