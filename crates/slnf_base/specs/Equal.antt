-- Tests of equality that compute.
use Rattle.std.specs.Prelude.{ℕ, Bool, ◌&&◌, ◌==◌}
use Rattle.slnf_base.specs.declared.addresses.Pair.{Pair}
use Rattle.slnf_base.specs.declared.packets.Proto.{Proto}
use Rattle.slnf_base.specs.Numbers.{proto_number}

-- the pairs are one
abbrev pub is_same_pair : Pair → Pair → Bool
is_same_pair a b = a.addr == b.addr && a.port == b.port

-- the protocols are one
abbrev pub is_same_proto : Proto → Proto → Bool
is_same_proto a b = proto_number a == proto_number b
