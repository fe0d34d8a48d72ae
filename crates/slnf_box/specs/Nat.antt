-- What is fixed of a NAT.
use Rattle.std.specs.Prelude.{ℕ, Bool}
use Rattle.slnf_base.specs.declared.addresses.Pair.{Pair}
use Rattle.slnf_base.specs.declared.packets.Proto.{Proto}
use Rattle.slnf_base.specs.declared.packets.Packet.{Packet}

-- Which packets go out and which come in, the pairs of its pool, those that a flow may have by
-- its inside pair, how many candidates each flow has, and which is at each place. A packet that goes out doesn't come in.
pub record Nat : Type 0 where
  pub is_out : Packet → Bool
  pub is_in : Packet → Bool
  pub has : Pair → Bool
  pub allows : Pair → Pair → Bool
  pub ports : ℕ
  pub candidate : Proto → Pair → ℕ → Pair
