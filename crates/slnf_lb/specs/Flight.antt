-- A balancer's packet under way.
use Rattle.slnf_base.specs.declared.addresses.Pair.{Pair}
use Rattle.slnf_base.specs.declared.packets.Packet.{Packet}
use Rattle.slnf_lb.specs.declared.flights.LbState.{LbState}

-- its state, the packet, and the backend that is chosen for a client without a pin
pub record Flying : Type 0 where
  pub state : LbState
  pub packet : Packet
  pub choice : Pair
