-- A firewall's packet under way.
use Rattle.slnf_base.specs.declared.packets.Packet.{Packet}
use Rattle.slnf_fw.specs.declared.flights.FwState.{FwState}

-- its state, and the packet
pub record Flying : Type 0 where
  pub state : FwState
  pub packet : Packet
