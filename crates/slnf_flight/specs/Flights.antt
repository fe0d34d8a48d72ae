-- The flights of all functions, each as its function's, and what their boxes see.
use Rattle.std.specs.Prelude.{ℕ, Option, Some, None}
use Rattle.slnf_base.specs.declared.addresses.Pair.{Pair}
use Rattle.slnf_base.specs.declared.packets.Packet.{Packet}
use Rattle.slnf_nat.specs.Behaviour.{IsPacketFlight as IsNatPacketFlight}
use Rattle.slnf_nat.specs.Flights.{NatFlight}
use Rattle.slnf_fw.specs.Flight.{Flying as FwFlying}
use Rattle.slnf_lb.specs.Flight.{Flying as LbFlying}
use Rattle.slnf_flight.specs.declared.flights.AnyFlight.{AnyFlight}
use Rattle.slnf_flight.specs.declared.flights.AnyFlight.TheVariants.{Nat as NatFlies, Firewall as FwFlies, Balancer as LbFlies}

-- the flight, where it is the NAT's, the firewall's or the balancer's
abbrev pub nat_flight : AnyFlight → Option NatFlight
nat_flight (NatFlies flight) = Some flight
nat_flight (FwFlies flight) = None
nat_flight (LbFlies flight) = None

abbrev pub fw_flight : AnyFlight → Option FwFlying
fw_flight (NatFlies flight) = None
fw_flight (FwFlies flight) = Some flight
fw_flight (LbFlies flight) = None

abbrev pub lb_flight : AnyFlight → Option LbFlying
lb_flight (NatFlies flight) = None
lb_flight (FwFlies flight) = None
lb_flight (LbFlies flight) = Some flight

-- the flight is a packet's, and no sweep's port's
abbrev pub IsPacketFlight : AnyFlight → Type 0
IsPacketFlight (NatFlies flight) = IsNatPacketFlight flight
IsPacketFlight (FwFlies flight) = Unit {0}
IsPacketFlight (LbFlies flight) = Unit {0}

-- What a box sees: a packet, the pair that is proposed for it, if one is, and the time of it, which no function asks
-- yet.
pub record Arrival : Type 0 where
  pub packet : Packet
  pub choice : Option Pair
  pub time : ℕ
