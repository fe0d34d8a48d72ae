-- What a box sees.
use Rattle.std.specs.Prelude.{Option}
use Rattle.slnf_base.specs.declared.addresses.Pair.{Pair}
use Rattle.slnf_base.specs.declared.packets.Packet.{Packet}
use Rattle.slnf_flight.specs.Flights.{Arrival}

-- a packet for which this pair is proposed, if one is
abbrev pub arrival_of : Packet → Option Pair → Arrival
arrival_of packet choice = record { packet = packet; choice = choice; time = 0 }
