-- An item under way as code has it: a packet's flight, or a port's.
use Rattle.slnf_flight.specs.declared.flights.AnyFlight.{AnyFlight}
use Rattle.slnf_flight.specs.declared.flights.AnyFlight.TheVariants.{Nat as NatFlies}
use Rattle.slnf_crew.specs.declared.items.Course.{Course}
use Rattle.slnf_crew.specs.declared.items.Course.TheVariants.{Packet, Port}

-- the flight, as one of the plan's function
abbrev pub flight_of : Course → AnyFlight
flight_of (Packet flight) = flight
flight_of (Port flight) = NatFlies flight
