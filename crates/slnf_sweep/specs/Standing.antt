-- A sweep's item as the code has it: the state of its port, and where it stands after a reply.
use Rattle.std.specs.Prelude.{Option, Some, None}
use Rattle.slnf_access.specs.Machines.{Stand, Flies, Ends}
use Rattle.slnf_nat.specs.Flights.{SweepState, SweepPort, SweepFlow, Remove, NatFlight}
use Rattle.slnf_sweep.specs.declared.flights.PortState.{PortState}
use Rattle.slnf_sweep.specs.declared.flights.PortState.TheVariants as port

-- the machine's state
abbrev pub state_of : PortState → SweepState
state_of port.LookPort = SweepPort
state_of (port.LookFlow inside version) = SweepFlow inside version
state_of (port.Remove version) = Remove version

-- the item goes on as a flight, or it is done, without a verdict
abbrev pub item_stands : Option NatFlight → Stand NatFlight
item_stands (Some flight) = Flies flight
item_stands None = Ends None
