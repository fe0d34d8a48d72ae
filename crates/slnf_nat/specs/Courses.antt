-- A packet under way, as the code has it.
use Rattle.slnf_nat.specs.declared.flights.Course.{Course}
use Rattle.slnf_nat.specs.declared.flights.Course.TheVariants as course
use Rattle.slnf_nat.specs.Flights.{NatFlight, Out, In}

abbrev pub flight_of : Course → NatFlight
flight_of (course.Out state incarnation packet) = Out state incarnation packet
flight_of (course.In state packet) = In state packet
