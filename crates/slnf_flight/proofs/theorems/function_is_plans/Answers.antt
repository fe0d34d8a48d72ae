use Rattle.slnf_flight.proofs.PlanFunction.{starts_are_plans, begins_are_plans, asks_are_plans, goes_are_plans, decided_are_plans}
use Rattle.slnf_flight.proofs.PacketFlights.{first_is_packets, goes_on_packets}
use Rattle.slnf_flight.proofs.theorems.function_is_plans.Goals as goal

pub returns : goal.returns
returns c = record {
  starts = starts_are_plans;
  begins = begins_are_plans;
  asks = asks_are_plans;
  goes = goes_are_plans;
  decided = decided_are_plans;
  first = first_is_packets;
  next = goes_on_packets;
}
