-- The laws that crates above cite.

-- The function of a plan's epoch does what the plan's machine does with packets, and its flights are packets'.
pub use Rattle.slnf_flight.proofs.PlanFunction.{starts_are_plans, begins_are_plans, asks_are_plans, goes_are_plans, decided_are_plans}
pub use Rattle.slnf_flight.proofs.PacketFlights.{first_is_packets, goes_on_packets}
