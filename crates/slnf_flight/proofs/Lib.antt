pub mod Active
pub mod PlanFunction
pub mod PacketFlights
pub mod Laws
