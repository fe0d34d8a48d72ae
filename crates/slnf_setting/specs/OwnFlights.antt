-- A plan's items fly as flights of its function alone.
use Rattle.slnf_access.specs.Machines.{Stand, Flies, Ends}
use Rattle.slnf_plan.specs.declared.plan.FunctionPlan.{FunctionPlan}
use Rattle.slnf_plan.specs.declared.plan.FunctionPlan.TheVariants.{Nat, Firewall, Balancer}
use Rattle.slnf_flight.specs.declared.flights.AnyFlight.{AnyFlight}
use Rattle.slnf_flight.specs.declared.flights.AnyFlight.TheVariants.{Nat as NatFlies, Firewall as FwFlies, Balancer as LbFlies}

-- the flight is one of the function's
abbrev pub IsFlightOf : FunctionPlan → AnyFlight → Type 0
IsFlightOf (Nat pool) (NatFlies flight) = Unit {0}
IsFlightOf (Nat pool) (FwFlies flight) = ⊥
IsFlightOf (Nat pool) (LbFlies flight) = ⊥
IsFlightOf (Firewall inside rules) (NatFlies flight) = ⊥
IsFlightOf (Firewall inside rules) (FwFlies flight) = Unit {0}
IsFlightOf (Firewall inside rules) (LbFlies flight) = ⊥
IsFlightOf (Balancer service) (NatFlies flight) = ⊥
IsFlightOf (Balancer service) (FwFlies flight) = ⊥
IsFlightOf (Balancer service) (LbFlies flight) = Unit {0}

-- so the item stands, if it flies
abbrev pub IsStandOf : FunctionPlan → Stand AnyFlight → Type 0
IsStandOf function (Flies flight) = IsFlightOf function flight
IsStandOf function (Ends end) = Unit {0}
