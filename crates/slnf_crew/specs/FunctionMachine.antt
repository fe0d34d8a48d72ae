-- The machine of an epoch's function.
use Rattle.slnf_access.specs.Machines.{Machine}
use Rattle.slnf_plan.specs.declared.plan.FunctionPlan.TheVariants.{Nat, Firewall, Balancer}
use Rattle.slnf_flight.specs.declared.flights.AnyFlight.{AnyFlight}
use Rattle.slnf_flight.specs.declared.functions.AnyFunction.{AnyFunction}
use Rattle.slnf_flight.specs.declared.functions.AnyFunction.TheVariants.{Nat as AnyNat, Firewall as AnyFirewall, Balancer as AnyBalancer}
use Rattle.slnf_flight.specs.AnyFunction.{any_machine}

-- the plan's: a NAT's flights are those of its packets and of its sweeps' ports
abbrev pub function_machine : AnyFunction → Machine AnyFlight
function_machine (AnyNat function) = any_machine (Nat function.pool)
function_machine (AnyFirewall function) = any_machine (Firewall function.policy.inside function.policy.rules)
function_machine (AnyBalancer function) = any_machine (Balancer function.service)
