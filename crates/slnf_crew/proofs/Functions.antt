-- The function of an epoch has the machine of its plan.
use Rattle.std.proofs.Common.{◌≡◌, Option, refl, sym, ap, ap₂}
use Rattle.slnf_base.specs.declared.plans.Pool.{Pool}
use Rattle.slnf_access.specs.declared.functions.Step.{Step}
use Rattle.slnf_access.specs.declared.functions.Step.TheVariants.{Go as StepGo, Over as StepOver}
use Rattle.slnf_access.specs.declared.requests.Reply.{Reply}
use Rattle.slnf_access.specs.Machines.{stand_of_step}
use Rattle.slnf_run.specs.Images.{stand_as}
use Rattle.slnf_box.specs.Pools.{nat_of}
use Rattle.slnf_nat.specs.Behaviour.{nat_behaviour, IsPacketFlight as IsNatPacketFlight}
use Rattle.slnf_nat.specs.Flights.{NatFlight, Out, In, Sweep}
use Rattle.slnf_nat.specs.Machine.{nat_goes, goes_out, goes_in}
use Rattle.slnf_fw.specs.Machine.{fw_goes}
use Rattle.slnf_lb.specs.Machine.{lb_goes}
use Rattle.slnf_flight.specs.Flights.{IsPacketFlight}
use Rattle.slnf_plan.specs.declared.plan.FunctionPlan.{FunctionPlan}
use Rattle.slnf_plan.specs.declared.plan.FunctionPlan.TheVariants.{Nat, Firewall, Balancer}
use Rattle.slnf_plan.specs.declared.plan.Epoch.{Epoch}
use Rattle.slnf_nat.specs.declared.functions.NatFunction.{NatFunction}
use Rattle.slnf_flight.specs.declared.flights.AnyFlight.{AnyFlight}
use Rattle.slnf_flight.specs.declared.flights.AnyFlight.TheVariants.{Nat as NatFlies, Firewall as FwFlies, Balancer as LbFlies}
use Rattle.slnf_flight.specs.declared.functions.AnyFunction.{AnyFunction}
use Rattle.slnf_flight.specs.declared.functions.AnyFunction.TheVariants.{Nat as AnyNat, Firewall as AnyFirewall, Balancer as AnyBalancer}
use Rattle.slnf_flight.specs.AnyFunction.{any_machine}
use Rattle.slnf_flight.specs.Functions.{any_behaviour, step_as, IsFunctionOf}
use Rattle.slnf_crew.specs.FunctionMachine.{function_machine}

-- what a flight asks, whatever it is of
pub asks_same : (function : AnyFunction) (flight : AnyFlight) → (any_behaviour function).asks flight
    ≡ (function_machine function).asks flight
asks_same (AnyNat function) (NatFlies flight) = refl
asks_same (AnyNat function) (FwFlies flight) = refl
asks_same (AnyNat function) (LbFlies flight) = refl
asks_same (AnyFirewall function) (NatFlies flight) = refl
asks_same (AnyFirewall function) (FwFlies flight) = refl
asks_same (AnyFirewall function) (LbFlies flight) = refl
asks_same (AnyBalancer function) (NatFlies flight) = refl
asks_same (AnyBalancer function) (FwFlies flight) = refl
asks_same (AnyBalancer function) (LbFlies flight) = refl

-- the machine is the plan's
pub machine_is : (plan : FunctionPlan) (epoch : Option Epoch) (function : AnyFunction) →
    IsFunctionOf plan epoch function → any_machine plan ≡ function_machine function
machine_is (Nat pool) epoch (AnyNat function) h = ap (λ p. any_machine (Nat p)) (sym h)
machine_is (Nat pool) epoch (AnyFirewall function) h = absurd h
machine_is (Nat pool) epoch (AnyBalancer function) h = absurd h
machine_is (Firewall inside rules) epoch (AnyNat function) h = absurd h
machine_is (Firewall inside rules) epoch (AnyFirewall function) h =
    ap₂ (λ i r. any_machine (Firewall i r)) (sym h.0) (sym h.1)
machine_is (Firewall inside rules) epoch (AnyBalancer function) h = absurd h
machine_is (Balancer service) epoch (AnyNat function) h = absurd h
machine_is (Balancer service) epoch (AnyFirewall function) h = absurd h
machine_is (Balancer service) epoch (AnyBalancer function) h = ap (λ s. any_machine (Balancer s)) (sym h.0)

-- a NAT is its plan's
pub nat_is : (plan : FunctionPlan) (epoch : Option Epoch) (function : NatFunction) →
    IsFunctionOf plan epoch (AnyNat function) → plan ≡ Nat function.pool
nat_is (Nat pool) epoch function h = ap Nat (sym h)
nat_is (Firewall inside rules) epoch function h = absurd h
nat_is (Balancer service) epoch function h = absurd h

-- where a packet stands that goes on so, as one of a case
stand_step_as : {F G : Type 0} (into : F → G) (step : Step F) → stand_of_step (step_as into step)
    ≡ stand_as into (stand_of_step step)
stand_step_as into (StepGo flight) = refl
stand_step_as into (StepOver verdict) = refl

-- a NAT's packet goes on as its machine does
nat_goes_same : (pool : Pool) (flight : NatFlight) (reply : Reply) → IsNatPacketFlight flight →
    stand_of_step (step_as NatFlies ((nat_behaviour pool).goes flight reply))
    ≡ stand_as NatFlies (nat_goes (nat_of pool) flight reply)
nat_goes_same pool (Out state incarnation packet) reply h =
    stand_step_as NatFlies (goes_out (nat_of pool) incarnation packet state reply)
nat_goes_same pool (In state packet) reply h = stand_step_as NatFlies (goes_in packet state reply)
nat_goes_same pool (Sweep state proto port base) reply h = absurd h

-- where a packet's flight stands after a reply
pub goes_same : (function : AnyFunction) (flight : AnyFlight) (reply : Reply) → IsPacketFlight flight →
    stand_of_step ((any_behaviour function).goes flight reply) ≡ (function_machine function).goes flight reply
goes_same (AnyNat function) (NatFlies flight) reply h = nat_goes_same function.pool flight reply h
goes_same (AnyNat function) (FwFlies flight) reply h = refl
goes_same (AnyNat function) (LbFlies flight) reply h = refl
goes_same (AnyFirewall function) (NatFlies flight) reply h = refl
goes_same (AnyFirewall function) (FwFlies flight) reply h =
    stand_step_as FwFlies (fw_goes function.policy flight reply)
goes_same (AnyFirewall function) (LbFlies flight) reply h = refl
goes_same (AnyBalancer function) (NatFlies flight) reply h = refl
goes_same (AnyBalancer function) (FwFlies flight) reply h = refl
goes_same (AnyBalancer function) (LbFlies flight) reply h =
    stand_step_as LbFlies (lb_goes function.service flight reply)
