-- The function of a plan's epoch does what the plan's machine does: by cases of the plan, with the function's parts
-- put in for the plan's.
use Rattle.std.proofs.Common.{◌≡◌, ℕ, Option, Some, None, List, refl, subst, ap, ◌∙◌}
use Rattle.std.proofs.lemmas.Option.{same_Some}
use Rattle.slnf_base.specs.declared.addresses.Prefix.{Prefix}
use Rattle.slnf_base.specs.declared.packets.Packet.{Packet}
use Rattle.slnf_base.specs.declared.plans.Pool.{Pool}
use Rattle.slnf_access.specs.declared.functions.Step.{Step}
use Rattle.slnf_access.specs.declared.functions.Step.TheVariants.{Go as StepGo, Over as StepOver}
use Rattle.slnf_access.specs.declared.requests.Reply.{Reply}
use Rattle.slnf_access.specs.Machines.{Behaviour, Machine, machine_of, stand_of_start, stand_of_step}
use Rattle.slnf_fw_table.specs.declared.rules.Rule.{Rule}
use Rattle.slnf_plan.specs.declared.plan.Epoch.{Epoch}
use Rattle.slnf_plan.specs.declared.plan.FunctionPlan.{FunctionPlan}
use Rattle.slnf_plan.specs.declared.plan.FunctionPlan.TheVariants.{Nat, Firewall, Balancer}
use Rattle.slnf_run.specs.Cases.{case_asks, case_decided, case_goes, start_as}
use Rattle.slnf_run.specs.Images.{stand_as}
use Rattle.slnf_box.specs.Pools.{nat_of}
use Rattle.slnf_nat.specs.Behaviour.{nat_behaviour, IsPacketFlight as IsNatPacketFlight}
use Rattle.slnf_nat.specs.Flights.{NatFlight, Out, In, Sweep}
use Rattle.slnf_nat.specs.Machine.{nat_asks, nat_goes, nat_machine}
use Rattle.slnf_fw.specs.declared.functions.FwFunction.{FwFunction}
use Rattle.slnf_fw.specs.Machine.{fw_asks, fw_begins, fw_behaviour, fw_goes, fw_machine}
use Rattle.slnf_lb.specs.Machine.{lb_begins, lb_behaviour, lb_goes, lb_machine}
use Rattle.slnf_flight.specs.declared.flights.AnyFlight.{AnyFlight}
use Rattle.slnf_flight.specs.declared.flights.AnyFlight.TheVariants.{Nat as NatFlies, Firewall as FwFlies, Balancer as LbFlies}
use Rattle.slnf_flight.specs.declared.functions.AnyFunction.{AnyFunction}
use Rattle.slnf_flight.specs.declared.functions.AnyFunction.TheVariants.{Nat as AnyNat, Firewall as AnyFirewall, Balancer as AnyBalancer}
use Rattle.slnf_flight.specs.declared.lanes.Taken.{Taken}
use Rattle.slnf_flight.specs.declared.lanes.Taken.TheVariants.{Seen, Bad}
use Rattle.slnf_flight.specs.AnyFunction.{any_machine, any_starts}
use Rattle.slnf_flight.specs.Begins.{begins_with}
use Rattle.slnf_flight.specs.Flights.{nat_flight, fw_flight, lb_flight, IsPacketFlight}
use Rattle.slnf_flight.specs.FwPlan.{policy_with}
use Rattle.slnf_flight.specs.Functions.{any_behaviour, case_steps, step_as, IsFunctionOf}

-- the firewall's policy is the plan's
same_policy : (inside : Prefix) (rules : List Rule) (function : FwFunction) →
    (function.policy.inside ≡ inside) × (function.policy.rules ≡ rules) → function.policy ≡ policy_with inside rules
same_policy inside rules function h =
    ap (λ i. policy_with i function.policy.rules) h.0 ∙ ap (policy_with inside) h.1

-- a packet starts as the plan says
pub starts_are_plans : (plan_function : FunctionPlan) (epoch : Option Epoch) (function : AnyFunction) →
    IsFunctionOf plan_function epoch function → (incarnation number : ℕ) (packet : Packet) →
    (any_behaviour function).begins incarnation number packet
    ≡ any_starts plan_function epoch incarnation number packet
starts_are_plans (Nat pool) epoch (AnyNat function) h incarnation number packet =
    ap (λ p. any_starts (Nat p) epoch incarnation number packet) h
starts_are_plans (Nat pool) epoch (AnyFirewall function) h incarnation number packet = absurd h
starts_are_plans (Nat pool) epoch (AnyBalancer function) h incarnation number packet = absurd h
starts_are_plans (Firewall inside rules) epoch (AnyNat function) h incarnation number packet = absurd h
starts_are_plans (Firewall inside rules) epoch (AnyFirewall function) h incarnation number packet =
    ap (λ p. start_as FwFlies (fw_begins p packet)) (same_policy inside rules function h)
starts_are_plans (Firewall inside rules) epoch (AnyBalancer function) h incarnation number packet = absurd h
starts_are_plans (Balancer service) epoch (AnyNat function) h incarnation number packet = absurd h
starts_are_plans (Balancer service) epoch (AnyFirewall function) h incarnation number packet = absurd h
starts_are_plans (Balancer service) epoch (AnyBalancer function) h incarnation number packet =
    ap (λ s. start_as LbFlies (lb_begins s function.active incarnation number packet)) h.0
    ∙ ap (λ a. start_as LbFlies (lb_begins service a incarnation number packet)) h.1

-- and so a captured packet begins
pub begins_are_plans : (plan_function : FunctionPlan) (epoch : Option Epoch) (function : AnyFunction) →
    IsFunctionOf plan_function epoch function → (incarnation number : ℕ) (taken : Option Taken) →
    begins_with ((any_behaviour function).begins incarnation number) taken
    ≡ begins_with (any_starts plan_function epoch incarnation number) taken
begins_are_plans plan_function epoch function h incarnation number None = refl
begins_are_plans plan_function epoch function h incarnation number (Some (Bad reason)) = refl
begins_are_plans plan_function epoch function h incarnation number (Some (Seen packet)) =
    ap stand_of_start (starts_are_plans plan_function epoch function h incarnation number packet)

-- what a case's flight asks for, and what it has decided, is read off its function's machine
same_asked : {F : Type 0} (a b : Machine F) (own : Option F) → ((flight : F) → a.asks flight ≡ b.asks flight) →
    case_asks a own ≡ case_asks b own
same_asked a b None h = refl
same_asked a b (Some flight) h = h flight

same_decided : {F : Type 0} (a b : Machine F) (own : Option F) →
    ((flight : F) → a.decided flight ≡ b.decided flight) → case_decided a own ≡ case_decided b own
same_decided a b None h = refl
same_decided a b (Some flight) h = h flight

-- a flight asks for what the plan's machine asks for
pub asks_are_plans : (plan_function : FunctionPlan) (epoch : Option Epoch) (function : AnyFunction) →
    IsFunctionOf plan_function epoch function → (flight : AnyFlight) →
    (any_behaviour function).asks flight ≡ (any_machine plan_function).asks flight
asks_are_plans (Nat pool) epoch (AnyNat function) h flight =
    same_asked (machine_of (nat_behaviour function.pool)) (nat_machine (nat_of pool)) (nat_flight flight)
    (λ own. ap (λ p. nat_asks (nat_of p) own) h)
asks_are_plans (Nat pool) epoch (AnyFirewall function) h flight = absurd h
asks_are_plans (Nat pool) epoch (AnyBalancer function) h flight = absurd h
asks_are_plans (Firewall inside rules) epoch (AnyNat function) h flight = absurd h
asks_are_plans (Firewall inside rules) epoch (AnyFirewall function) h flight =
    same_asked (fw_machine function.policy) (fw_machine (policy_with inside rules)) (fw_flight flight)
    (λ own. ap (λ p. fw_asks p own) (same_policy inside rules function h))
asks_are_plans (Firewall inside rules) epoch (AnyBalancer function) h flight = absurd h
asks_are_plans (Balancer service) epoch (AnyNat function) h flight = absurd h
asks_are_plans (Balancer service) epoch (AnyFirewall function) h flight = absurd h
asks_are_plans (Balancer service) epoch (AnyBalancer function) h flight =
    same_asked (machine_of (lb_behaviour function.service function.active)) (lb_machine service) (lb_flight flight)
    (λ own. refl)

-- it has decided what the plan's machine has
pub decided_are_plans : (plan_function : FunctionPlan) (epoch : Option Epoch) (function : AnyFunction) →
    IsFunctionOf plan_function epoch function → (flight : AnyFlight) →
    (any_behaviour function).decided flight ≡ (any_machine plan_function).decided flight
decided_are_plans (Nat pool) epoch (AnyNat function) h flight =
    same_decided (machine_of (nat_behaviour function.pool)) (nat_machine (nat_of pool)) (nat_flight flight)
    (λ own. refl)
decided_are_plans (Nat pool) epoch (AnyFirewall function) h flight = absurd h
decided_are_plans (Nat pool) epoch (AnyBalancer function) h flight = absurd h
decided_are_plans (Firewall inside rules) epoch (AnyNat function) h flight = absurd h
decided_are_plans (Firewall inside rules) epoch (AnyFirewall function) h flight =
    same_decided (fw_machine function.policy) (fw_machine (policy_with inside rules)) (fw_flight flight)
    (λ own. refl)
decided_are_plans (Firewall inside rules) epoch (AnyBalancer function) h flight = absurd h
decided_are_plans (Balancer service) epoch (AnyNat function) h flight = absurd h
decided_are_plans (Balancer service) epoch (AnyFirewall function) h flight = absurd h
decided_are_plans (Balancer service) epoch (AnyBalancer function) h flight =
    same_decided (machine_of (lb_behaviour function.service function.active)) (lb_machine service) (lb_flight flight)
    (λ own. refl)

-- a step as a case, and where it leaves its packet
stand_of_step_as : {F G : Type 0} (into : F → G) (step : Step F) →
    stand_of_step (step_as into step) ≡ stand_as into (stand_of_step step)
stand_of_step_as into (StepGo flight) = refl
stand_of_step_as into (StepOver verdict) = refl

same_gone : {F G : Type 0} (into : F → G) (b : Behaviour F) (m : Machine F) (own : Option F) (reply : Reply) →
    ((flight : F) → own ≡ Some flight → stand_of_step (b.goes flight reply) ≡ m.goes flight reply) →
    stand_of_step (case_steps into b own reply) ≡ case_goes into m own reply
same_gone into b m None reply h = refl
same_gone into b m (Some flight) reply h =
    stand_of_step_as into (b.goes flight reply) ∙ ap (stand_as into) (h flight refl)

-- the NAT's packets go on as its machine's flights
nat_goes_same : (pool : Pool) (flight : NatFlight) (reply : Reply) → IsNatPacketFlight flight →
    stand_of_step ((nat_behaviour pool).goes flight reply) ≡ (nat_machine (nat_of pool)).goes flight reply
nat_goes_same pool (Out state incarnation packet) reply h = refl
nat_goes_same pool (In state packet) reply h = refl
nat_goes_same pool (Sweep state proto port base) reply h = absurd h

own_is_packets : (flight : AnyFlight) (own : NatFlight) → IsPacketFlight flight → nat_flight flight ≡ Some own →
    IsNatPacketFlight own
own_is_packets (NatFlies flight) own h e = subst IsNatPacketFlight (same_Some flight own e) h
own_is_packets (FwFlies flight) own h e = absurd (cc)
own_is_packets (LbFlies flight) own h e = absurd (cc)

-- a packet's flight goes on as in the plan's machine
pub goes_are_plans : (plan_function : FunctionPlan) (epoch : Option Epoch) (function : AnyFunction) →
    IsFunctionOf plan_function epoch function → (flight : AnyFlight) (reply : Reply) → IsPacketFlight flight →
    stand_of_step ((any_behaviour function).goes flight reply) ≡ (any_machine plan_function).goes flight reply
goes_are_plans (Nat pool) epoch (AnyNat function) h flight reply is =
    same_gone NatFlies (nat_behaviour function.pool) (nat_machine (nat_of pool)) (nat_flight flight) reply
    (λ own e. nat_goes_same function.pool own reply (own_is_packets flight own is e)
    ∙ ap (λ p. nat_goes (nat_of p) own reply) h)
goes_are_plans (Nat pool) epoch (AnyFirewall function) h flight reply is = absurd h
goes_are_plans (Nat pool) epoch (AnyBalancer function) h flight reply is = absurd h
goes_are_plans (Firewall inside rules) epoch (AnyNat function) h flight reply is = absurd h
goes_are_plans (Firewall inside rules) epoch (AnyFirewall function) h flight reply is =
    same_gone FwFlies (fw_behaviour function.policy) (fw_machine (policy_with inside rules)) (fw_flight flight)
    reply
    (λ own e. ap (λ p. stand_of_step (fw_goes p own reply)) (same_policy inside rules function h))
goes_are_plans (Firewall inside rules) epoch (AnyBalancer function) h flight reply is = absurd h
goes_are_plans (Balancer service) epoch (AnyNat function) h flight reply is = absurd h
goes_are_plans (Balancer service) epoch (AnyFirewall function) h flight reply is = absurd h
goes_are_plans (Balancer service) epoch (AnyBalancer function) h flight reply is =
    same_gone LbFlies (lb_behaviour function.service function.active) (lb_machine service) (lb_flight flight) reply
    (λ own e. ap (λ s. stand_of_step (lb_goes s own reply)) h.0)
