-- The function of a plan's epoch: what the code's function does with packets, by cases.
use Rattle.std.specs.Prelude.{◌≡◌, ℕ, Option, Some, None}
use Rattle.slnf_base.specs.declared.packets.Packet.{Packet}
use Rattle.slnf_base.specs.declared.packets.Reason.{Reason}
use Rattle.slnf_base.specs.declared.packets.Reason.TheVariants.{Neither}
use Rattle.slnf_base.specs.declared.packets.Verdict.TheVariants.{Lost}
use Rattle.slnf_access.specs.declared.functions.Start.{Start}
use Rattle.slnf_access.specs.declared.functions.Start.TheVariants.{Go as StartGo, Over as StartOver}
use Rattle.slnf_access.specs.declared.functions.Step.{Step}
use Rattle.slnf_access.specs.declared.functions.Step.TheVariants.{Go as StepGo, Over as StepOver}
use Rattle.slnf_access.specs.declared.requests.Reply.{Reply}
use Rattle.slnf_access.specs.Machines.{Behaviour, machine_of}
use Rattle.slnf_plan.specs.declared.plan.FunctionPlan.{FunctionPlan}
use Rattle.slnf_plan.specs.declared.plan.FunctionPlan.TheVariants.{Nat, Firewall, Balancer}
use Rattle.slnf_plan.specs.declared.plan.Epoch.{Epoch}
use Rattle.slnf_run.specs.Cases.{case_asks, case_decided, start_as}
use Rattle.slnf_nat.specs.Behaviour.{nat_behaviour}
use Rattle.slnf_nat.specs.Refuses.{nat_refuses}
use Rattle.slnf_fw.specs.Machine.{fw_behaviour}
use Rattle.slnf_fw.specs.Refuses.{fw_refuses}
use Rattle.slnf_lb.specs.Machine.{lb_behaviour}
use Rattle.slnf_lb.specs.Refuses.{lb_refuses}
use Rattle.slnf_flight.specs.declared.flights.AnyFlight.{AnyFlight}
use Rattle.slnf_flight.specs.declared.flights.AnyFlight.TheVariants.{Nat as NatFlies, Firewall as FwFlies, Balancer as LbFlies}
use Rattle.slnf_flight.specs.declared.functions.AnyFunction.{AnyFunction}
use Rattle.slnf_flight.specs.declared.functions.AnyFunction.TheVariants.{Nat as AnyNat, Firewall as AnyFirewall, Balancer as AnyBalancer}
use Rattle.slnf_flight.specs.Flights.{nat_flight, fw_flight, lb_flight}
use Rattle.slnf_flight.specs.LbPlan.{active_in}

-- how a packet goes on, as one of a case
abbrev pub step_as : {F G : Type 0} → (F → G) → Step F → Step G
step_as into (StepGo flight) = StepGo (into flight)
step_as into (StepOver verdict) = StepOver verdict

-- how it goes on, if it is one of the case; another case's flight is lost
abbrev pub case_steps : {F G : Type 0} → (F → G) → Behaviour F → Option F → Reply → Step G
case_steps into b None reply = StepOver Lost
case_steps into b (Some flight) reply = step_as into (b.goes flight reply)

-- a function's behaviour, as one of a case
abbrev pub behaviour_as : {F G : Type 0} → (F → G) → (G → Option F) → Behaviour F → Behaviour G
behaviour_as into own b = record {
  begins = λ incarnation number packet. start_as into (b.begins incarnation number packet);
  asks = λ flight. case_asks (machine_of b) (own flight);
  goes = λ flight reply. case_steps into b (own flight) reply;
  decided = λ flight. case_decided (machine_of b) (own flight);
}

-- what the function does with packets
abbrev pub any_behaviour : AnyFunction → Behaviour AnyFlight
any_behaviour (AnyNat function) = behaviour_as NatFlies nat_flight (nat_behaviour function.pool)
any_behaviour (AnyFirewall function) = behaviour_as FwFlies fw_flight (fw_behaviour function.policy)
any_behaviour (AnyBalancer function) = behaviour_as LbFlies lb_flight (lb_behaviour function.service function.active)

-- one of a case is refused as it is
refused_as : {F G : Type 0} (into : F → G) (start : Start F) (reason : Reason) →
    start_as into start ≡ StartOver reason → start ≡ StartOver reason
refused_as into (StartGo flight) reason h = absurd (cc)
refused_as into (StartOver other) reason h = cc

-- a packet is refused for want of a direction alone
pub any_refuses : (function : AnyFunction) (incarnation number : ℕ) (packet : Packet) (reason : Reason) →
    (any_behaviour function).begins incarnation number packet ≡ StartOver reason → reason ≡ Neither
any_refuses (AnyNat function) incarnation number packet reason h =
    nat_refuses function.pool incarnation number packet reason (refused_as NatFlies _ reason h)
any_refuses (AnyFirewall function) incarnation number packet reason h =
    fw_refuses function.policy packet reason (refused_as FwFlies _ reason h)
any_refuses (AnyBalancer function) incarnation number packet reason h =
    lb_refuses function.service function.active incarnation number packet reason (refused_as LbFlies _ reason h)

-- The function of an epoch of a plan: its pool, its policy or its service is the plan's, and its active backends are
-- the epoch's.
abbrev pub IsFunctionOf : FunctionPlan → Option Epoch → AnyFunction → Type 0
IsFunctionOf (Nat pool) epoch (AnyNat function) = function.pool ≡ pool
IsFunctionOf (Nat pool) epoch (AnyFirewall function) = ⊥
IsFunctionOf (Nat pool) epoch (AnyBalancer function) = ⊥
IsFunctionOf (Firewall inside rules) epoch (AnyNat function) = ⊥
IsFunctionOf (Firewall inside rules) epoch (AnyFirewall function) =
    (function.policy.inside ≡ inside) × (function.policy.rules ≡ rules)
IsFunctionOf (Firewall inside rules) epoch (AnyBalancer function) = ⊥
IsFunctionOf (Balancer service) epoch (AnyNat function) = ⊥
IsFunctionOf (Balancer service) epoch (AnyFirewall function) = ⊥
IsFunctionOf (Balancer service) epoch (AnyBalancer function) =
    (function.service ≡ service) × (function.active ≡ active_in service epoch)
