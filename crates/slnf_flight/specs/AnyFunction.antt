-- The function of a plan in an epoch: its machine, and how its packets start.
use Rattle.std.specs.Prelude.{ℕ, Option}
use Rattle.slnf_base.specs.declared.packets.Packet.{Packet}
use Rattle.slnf_access.specs.declared.functions.Start.{Start}
use Rattle.slnf_access.specs.Machines.{Machine}
use Rattle.slnf_plan.specs.declared.plan.FunctionPlan.{FunctionPlan}
use Rattle.slnf_plan.specs.declared.plan.FunctionPlan.TheVariants.{Nat, Firewall, Balancer}
use Rattle.slnf_plan.specs.declared.plan.Epoch.{Epoch}
use Rattle.slnf_box.specs.Pools.{nat_of}
use Rattle.slnf_nat.specs.Machine.{nat_machine}
use Rattle.slnf_fw.specs.Machine.{fw_begins, fw_machine}
use Rattle.slnf_lb.specs.Machine.{lb_begins, lb_machine}
use Rattle.slnf_flight.specs.declared.flights.AnyFlight.{AnyFlight}
use Rattle.slnf_flight.specs.declared.flights.AnyFlight.TheVariants.{Nat as NatFlies, Firewall as FwFlies, Balancer as LbFlies}
use Rattle.slnf_run.specs.Cases.{start_as, case_machine}
use Rattle.slnf_nat.specs.Starts.{nat_starts}
use Rattle.slnf_flight.specs.FwPlan.{policy_with}
use Rattle.slnf_flight.specs.LbPlan.{active_in}
use Rattle.slnf_flight.specs.PlanSetting.{nat_case, fw_case, lb_case}

-- its machine
abbrev pub any_machine : FunctionPlan → Machine AnyFlight
any_machine (Nat pool) = case_machine nat_case (nat_machine (nat_of pool))
any_machine (Firewall inside rules) = case_machine fw_case (fw_machine (policy_with inside rules))
any_machine (Balancer service) = case_machine lb_case (lb_machine service)

-- how a packet of an epoch starts, by its incarnation and number
abbrev pub any_starts : FunctionPlan → Option Epoch → ℕ → ℕ → Packet → Start AnyFlight
any_starts (Nat pool) epoch incarnation number packet = start_as NatFlies (nat_starts pool incarnation number packet)
any_starts (Firewall inside rules) epoch incarnation number packet =
    start_as FwFlies (fw_begins (policy_with inside rules) packet)
any_starts (Balancer service) epoch incarnation number packet =
    start_as LbFlies (lb_begins service (active_in service epoch) incarnation number packet)
