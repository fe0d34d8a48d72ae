-- One ordinary box explains a list of a plan: the box is that of the plan's function.
use Rattle.std.specs.Prelude.{List}
use Rattle.slnf_access.specs.declared.requests.Entry.{Entry}
use Rattle.slnf_plan.specs.declared.plan.FunctionPlan.{FunctionPlan}
use Rattle.slnf_plan.specs.declared.plan.FunctionPlan.TheVariants as function
use Rattle.slnf_plan.specs.declared.plan.Plan.{Plan}
use Rattle.slnf_run.specs.Boxes.{Box}
use Rattle.slnf_run.specs.Setting.{Setting}
use Rattle.slnf_run.specs.OneBox.{IsOneBoxWhole}
use Rattle.slnf_box.specs.FwBox.{Conns, fw_box}
use Rattle.slnf_box.specs.LbBox.{Pins, lb_box}
use Rattle.slnf_box.specs.Nat.{Nat}
use Rattle.slnf_box.specs.NatBox.{Flow, nat_box}
use Rattle.slnf_box.specs.Pools.{nat_of}
use Rattle.slnf_box.specs.declared.policies.Policy.{Policy}
use Rattle.slnf_nat.specs.StoredFlows.{IsSameFlows}
use Rattle.slnf_fw.specs.Conns.{IsSameConns}
use Rattle.slnf_base.specs.declared.plans.Service.{Service}
use Rattle.slnf_lb.specs.StoredPins.{IsSameMap}
use Rattle.slnf_flight.specs.declared.lanes.Lane.{Lane}
use Rattle.slnf_flight.specs.declared.flights.AnyFlight.{AnyFlight}
use Rattle.slnf_flight.specs.Flights.{Arrival}
use Rattle.slnf_run.specs.Cases.{box_through}
use Rattle.slnf_flight.specs.FwPlan.{policy_with}
use Rattle.slnf_flight.specs.PlanSetting.{nat_arrival_of, lb_arrival_of, setting_of}

-- the NAT's box, which looks at the packet and its choice
abbrev pub any_nat_box : Nat → Box Arrival (List Flow)
any_nat_box nat = box_through nat_arrival_of (nat_box nat)

-- the firewall's box, which looks at the packet alone
abbrev pub any_fw_box : Policy → Box Arrival Conns
any_fw_box policy = box_through (λ arrival. arrival.packet) (fw_box policy)

-- the balancer's box, which looks at the packet and its choice
abbrev pub any_lb_box : Service → Box Arrival Pins
any_lb_box service = box_through lb_arrival_of (lb_box service)

-- the box of a function explains the list
abbrev pub IsOneBoxBy : FunctionPlan → Setting AnyFlight Arrival → List Entry → Type 0
IsOneBoxBy (function.Nat pool) s es = IsOneBoxWhole s (any_nat_box (nat_of pool)) IsSameFlows es
IsOneBoxBy (function.Firewall inside rules) s es = IsOneBoxWhole s
    (any_fw_box (policy_with inside rules)) IsSameConns es
IsOneBoxBy (function.Balancer service) s es = IsOneBoxWhole s (any_lb_box service) IsSameMap es

-- One ordinary box, of the plan's function, explains the list with all that is written.
abbrev pub IsOneBoxOfPlan : Plan → List Lane → List Entry → Type 0
IsOneBoxOfPlan plan lanes es = IsOneBoxBy plan.function (setting_of plan lanes) es
