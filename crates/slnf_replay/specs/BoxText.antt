-- The text of what the one ordinary box of a plan's function answers.
use Rattle.std.specs.Prelude.{ℕ, List}
use Rattle.slnf_access.specs.declared.requests.Entry.{Entry}
use Rattle.slnf_plan.specs.declared.plan.FunctionPlan.{FunctionPlan}
use Rattle.slnf_plan.specs.declared.plan.FunctionPlan.TheVariants.{Nat, Firewall, Balancer}
use Rattle.slnf_plan.specs.declared.plan.Plan.{Plan}
use Rattle.slnf_run.specs.Setting.{Setting}
use Rattle.slnf_box.specs.Pools.{nat_of}
use Rattle.slnf_flight.specs.declared.flights.AnyFlight.{AnyFlight}
use Rattle.slnf_flight.specs.declared.lanes.Lane.{Lane}
use Rattle.slnf_flight.specs.Flights.{Arrival}
use Rattle.slnf_flight.specs.FwPlan.{policy_with}
use Rattle.slnf_flight.specs.PlanSetting.{setting_of}
use Rattle.slnf_setting.specs.OneBoxOfPlan.{any_nat_box, any_fw_box, any_lb_box}
use Rattle.slnf_journal.specs.declared.box_lines.BoxLine.{BoxLine}
use Rattle.slnf_journal.specs.BoxLines.{box_lines_text}
use Rattle.slnf_replay.specs.Lines.{answers_of}

-- the answers of a function's box
abbrev pub answers_by_function : FunctionPlan → Setting AnyFlight Arrival → List Entry → List BoxLine
answers_by_function (Nat pool) s es = answers_of s (any_nat_box (nat_of pool)) es
answers_by_function (Firewall inside rules) s es = answers_of s (any_fw_box (policy_with inside rules)) es
answers_by_function (Balancer service) s es = answers_of s (any_lb_box service) es

-- The answers of the box of a plan's function, and their text: one line for each packet that has a place, in the order
-- of the places.
abbrev pub box_answers : Plan → List Lane → List Entry → List BoxLine
box_answers plan lanes es = answers_by_function plan.function (setting_of plan lanes) es

abbrev pub box_text : Plan → List Lane → List Entry → List ℕ
box_text plan lanes es = box_lines_text (box_answers plan lanes es)
