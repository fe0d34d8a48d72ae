-- Wrong bodies of the functions: machines that go on otherwise than the right ones, and what shows that they do.
use Rattle.std.specs.Prelude.{ℕ, zero, suc, ◌+◌, nat_lt, if◌then◌else◌, Option, Some, None, List}
use Rattle.slnf_base.specs.declared.addresses.Pair.{Pair}
use Rattle.slnf_base.specs.declared.packets.Proto.{Proto}
use Rattle.slnf_base.specs.declared.packets.Change.TheVariants.{Source}
use Rattle.slnf_base.specs.declared.packets.Packet.{Packet}
use Rattle.slnf_base.specs.declared.packets.Reason.TheVariants.{NoPort}
use Rattle.slnf_base.specs.declared.packets.Verdict.TheVariants.{Emit, Dropped}
use Rattle.slnf_access.specs.declared.requests.Entry.{Entry}
use Rattle.slnf_access.specs.declared.requests.Request.{Request}
use Rattle.slnf_access.specs.declared.requests.Reply.{Reply}
use Rattle.slnf_access.specs.declared.requests.Reply.TheVariants.{Found, Absent}
use Rattle.slnf_access.specs.Machines.{Machine, Stand, Flies, Ends, stand_of_step}
use Rattle.slnf_keys.specs.Values.{flow_to_of, claim_of}
use Rattle.slnf_plan.specs.declared.plan.FunctionPlan.{FunctionPlan}
use Rattle.slnf_plan.specs.declared.plan.FunctionPlan.TheVariants as function
use Rattle.slnf_plan.specs.declared.plan.Plan.{Plan}
use Rattle.slnf_run.specs.Setting.{Setting}
use Rattle.slnf_run.specs.Run.{IsRun}
use Rattle.slnf_run.specs.Boxes.{IsExplained}
use Rattle.slnf_run.specs.Scene.{Scene}
use Rattle.slnf_run.specs.Cases.{case_machine}
use Rattle.slnf_run.specs.Scheduled.{usual_way, IsScheduled}
use Rattle.slnf_box.specs.Nat.{Nat}
use Rattle.slnf_box.specs.Pools.{nat_of}
use Rattle.slnf_box.specs.declared.policies.Policy.{Policy}
use Rattle.slnf_nat.specs.declared.flights.OutState.TheVariants.{Look, Try, Confirm}
use Rattle.slnf_nat.specs.Flights.{SweepState, SweepPort, SweepFlow, Remove, NatFlight, Out, In, Sweep}
use Rattle.slnf_nat.specs.Machine.{tried, looked, nat_asks, asks_sweep, goes_sweep, nat_machine}
use Rattle.slnf_nat.specs.StoredFlows.{IsSameFlows}
use Rattle.slnf_fw.specs.declared.flights.FwState.{FwState}
use Rattle.slnf_fw.specs.declared.flights.FwState.TheVariants.{Alter}
use Rattle.slnf_fw.specs.Flight.{Flying}
use Rattle.slnf_fw.specs.Machine.{fw_machine}
use Rattle.slnf_fw.specs.Conns.{IsSameConns}
use Rattle.slnf_lb.specs.StoredPins.{IsSameMap}
use Rattle.slnf_flight.specs.declared.flights.AnyFlight.{AnyFlight}
use Rattle.slnf_flight.specs.Actors.{eras_of}
use Rattle.slnf_flight.specs.Flights.{Arrival}
use Rattle.slnf_flight.specs.AnyFunction.{any_machine}
use Rattle.slnf_flight.specs.FwPlan.{policy_with}
use Rattle.slnf_flight.specs.PlanSetting.{nat_case, fw_case, setting_of}
use Rattle.slnf_setting.specs.OneBoxOfPlan.{any_nat_box, any_fw_box, any_lb_box}
use Rattle.slnf_rows.specs.Rows.{Row, IsPlanOf}

-- the setting with another machine
abbrev pub with_machine : {F A : Type 0} → Machine F → Setting F A → Setting F A
with_machine machine s = record {
  shards = s.shards;
  batch = s.batch;
  lanes = s.lanes;
  sweep_items = s.sweep_items;
  eras = s.eras;
  scene = record {
    machine = λ incarnation. machine;
    begins = s.scene.begins;
    place = s.scene.place;
    arrival = s.scene.arrival;
    removals = s.scene.removals;
  };
}

-- There is a plan of the row by which the body makes this journal, and that is no run of the plan.
pub record Strays (IsOf : FunctionPlan → Type 0) (row : Row) (body : FunctionPlan → Machine AnyFlight)
    (journal : List Entry) : Type 0 where
  pub plan : Plan
  pub is_plan : IsPlanOf IsOf row plan
  pub made : IsScheduled (with_machine (body plan.function) (setting_of plan row.lanes))
      (usual_way (eras_of plan.epochs)) journal
  pub no_run : IsRun (setting_of plan row.lanes) journal → ⊥

-- the box of a function explains the list
abbrev pub IsExplainedBy : FunctionPlan → Scene AnyFlight Arrival → List Entry → Type 0
IsExplainedBy (function.Nat pool) s es = IsExplained s (any_nat_box (nat_of pool)) IsSameFlows es
IsExplainedBy (function.Firewall inside rules) s es = IsExplained s
    (any_fw_box (policy_with inside rules)) IsSameConns es
IsExplainedBy (function.Balancer service) s es = IsExplained s (any_lb_box service) IsSameMap es

-- and the function's box explains no such packets: it gives one another verdict than the body does, or keeps other
-- things than the store's map
pub record StraysFromBox (IsOf : FunctionPlan → Type 0) (row : Row) (body : FunctionPlan → Machine AnyFlight)
    (journal : List Entry) : Type 0 where
  pub strays : Strays IsOf row body journal
  pub no_box : IsExplainedBy strays.plan.function
      (with_machine (body strays.plan.function) (setting_of strays.plan row.lanes)).scene journal → ⊥

-- a body of the NAT, and one of the firewall; the other functions keep their machines
abbrev pub nat_body : (Nat → Machine NatFlight) → FunctionPlan → Machine AnyFlight
nat_body body (function.Nat pool) = case_machine nat_case (body (nat_of pool))
nat_body body (function.Firewall inside rules) = any_machine (function.Firewall inside rules)
nat_body body (function.Balancer service) = any_machine (function.Balancer service)

abbrev pub fw_body : (Policy → Machine Flying) → FunctionPlan → Machine AnyFlight
fw_body body (function.Nat pool) = any_machine (function.Nat pool)
fw_body body (function.Firewall inside rules) = case_machine fw_case (body (policy_with inside rules))
fw_body body (function.Balancer service) = any_machine (function.Balancer service)

-- the machine, but where this tells another step
abbrev pub but_goes : {F : Type 0} → (F → Reply → Option (Stand F)) → Machine F → Machine F
but_goes other machine = record {
  asks = machine.asks;
  goes = λ flight reply. elim (other flight reply) [ None ↦ machine.goes flight reply | Some stand ↦ stand ];
  decided = machine.decided;
}

-- The loser of a race on one flow emits the port that it claimed itself,
abbrev pub own_claim : Nat → NatFlight → Reply → Option (Stand NatFlight)
own_claim nat (Out (Confirm place version) incarnation packet) (Found value found) = Some
    (Ends (Some (Emit (Source (tried nat packet place)))))
own_claim nat flight reply = None

abbrev pub emits_own_claim : Nat → Machine NatFlight
emits_own_claim nat = but_goes (own_claim nat) (nat_machine nat)

-- or emits the winner's, and keeps its claim.
abbrev pub unreleased : NatFlight → Reply → Option (Stand NatFlight)
unreleased (Out (Confirm place version) incarnation packet) (Found value found) = Some
    (stand_of_step (looked (flow_to_of value.0)))
unreleased flight reply = None

abbrev pub keeps_its_claim : Nat → Machine NatFlight
keeps_its_claim nat = but_goes unreleased (nat_machine nat)

-- The record is put without a claim.
abbrev pub unclaimed : NatFlight → Reply → Option (Stand NatFlight)
unclaimed (Out Look incarnation packet) Absent = Some (Flies (Out (Confirm 0 0) incarnation packet))
unclaimed flight reply = None

abbrev pub records_first : Nat → Machine NatFlight
records_first nat = but_goes unclaimed (nat_machine nat)

-- There is no port after the first candidate that is taken,
abbrev pub hasty : NatFlight → Reply → Option (Stand NatFlight)
hasty (Out (Try place) incarnation packet) (Found value found) = Some (Ends (Some (Dropped NoPort)))
hasty flight reply = None

abbrev pub tries_one : Nat → Machine NatFlight
tries_one nat = but_goes hasty (nat_machine nat)

-- or after all candidates, with no last read.
abbrev pub unread_after : ℕ → ℕ → Option (Stand NatFlight)
unread_after ports place =
    if nat_lt (place + 1) ports then None else Some (Ends (Some (Dropped NoPort)))

abbrev pub unread : Nat → NatFlight → Reply → Option (Stand NatFlight)
unread nat (Out (Try place) incarnation packet) (Found value found) = unread_after nat.ports place
unread nat flight reply = None

abbrev pub skips_last_read : Nat → Machine NatFlight
skips_last_read nat = but_goes (unread nat) (nat_machine nat)

-- A sweep doesn't look at the incarnation of a claim,
abbrev pub any_claim : NatFlight → Reply → Option (Stand NatFlight)
any_claim (Sweep SweepPort proto port base) (Found value version) = elim (claim_of value.0) [
  | None ↦ None
  | Some claim ↦ Some (Flies (Sweep (SweepFlow claim.inside version) proto port base))
]
any_claim flight reply = None

abbrev pub sweeps_any_claim : Nat → Machine NatFlight
sweeps_any_claim nat = but_goes any_claim (nat_machine nat)

-- or at the flow's record,
abbrev pub any_flow : NatFlight → Reply → Option (Stand NatFlight)
any_flow (Sweep SweepPort proto port base) (Found value version) = elim (claim_of value.0) [
  | None ↦ None
  | Some claim ↦ if nat_lt claim.incarnation base then Some (Flies (Sweep (Remove version) proto port base)) else None
]
any_flow flight reply = None

abbrev pub sweeps_any_flow : Nat → Machine NatFlight
sweeps_any_flow nat = but_goes any_flow (nat_machine nat)

-- or deletes by a version that it reads anew: a removal with version 0 reads first.
abbrev pub asks_anew : Proto → Pair → SweepState → Request
asks_anew proto port SweepPort = asks_sweep proto port SweepPort
asks_anew proto port (SweepFlow inside version) = asks_sweep proto port (SweepFlow inside version)
asks_anew proto port (Remove zero) = asks_sweep proto port SweepPort
asks_anew proto port (Remove (suc version)) = asks_sweep proto port (Remove (suc version))

abbrev pub goes_anew : Proto → Pair → ℕ → SweepState → Reply → Stand NatFlight
goes_anew proto port base (SweepFlow inside version) Absent = Flies (Sweep (Remove 0) proto port base)
goes_anew proto port base (Remove zero) (Found value version) = Flies (Sweep (Remove version) proto port base)
goes_anew proto port base state reply = goes_sweep proto port base state reply

abbrev pub asks_as_read_anew : Nat → NatFlight → Request
asks_as_read_anew nat (Out state incarnation packet) = nat_asks nat (Out state incarnation packet)
asks_as_read_anew nat (In state packet) = nat_asks nat (In state packet)
asks_as_read_anew nat (Sweep state proto port base) = asks_anew proto port state

abbrev pub goes_as_read_anew : Nat → NatFlight → Reply → Stand NatFlight
goes_as_read_anew nat (Out state incarnation packet) reply = (nat_machine nat).goes (Out state incarnation packet) reply
goes_as_read_anew nat (In state packet) reply = (nat_machine nat).goes (In state packet) reply
goes_as_read_anew nat (Sweep state proto port base) reply = goes_anew proto port base state reply

abbrev pub sweeps_by_a_new_version : Nat → Machine NatFlight
sweeps_by_a_new_version nat = record {
  asks = asks_as_read_anew nat;
  goes = goes_as_read_anew nat;
  decided = (nat_machine nat).decided;
}

-- The firewall writes its state over whatever is there: where a replace fails, it makes the same one with the version
-- that it found.
abbrev pub over_found : FwState → Packet → Reply → Option (Stand Flying)
over_found (Alter version tracked) packet (Found value found) = Some
    (Flies (record { state = Alter found tracked; packet = packet }))
over_found state packet reply = None

abbrev pub writes_over : Policy → Machine Flying
writes_over policy = but_goes (λ flight reply. over_found flight.state flight.packet reply) (fw_machine policy)
