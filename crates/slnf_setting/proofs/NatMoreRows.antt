-- More worked runs of a NAT: races, stops at each point, a pool of one pair, an epoch without actors.
use Rattle.std.proofs.Common.{◌≡◌, Some, None, List, [], ◌∷◌, refl, arith}
use Rattle.slnf_base.specs.declared.packets.Proto.TheVariants.{Tcp}
use Rattle.slnf_base.specs.declared.packets.Change.TheVariants.{Source}
use Rattle.slnf_base.specs.declared.packets.Reason.TheVariants.{NoPort, Neither}
use Rattle.slnf_base.specs.declared.packets.Verdict.TheVariants.{Emit, Dropped, Lost}
use Rattle.slnf_access.specs.declared.requests.Entry.{Entry}
use Rattle.slnf_access.specs.declared.requests.Request.TheVariants.{Read, PutIfAbsent}
use Rattle.slnf_access.specs.declared.requests.Reply.TheVariants.{Done, Found, Absent}
use Rattle.slnf_keys.specs.Layout.{pair_number, pair_at, pair_of, key_number, single_number}
use Rattle.slnf_keys.specs.Keys.{flow_key_number, port_key_number}
use Rattle.slnf_keys.specs.Values.{flow_to_number, flow_to_of, claim_number, claim_of}
use Rattle.slnf_plan.specs.declared.plan.FunctionPlan.TheVariants.{Nat}
use Rattle.slnf_plan.specs.declared.plan.SweepPlan.TheVariants.{No}
use Rattle.slnf_plan.specs.declared.plan.Plan.{Plan}
use Rattle.slnf_run.specs.Verdicts.{verdicts_of}
use Rattle.slnf_run.specs.Scheduled.{usual_way, IsScheduled}
use Rattle.slnf_run.specs.Visits.{visits_of}
use Rattle.slnf_box.specs.NatBox.{nat_box, Flow, NatArrival}
use Rattle.slnf_setting.proofs.NatRow.{five, packet_f, port, flow, tcp, claim, to}
use Rattle.slnf_setting.proofs.NatRows.{wide, narrow}
use Rattle.slnf_flight.specs.declared.lanes.Taken.TheVariants.{Seen}
use Rattle.slnf_flight.specs.declared.lanes.Lane.{Lane}
use Rattle.slnf_box.specs.Pools.{nat_of}
use Rattle.slnf_nat.proofs.PoolRows.{race, late, early}
use Rattle.slnf_flight.specs.PlanSetting.{setting_of}
use Rattle.slnf_setting.proofs.PlanSchedules.{run_of_schedule}
use Rattle.slnf_setting.proofs.RowParts.{lane_of, epoch_of, on_lane, with_stop, entry, plan_of}
use Rattle.slnf_setting.specs.OneBoxOfPlan.{IsOneBoxOfPlan}
use Rattle.slnf_setting.proofs.PlanWhole.{one_box_of_plan}

abbrev race_plan : Plan
race_plan = plan_of (Nat wide) 1 1
    (epoch_of (on_lane 0 ∷ on_lane 1 ∷ []) [] No (0 ∷ 1 ∷ 0 ∷ 1 ∷ 0 ∷ 1 ∷ 1 ∷ 1 ∷ []) ∷ []) refl

abbrev race_lanes : List Lane
race_lanes = lane_of (Seen packet_f ∷ []) refl ∷ lane_of (Seen packet_f ∷ []) refl ∷ []

abbrev race_journal : List Entry
race_journal = race

race_scheduled : IsScheduled (setting_of race_plan race_lanes)
    (usual_way (setting_of race_plan race_lanes).eras) race_journal
unfolding flow_key_number port_key_number single_number
    key_number pair_number flow_to_number claim_number claim_of pair_at pair_of flow_to_of
race_scheduled = record { accesses = race_journal; made = (0, ((refl, (refl, tt)), refl)); sorted = refl }

race_verdicts : verdicts_of (setting_of race_plan race_lanes) race_journal
    ≡ (Emit (Source (port 40001)) ∷ []) ∷ (Emit (Source (port 40001)) ∷ []) ∷ []
unfolding flow_key_number port_key_number single_number
    key_number pair_number flow_to_number claim_number claim_of pair_at pair_of flow_to_of
race_verdicts = refl

pub race_boxed : IsOneBoxOfPlan race_plan race_lanes race_journal
race_boxed = one_box_of_plan race_plan race_lanes race_journal refl
    (run_of_schedule race_plan race_lanes race_journal race_scheduled (omega arith))

race_place : visits_of (setting_of race_plan race_lanes).scene race_journal 6
    (entry 7 1 0 (PutIfAbsent (flow five) (to 40002)) (Found (to 40001) 5))
    ≡ record {
      arrival = record { packet = packet_f; choice = None; time = 0 };
      verdict = Some (Emit (Source (port 40001)));
    } ∷ []
unfolding flow_key_number port_key_number single_number
    key_number pair_number flow_to_number claim_number claim_of pair_at pair_of flow_to_of
race_place = refl

abbrev pub record_plan : Plan
record_plan = plan_of (Nat wide) 1 1
    (epoch_of (with_stop 0 3 ∷ []) [] No [] ∷ epoch_of (on_lane 0 ∷ []) [] No [] ∷ []) refl

abbrev pub record_lanes : List Lane
record_lanes = lane_of (Seen packet_f ∷ Seen packet_f ∷ []) refl ∷ []

abbrev pub record_journal : List Entry
record_journal =
    entry 1 0 0 (Read (flow five)) Absent
    ∷ entry 2 0 0 (PutIfAbsent (tcp 40001) (claim 0 five)) (Done 2)
    ∷ entry 3 0 0 (PutIfAbsent (flow five) (to 40001)) (Done 3)
    ∷ entry 4 1 1 (Read (flow five)) (Found (to 40001) 3)
    ∷ []

record_scheduled : IsScheduled (setting_of record_plan record_lanes)
    (usual_way (setting_of record_plan record_lanes).eras) record_journal
unfolding flow_key_number port_key_number single_number
    key_number pair_number flow_to_number claim_number claim_of pair_at pair_of flow_to_of
record_scheduled = record {
  accesses = record_journal;
  made =
      (3, ((refl, tt), (1, ((refl, tt), refl))));
  sorted = refl;
}

record_verdicts : verdicts_of (setting_of record_plan record_lanes) record_journal
    ≡ (Lost ∷ Emit (Source (port 40001)) ∷ []) ∷ []
unfolding flow_key_number port_key_number single_number
    key_number pair_number flow_to_number claim_number claim_of pair_at pair_of flow_to_of
record_verdicts = refl

pub record_boxed : IsOneBoxOfPlan record_plan record_lanes record_journal
record_boxed = one_box_of_plan record_plan record_lanes record_journal refl
    (run_of_schedule record_plan record_lanes record_journal record_scheduled (omega arith))

record_place : visits_of (setting_of record_plan record_lanes).scene record_journal 2
    (entry 3 0 0 (PutIfAbsent (flow five) (to 40001)) (Done 3))
    ≡ record {
      arrival = record { packet = packet_f; choice = Some (port 40001); time = 0 };
      verdict = Some (Emit (Source (port 40001)));
    } ∷ []
unfolding flow_key_number port_key_number single_number
    key_number pair_number flow_to_number claim_number claim_of pair_at pair_of flow_to_of
record_place = refl

abbrev claimed_plan : Plan
claimed_plan = plan_of (Nat wide) 1 1 (epoch_of (with_stop 0 2 ∷ []) [] No [] ∷ []) refl

abbrev claimed_lanes : List Lane
claimed_lanes = lane_of (Seen packet_f ∷ []) refl ∷ []

abbrev claimed_journal : List Entry
claimed_journal =
    entry 1 0 0 (Read (flow five)) Absent
    ∷ entry 2 0 0 (PutIfAbsent (tcp 40001) (claim 0 five)) (Done 2)
    ∷ []

claimed_scheduled : IsScheduled (setting_of claimed_plan claimed_lanes)
    (usual_way (setting_of claimed_plan claimed_lanes).eras) claimed_journal
unfolding flow_key_number port_key_number single_number
    key_number pair_number flow_to_number claim_number claim_of pair_at pair_of flow_to_of
claimed_scheduled = record { accesses = claimed_journal; made = (2, ((refl, tt), refl)); sorted = refl }

claimed_verdicts : verdicts_of (setting_of claimed_plan claimed_lanes) claimed_journal ≡ (Lost ∷ []) ∷ []
unfolding flow_key_number port_key_number single_number
    key_number pair_number flow_to_number claim_number claim_of pair_at pair_of flow_to_of
claimed_verdicts = refl

pub claimed_boxed : IsOneBoxOfPlan claimed_plan claimed_lanes claimed_journal
claimed_boxed = one_box_of_plan claimed_plan claimed_lanes claimed_journal refl
    (run_of_schedule claimed_plan claimed_lanes claimed_journal claimed_scheduled (omega arith))

abbrev hang_plan : Plan
hang_plan = plan_of (Nat wide) 1 1
    (epoch_of (on_lane 0 ∷ with_stop 1 4 ∷ []) [] No (0 ∷ 1 ∷ 0 ∷ 1 ∷ 0 ∷ 1 ∷ 1 ∷ 1 ∷ []) ∷ []) refl

abbrev hang_lanes : List Lane
hang_lanes = lane_of (Seen packet_f ∷ []) refl ∷ lane_of (Seen packet_f ∷ []) refl ∷ []

abbrev hang_journal : List Entry
hang_journal =
    entry 1 0 0 (Read (flow five)) Absent
    ∷ entry 2 1 0 (Read (flow five)) Absent
    ∷ entry 3 0 0 (PutIfAbsent (tcp 40001) (claim 0 five)) (Done 3)
    ∷ entry 4 1 0 (PutIfAbsent (tcp 40001) (claim 1 five)) (Found (claim 0 five) 3)
    ∷ entry 5 0 0 (PutIfAbsent (flow five) (to 40001)) (Done 5)
    ∷ entry 6 1 0 (PutIfAbsent (tcp 40002) (claim 1 five)) (Done 6)
    ∷ entry 7 1 0 (PutIfAbsent (flow five) (to 40002)) (Found (to 40001) 5)
    ∷ []

hang_scheduled : IsScheduled (setting_of hang_plan hang_lanes)
    (usual_way (setting_of hang_plan hang_lanes).eras) hang_journal
unfolding flow_key_number port_key_number single_number
    key_number pair_number flow_to_number claim_number claim_of pair_at pair_of flow_to_of
hang_scheduled = record { accesses = hang_journal; made = (0, ((refl, (refl, tt)), refl)); sorted = refl }

hang_verdicts : verdicts_of (setting_of hang_plan hang_lanes) hang_journal
    ≡ (Emit (Source (port 40001)) ∷ []) ∷ (Lost ∷ []) ∷ []
unfolding flow_key_number port_key_number single_number
    key_number pair_number flow_to_number claim_number claim_of pair_at pair_of flow_to_of
hang_verdicts = refl

pub hang_boxed : IsOneBoxOfPlan hang_plan hang_lanes hang_journal
hang_boxed = one_box_of_plan hang_plan hang_lanes hang_journal refl
    (run_of_schedule hang_plan hang_lanes hang_journal hang_scheduled (omega arith))

abbrev twice_plan : Plan
twice_plan = plan_of (Nat narrow) 1 1
    (epoch_of (on_lane 0 ∷ on_lane 1 ∷ []) [] No (0 ∷ 1 ∷ 0 ∷ 1 ∷ 0 ∷ 1 ∷ []) ∷ []) refl

abbrev twice_lanes : List Lane
twice_lanes = lane_of (Seen packet_f ∷ []) refl ∷ lane_of (Seen packet_f ∷ []) refl ∷ []

abbrev twice_journal : List Entry
twice_journal = late

twice_scheduled : IsScheduled (setting_of twice_plan twice_lanes)
    (usual_way (setting_of twice_plan twice_lanes).eras) twice_journal
unfolding flow_key_number port_key_number single_number
    key_number pair_number flow_to_number claim_number claim_of pair_at pair_of flow_to_of
twice_scheduled = record { accesses = twice_journal; made = (0, ((refl, (refl, tt)), refl)); sorted = refl }

twice_verdicts : verdicts_of (setting_of twice_plan twice_lanes) twice_journal
    ≡ (Emit (Source (port 40000)) ∷ []) ∷ (Emit (Source (port 40000)) ∷ []) ∷ []
unfolding flow_key_number port_key_number single_number
    key_number pair_number flow_to_number claim_number claim_of pair_at pair_of flow_to_of
twice_verdicts = refl

pub twice_boxed : IsOneBoxOfPlan twice_plan twice_lanes twice_journal
twice_boxed = one_box_of_plan twice_plan twice_lanes twice_journal refl
    (run_of_schedule twice_plan twice_lanes twice_journal twice_scheduled (omega arith))

abbrev starved_plan : Plan
starved_plan = plan_of (Nat narrow) 1 1
    (epoch_of (on_lane 0 ∷ on_lane 1 ∷ []) [] No (0 ∷ 1 ∷ 0 ∷ 1 ∷ 1 ∷ 0 ∷ []) ∷ []) refl

abbrev starved_lanes : List Lane
starved_lanes = lane_of (Seen packet_f ∷ []) refl ∷ lane_of (Seen packet_f ∷ []) refl ∷ []

abbrev starved_journal : List Entry
starved_journal = early

starved_scheduled : IsScheduled (setting_of starved_plan starved_lanes)
    (usual_way (setting_of starved_plan starved_lanes).eras) starved_journal
unfolding flow_key_number port_key_number single_number
    key_number pair_number flow_to_number claim_number claim_of pair_at pair_of flow_to_of
starved_scheduled = record { accesses = starved_journal; made = (0, ((refl, (refl, tt)), refl)); sorted = refl }

starved_verdicts : verdicts_of (setting_of starved_plan starved_lanes) starved_journal
    ≡ (Emit (Source (port 40000)) ∷ []) ∷ (Dropped NoPort ∷ []) ∷ []
unfolding flow_key_number port_key_number single_number
    key_number pair_number flow_to_number claim_number claim_of pair_at pair_of flow_to_of
starved_verdicts = refl

pub starved_boxed : IsOneBoxOfPlan starved_plan starved_lanes starved_journal
starved_boxed = one_box_of_plan starved_plan starved_lanes starved_journal refl
    (run_of_schedule starved_plan starved_lanes starved_journal starved_scheduled (omega arith))

abbrev empty_plan : Plan
empty_plan = plan_of (Nat narrow) 1 1 (epoch_of [] [] No [] ∷ epoch_of (on_lane 5 ∷ []) [] No (0 ∷ 0 ∷ []) ∷ []) refl

abbrev empty_lanes : List Lane
empty_lanes = lane_of ([]) refl ∷ []

abbrev empty_journal : List Entry
empty_journal =
    []

empty_scheduled : IsScheduled (setting_of empty_plan empty_lanes)
    (usual_way (setting_of empty_plan empty_lanes).eras) empty_journal
unfolding flow_key_number port_key_number single_number
    key_number pair_number flow_to_number claim_number claim_of pair_at pair_of flow_to_of
empty_scheduled = record { accesses = empty_journal; made = (0, (tt, (0, ((refl, tt), refl)))); sorted = refl }

empty_verdicts : verdicts_of (setting_of empty_plan empty_lanes) empty_journal ≡ ([]) ∷ []
unfolding flow_key_number port_key_number single_number
    key_number pair_number flow_to_number claim_number claim_of pair_at pair_of flow_to_of
empty_verdicts = refl

pub empty_boxed : IsOneBoxOfPlan empty_plan empty_lanes empty_journal
empty_boxed = one_box_of_plan empty_plan empty_lanes empty_journal refl
    (run_of_schedule empty_plan empty_lanes empty_journal empty_scheduled (omega arith))

-- ---- a packet from the inside to the outside address: whatever the box keeps, it is dropped, and changes nothing

abbrev hairpin : NatArrival
hairpin = record { packet = record { proto = Tcp; source = five; dest = port 40001; flags = 2 }; choice = None }

hairpin_verdict : (flows : List Flow) → (nat_box (nat_of wide)).verdict flows hairpin ≡ Dropped Neither
hairpin_verdict flows = refl

hairpin_next : (flows : List Flow) → (nat_box (nat_of wide)).next flows hairpin ≡ flows
hairpin_next flows = refl
