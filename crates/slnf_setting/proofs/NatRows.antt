-- Worked runs of a NAT: out and back, an inbound packet before the record, and a full pool.
use Rattle.std.proofs.Common.{◌≡◌, Some, None, List, [], ◌∷◌, refl, arith}
use Rattle.slnf_base.specs.declared.packets.Proto.TheVariants.{Tcp}
use Rattle.slnf_base.specs.declared.packets.Packet.{Packet}
use Rattle.slnf_base.specs.declared.packets.Change.TheVariants.{Source, Dest}
use Rattle.slnf_base.specs.declared.packets.Reason.TheVariants.{NoPort, NoFlow}
use Rattle.slnf_base.specs.declared.packets.Verdict.TheVariants.{Emit, Dropped}
use Rattle.slnf_base.specs.declared.plans.Pool.{Pool}
use Rattle.slnf_access.specs.declared.requests.Entry.{Entry}
use Rattle.slnf_access.specs.declared.requests.Request.TheVariants.{Read, PutIfAbsent}
use Rattle.slnf_access.specs.declared.requests.Reply.TheVariants.{Done, Found, Absent}
use Rattle.slnf_keys.specs.Layout.{pair_number, pair_at, pair_of, key_number, single_number}
use Rattle.slnf_keys.specs.Keys.{flow_key_number, port_key_number}
use Rattle.slnf_keys.specs.Values.{flow_to_number, flow_to_of, claim_number, claim_of}
use Rattle.slnf_plan.specs.declared.plan.FunctionPlan.TheVariants.{Nat}
use Rattle.slnf_plan.specs.declared.plan.SweepPlan.TheVariants.{No}
use Rattle.slnf_plan.specs.declared.plan.Plan.{Plan}
use Rattle.slnf_run.specs.Verdicts.{verdicts_of}
use Rattle.slnf_run.specs.Scheduled.{usual_way, IsScheduled}
use Rattle.slnf_run.specs.Visits.{visits_of}
use Rattle.slnf_run.specs.Boxes.{content_after}
use Rattle.slnf_setting.proofs.NatRow.{pool_to, five, six, server, packet_f, packet_g, port, flow, tcp, claim, to}
use Rattle.slnf_flight.specs.declared.lanes.Taken.TheVariants.{Seen}
use Rattle.slnf_flight.specs.declared.lanes.Lane.{Lane}
use Rattle.slnf_box.specs.Pools.{nat_of}
use Rattle.slnf_nat.proofs.PoolRows.{back}
use Rattle.slnf_flight.specs.PlanSetting.{setting_of}
use Rattle.slnf_setting.proofs.PlanSchedules.{run_of_schedule}
use Rattle.slnf_setting.proofs.RowParts.{lane_of, epoch_of, on_lane, entry, plan_of}
use Rattle.slnf_setting.specs.OneBoxOfPlan.{any_nat_box, IsOneBoxOfPlan}
use Rattle.slnf_setting.proofs.PlanWhole.{one_box_of_plan}

abbrev pub wide : Pool
wide = pool_to 40003 (omega arith)

abbrev pub narrow : Pool
narrow = pool_to 40000 (omega arith)

abbrev pub answer : Packet
answer = record { proto = Tcp; source = server; dest = port 40001; flags = 18 }

-- ---- out and back

abbrev back_plan : Plan
back_plan = plan_of (Nat wide) 1 1 (epoch_of (on_lane 0 ∷ on_lane 1 ∷ []) [] No (0 ∷ 0 ∷ 0 ∷ 1 ∷ 1 ∷ []) ∷ []) refl

abbrev back_lanes : List Lane
back_lanes = lane_of (Seen packet_f ∷ []) refl ∷ lane_of (Seen answer ∷ []) refl ∷ []

abbrev back_journal : List Entry
back_journal = back

back_scheduled : IsScheduled (setting_of back_plan back_lanes)
    (usual_way (setting_of back_plan back_lanes).eras) back_journal
unfolding flow_key_number port_key_number single_number
    key_number pair_number flow_to_number claim_number claim_of pair_at pair_of flow_to_of
back_scheduled = record { accesses = back_journal; made = (0, ((refl, (refl, tt)), refl)); sorted = refl }

back_verdicts : verdicts_of (setting_of back_plan back_lanes) back_journal
    ≡ (Emit (Source (port 40001)) ∷ []) ∷ (Emit (Dest five) ∷ []) ∷ []
unfolding flow_key_number port_key_number single_number
    key_number pair_number flow_to_number claim_number claim_of pair_at pair_of flow_to_of
back_verdicts = refl

pub back_boxed : IsOneBoxOfPlan back_plan back_lanes back_journal
back_boxed = one_box_of_plan back_plan back_lanes back_journal refl
    (run_of_schedule back_plan back_lanes back_journal back_scheduled (omega arith))

-- ---- an inbound packet before the record of its flow: its place is its first entry

abbrev early_plan : Plan
early_plan = plan_of (Nat wide) 1 1 (epoch_of (on_lane 0 ∷ on_lane 1 ∷ []) [] No (0 ∷ 0 ∷ 1 ∷ 1 ∷ 0 ∷ []) ∷ []) refl

abbrev early_lanes : List Lane
early_lanes = lane_of (Seen packet_f ∷ []) refl ∷ lane_of (Seen answer ∷ []) refl ∷ []

abbrev early_second : Entry
early_second = entry 3 1 0 (Read (tcp 40001)) (Found (claim 0 five) 2)

abbrev early_journal : List Entry
early_journal =
    entry 1 0 0 (Read (flow five)) Absent
    ∷ entry 2 0 0 (PutIfAbsent (tcp 40001) (claim 0 five)) (Done 2)
    ∷ early_second
    ∷ entry 4 1 0 (Read (flow five)) Absent
    ∷ entry 5 0 0 (PutIfAbsent (flow five) (to 40001)) (Done 5)
    ∷ []

early_scheduled : IsScheduled (setting_of early_plan early_lanes)
    (usual_way (setting_of early_plan early_lanes).eras) early_journal
unfolding flow_key_number port_key_number single_number
    key_number pair_number flow_to_number claim_number claim_of pair_at pair_of flow_to_of
early_scheduled = record { accesses = early_journal; made = (0, ((refl, (refl, tt)), refl)); sorted = refl }

early_verdicts : verdicts_of (setting_of early_plan early_lanes) early_journal
    ≡ (Emit (Source (port 40001)) ∷ []) ∷ (Dropped NoFlow ∷ []) ∷ []
unfolding flow_key_number port_key_number single_number
    key_number pair_number flow_to_number claim_number claim_of pair_at pair_of flow_to_of
early_verdicts = refl

pub early_boxed : IsOneBoxOfPlan early_plan early_lanes early_journal
early_boxed = one_box_of_plan early_plan early_lanes early_journal refl
    (run_of_schedule early_plan early_lanes early_journal early_scheduled (omega arith))

early_place : visits_of (setting_of early_plan early_lanes).scene early_journal 2 early_second
    ≡ record { arrival = record { packet = answer; choice = None; time = 0 }; verdict = Some (Dropped NoFlow) } ∷ []
unfolding flow_key_number port_key_number single_number
    key_number pair_number flow_to_number claim_number claim_of pair_at pair_of flow_to_of
early_place = refl

early_content : content_after (setting_of early_plan early_lanes).scene (any_nat_box (nat_of wide)) early_journal 5
    ≡ record { proto = Tcp; inside = five; outside = port 40001 } ∷ []
unfolding flow_key_number port_key_number single_number
    key_number pair_number flow_to_number claim_number claim_of pair_at pair_of flow_to_of
early_content = refl

-- ---- a full pool

abbrev full_plan : Plan
full_plan = plan_of (Nat narrow) 1 1 (epoch_of (on_lane 0 ∷ []) [] No [] ∷ []) refl

abbrev full_lanes : List Lane
full_lanes = lane_of (Seen packet_f ∷ Seen packet_g ∷ []) refl ∷ []

abbrev full_journal : List Entry
full_journal =
    entry 1 0 0 (Read (flow five)) Absent
    ∷ entry 2 0 0 (PutIfAbsent (tcp 40000) (claim 0 five)) (Done 2)
    ∷ entry 3 0 0 (PutIfAbsent (flow five) (to 40000)) (Done 3)
    ∷ entry 4 0 1 (Read (flow six)) Absent
    ∷ entry 5 0 1 (PutIfAbsent (tcp 40000) (claim 0 six)) (Found (claim 0 five) 2)
    ∷ entry 6 0 1 (Read (flow six)) Absent
    ∷ []

full_scheduled : IsScheduled (setting_of full_plan full_lanes)
    (usual_way (setting_of full_plan full_lanes).eras) full_journal
unfolding flow_key_number port_key_number single_number
    key_number pair_number flow_to_number claim_number claim_of pair_at pair_of flow_to_of
full_scheduled = record { accesses = full_journal; made = (6, ((refl, tt), refl)); sorted = refl }

full_verdicts : verdicts_of (setting_of full_plan full_lanes) full_journal
    ≡ (Emit (Source (port 40000)) ∷ Dropped NoPort ∷ []) ∷ []
unfolding flow_key_number port_key_number single_number
    key_number pair_number flow_to_number claim_number claim_of pair_at pair_of flow_to_of
full_verdicts = refl

pub full_boxed : IsOneBoxOfPlan full_plan full_lanes full_journal
full_boxed = one_box_of_plan full_plan full_lanes full_journal refl
    (run_of_schedule full_plan full_lanes full_journal full_scheduled (omega arith))
