-- Journals that are no run of a NAT's plan, and the rule that refuses each.
use Rattle.std.proofs.Common.{◌≡◌, inl, inr, Some, None, List, [], ◌∷◌, refl, ap, arith}
use Rattle.slnf_base.specs.declared.packets.Proto.TheVariants.{Udp}
use Rattle.slnf_access.specs.declared.requests.Entry.{Entry}
use Rattle.slnf_access.specs.declared.requests.Request.{Request}
use Rattle.slnf_access.specs.declared.requests.Request.TheVariants.{Read, PutIfAbsent, DeleteIf}
use Rattle.slnf_access.specs.declared.requests.Reply.TheVariants.{Done, Found, Absent}
use Rattle.slnf_access.specs.Map.{key_of}
use Rattle.slnf_keys.specs.Layout.{pair_number, pair_at, pair_of, key_number, single_number}
use Rattle.slnf_keys.specs.Keys.{flow_key_number, port_key_number}
use Rattle.slnf_keys.specs.Values.{flow_to_number, flow_to_of, claim_number, claim_of}
use Rattle.slnf_plan.specs.declared.plan.FunctionPlan.TheVariants.{Nat}
use Rattle.slnf_plan.specs.declared.plan.SweepPlan.TheVariants.{No, Yes}
use Rattle.slnf_plan.specs.declared.plan.Plan.{Plan}
use Rattle.slnf_run.specs.Run.{IsRun}
use Rattle.slnf_run.specs.Parts.{Post}
use Rattle.slnf_run.specs.Scheduled.{usual_way, IsScheduled}
use Rattle.slnf_flight.specs.declared.lanes.Taken.TheVariants.{Seen}
use Rattle.slnf_flight.specs.declared.lanes.Lane.{Lane}
use Rattle.slnf_flight.specs.PlanSetting.{setting_of}
use Rattle.slnf_setting.proofs.PlanSchedules.{run_of_schedule}
use Rattle.slnf_setting.proofs.RowParts.{lane_of, epoch_of, on_lane, entry, plan_of}
use Rattle.slnf_setting.proofs.NatRow.{five, six, packet_f, packet_g, port, flow, tcp, claim, to}
use Rattle.slnf_setting.proofs.NatRows.{narrow}

-- two packets of two flows, a pool of one pair, and then a sweep alone
abbrev plan : Plan
plan = plan_of (Nat narrow) 1 1 (epoch_of (on_lane 0 ∷ []) [] No [] ∷ epoch_of [] [] (Yes None) [] ∷ []) refl

abbrev lanes : List Lane
lanes = lane_of (Seen packet_f ∷ Seen packet_g ∷ []) refl ∷ []

abbrev n0 : Entry
n0 = entry 1 0 0 (Read (flow five)) Absent

abbrev n1 : Entry
n1 = entry 2 0 0 (PutIfAbsent (tcp 40000) (claim 0 five)) (Done 2)

abbrev n2 : Entry
n2 = entry 3 0 0 (PutIfAbsent (flow five) (to 40000)) (Done 3)

abbrev n3 : Entry
n3 = entry 4 0 1 (Read (flow six)) Absent

abbrev n4 : Entry
n4 = entry 5 0 1 (PutIfAbsent (tcp 40000) (claim 0 six)) (Found (claim 0 five) 2)

abbrev n5 : Entry
n5 = entry 6 0 1 (Read (flow six)) Absent

abbrev n6 : Entry
n6 = entry 7 1 0 (Read (tcp 40000)) (Found (claim 0 five) 2)

abbrev n7 : Entry
n7 = entry 8 1 0 (Read (flow five)) (Found (to 40000) 3)

abbrev udp : Request
udp = Read (record { 0 = port_key_number (record { proto = Udp; outside = port 40000 }) })

abbrev n8 : Entry
n8 = entry 9 1 1 udp Absent

abbrev Runs : List Entry → Type 0
Runs es = IsRun (setting_of plan lanes) es

abbrev journal : List Entry
journal = n0 ∷ n1 ∷ n2 ∷ n3 ∷ n4 ∷ n5 ∷ n6 ∷ n7 ∷ n8 ∷ []

-- a run
scheduled : IsScheduled (setting_of plan lanes) (usual_way (setting_of plan lanes).eras) journal
unfolding flow_key_number port_key_number single_number
    key_number pair_number flow_to_number claim_number claim_of pair_at pair_of flow_to_of
scheduled = record {
  accesses = journal;
  made = (6, ((refl, tt), (3, ((refl, tt), refl))));
  sorted = refl;
}

right : Runs journal
right = run_of_schedule plan lanes journal scheduled (omega arith)

abbrev post_0 : Post
post_0 = record { actor = record { lane = Some 0; quota = None; stop = None }; era = 0; at = 0 }

abbrev post_1 : Post
post_1 = record { actor = record { lane = None; quota = None; stop = None }; era = 1; at = 0 }

-- one pair for two flows, without a claim
one_port : Runs (n0 ∷ n1 ∷ n2 ∷ n3 ∷ entry 5 0 1 (PutIfAbsent (flow six) (to 40000)) (Done 5) ∷ []) → ⊥
unfolding flow_key_number port_key_number single_number
    key_number pair_number flow_to_number claim_number claim_of pair_at pair_of flow_to_of
one_port run =
    let same : key_of (PutIfAbsent (flow six) (to 40000)) ≡ key_of (PutIfAbsent (tcp 40000) (claim 0 six)) =
    ap key_of (run.paths 0 1).1.0 in
    omega arith

-- the record before the claim
record_first : Runs (n0 ∷ entry 2 0 0 (PutIfAbsent (flow five) (to 40000)) (Done 2) ∷ []) → ⊥
unfolding flow_key_number port_key_number single_number
    key_number pair_number flow_to_number claim_number claim_of pair_at pair_of flow_to_of
record_first run =
    let same : key_of (PutIfAbsent (flow five) (to 40000)) ≡ key_of (PutIfAbsent (tcp 40000) (claim 0 five)) =
    ap key_of (run.paths 0 0).1.0 in
    omega arith

-- no port without the last read
hasty : Runs (n0 ∷ n1 ∷ n2 ∷ n3 ∷ n4 ∷ n6 ∷ n7 ∷ n8 ∷ []) → ⊥
unfolding flow_key_number port_key_number single_number
    key_number pair_number flow_to_number claim_number claim_of pair_at pair_of flow_to_of
hasty run = elim (run.done 0 post_0 refl) [
  | inl stopped ↦ absurd (cc)
  | inr whole ↦ whole.1.1.0
]

-- a sweep takes a live flow's claim away
live_taken : Runs (n0 ∷ n1 ∷ n2 ∷ n3 ∷ n4 ∷ n5 ∷ n6 ∷ n7 ∷ entry 9 1 0 (DeleteIf (tcp 40000) 2) (Done 9) ∷ []) → ⊥
unfolding flow_key_number port_key_number single_number
    key_number pair_number flow_to_number claim_number claim_of pair_at pair_of flow_to_of
live_taken run = (run.paths 1 0).1.1.0

-- a sweep deletes without a look
blind_sweep : Runs (n0 ∷ n1 ∷ n2 ∷ n3 ∷ n4 ∷ n5 ∷ entry 7 1 0 (DeleteIf (tcp 40000) 2) (Done 7) ∷ []) → ⊥
unfolding flow_key_number port_key_number single_number
    key_number pair_number flow_to_number claim_number claim_of pair_at pair_of flow_to_of
blind_sweep run =
    let asked : DeleteIf (tcp 40000) 2 ≡ Read (tcp 40000) = (run.paths 1 0).0 in
    cc

-- a sweep goes past its last port
sweep_past : Runs (n0 ∷ n1 ∷ n2 ∷ n3 ∷ n4 ∷ n5 ∷ n6 ∷ n7 ∷ n8 ∷ entry 10 1 2 udp Absent ∷ []) → ⊥
unfolding flow_key_number port_key_number single_number
    key_number pair_number flow_to_number claim_number claim_of pair_at pair_of flow_to_of
sweep_past run = (run.paths 1 2).0

-- a sweep leaves the UDP ports out
sweep_short : Runs (n0 ∷ n1 ∷ n2 ∷ n3 ∷ n4 ∷ n5 ∷ n6 ∷ n7 ∷ []) → ⊥
unfolding flow_key_number port_key_number single_number
    key_number pair_number flow_to_number claim_number claim_of pair_at pair_of flow_to_of
sweep_short run = elim (run.done 1 post_1 refl) [
  | inl stopped ↦ absurd (cc)
  | inr whole ↦ whole.1.1.0
]
