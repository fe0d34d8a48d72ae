-- A worked run: two lanes of one connection, where a replace fails.
use Rattle.std.proofs.Common.{◌≡◌, ℕ, Bool, true, false, Some, None, List, [], ◌∷◌, refl, arith}
use Rattle.slnf_base.specs.declared.addresses.Pair.{Pair}
use Rattle.slnf_base.specs.declared.addresses.Prefix.{Prefix}
use Rattle.slnf_base.specs.declared.packets.Proto.TheVariants.{Tcp}
use Rattle.slnf_base.specs.declared.packets.Packet.{Packet}
use Rattle.slnf_base.specs.declared.packets.Change.TheVariants.{Keep}
use Rattle.slnf_base.specs.declared.packets.Reason.TheVariants.{Neither, Short}
use Rattle.slnf_base.specs.declared.packets.Verdict.TheVariants.{Emit, Dropped}
use Rattle.slnf_access.specs.declared.requests.Key.{Key}
use Rattle.slnf_access.specs.declared.requests.Value.{Value}
use Rattle.slnf_access.specs.declared.requests.Entry.{Entry}
use Rattle.slnf_access.specs.declared.requests.Request.TheVariants.{Read, PutIfAbsent, ReplaceIf}
use Rattle.slnf_access.specs.declared.requests.Reply.TheVariants.{Done, Found, Absent}
use Rattle.slnf_access.specs.Machines.{Flies, Ends}
use Rattle.slnf_keys.specs.Layout.{pair_number, pair_at, pair_of, key_number, single_number}
use Rattle.slnf_keys.specs.Keys.{conn_key_number}
use Rattle.slnf_keys.specs.Values.{conn_number, conn_of}
use Rattle.slnf_fw_table.specs.declared.rules.Rule.{Rule}
use Rattle.slnf_plan.specs.declared.plan.FunctionPlan.TheVariants.{Firewall}
use Rattle.slnf_plan.specs.declared.plan.SweepPlan.TheVariants.{No}
use Rattle.slnf_plan.specs.declared.plan.Plan.{Plan}
use Rattle.slnf_run.specs.Visits.{visits_of}
use Rattle.slnf_run.specs.Boxes.{content_after}
use Rattle.slnf_run.specs.Run.{IsRun}
use Rattle.slnf_run.specs.Verdicts.{verdicts_of}
use Rattle.slnf_run.specs.Scheduled.{usual_way, IsScheduled}
use Rattle.slnf_fw_table.specs.declared.connections.State.TheVariants.{SynSent, SynAcked, Opened, FinByOpener, FinByOther, BothFin}
use Rattle.slnf_fw_table.specs.declared.connections.State.{State}
use Rattle.slnf_fw.specs.declared.flights.FwState.TheVariants.{Look}
use Rattle.slnf_fw.specs.Machine.{fw_key, fw_value}
use Rattle.slnf_flight.specs.declared.lanes.Taken.TheVariants.{Seen, Bad}
use Rattle.slnf_flight.specs.declared.lanes.Lane.{Lane}
use Rattle.slnf_flight.specs.declared.flights.AnyFlight.TheVariants.{Firewall as FwFlies}
use Rattle.slnf_flight.specs.FwPlan.{policy_with}
use Rattle.slnf_flight.specs.PlanSetting.{setting_of}
use Rattle.slnf_setting.proofs.PlanSchedules.{run_of_schedule}
use Rattle.slnf_setting.proofs.RowParts.{lane_of, epoch_of, on_lane, entry, plan_of}
use Rattle.slnf_setting.specs.OneBoxOfPlan.{any_fw_box, IsOneBoxOfPlan}
use Rattle.slnf_setting.proofs.PlanWhole.{one_box_of_plan}

-- 10.0.0.0/8
abbrev pub ten : Prefix
ten = record { addr = 167772160; bits = 8; within = omega arith; zeros_after = refl }

-- packets between any addresses to these ports may open
abbrev pub between_any : (outbound : Bool) (proto low high : ℕ) → Rule
between_any outbound proto low high = record {
  permit = true;
  outbound = outbound;
  proto = proto;
  source = 0;
  source_bits = 0;
  dest = 0;
  dest_bits = 0;
  low = low;
  high = high;
  source_within = omega arith;
  source_zeros_after = refl;
  dest_within = omega arith;
  dest_zeros_after = refl;
}

-- all TCP goes out
abbrev pub all_out : Rule
all_out = between_any true 6 0 65535

abbrev plan : Plan
plan = plan_of (Firewall ten (all_out ∷ [])) 1 1
    (epoch_of (on_lane 0 ∷ on_lane 1 ∷ []) [] No (0 ∷ 0 ∷ 1 ∷ 1 ∷ 0 ∷ 0 ∷ 0 ∷ 1 ∷ 0 ∷ 1 ∷ 1 ∷ []) ∷ []) refl

-- 10.0.0.5:5000 and 198.51.100.7:80
abbrev pub client : Pair
client = record { addr = 167772165; port = 5000 }

abbrev pub server : Pair
server = record { addr = 3325256711; port = 80 }

abbrev going : ℕ → Packet
going flags = record { proto = Tcp; source = client; dest = server; flags = flags }

abbrev coming : ℕ → Packet
coming flags = record { proto = Tcp; source = server; dest = client; flags = flags }

-- SYN, ACK and FIN+ACK of the client, a frame that is short, and a packet between outsiders; SYN+ACK and FIN+ACK of
-- the server
abbrev lanes : List Lane
lanes =
    lane_of (Seen (going 2) ∷ Seen (going 16) ∷ Seen (going 17) ∷ Bad Short ∷ Seen
    (record { proto = Tcp; source = server; dest = server; flags = 2 }) ∷ []) refl
    ∷ lane_of (Seen (coming 18) ∷ Seen (coming 17) ∷ []) refl
    ∷ []

-- how items begin
first_packet : (setting_of plan lanes).scene.begins 0 0 ≡ Flies (FwFlies (record { state = Look; packet = going 2 }))
first_packet = refl

short : (setting_of plan lanes).scene.begins 0 3 ≡ Ends (Some (Dropped Short))
short = refl

neither : (setting_of plan lanes).scene.begins 0 4 ≡ Ends (Some (Dropped Neither))
neither = refl

nothing : (setting_of plan lanes).scene.begins 0 5 ≡ Ends None
nothing = refl

-- the connection's key, and its value in a state
abbrev key : Key
key = fw_key (policy_with ten (all_out ∷ [])) (going 2)

abbrev value : State → Value
value state = fw_value (record { by_outside = false; state = state })

abbrev journal : List Entry
journal =
    entry 1 0 0 (Read key) Absent
    ∷ entry 2 0 0 (PutIfAbsent key (value SynSent)) (Done 2)
    ∷ entry 3 1 0 (Read key) (Found (value SynSent) 2)
    ∷ entry 4 1 0 (ReplaceIf key 2 (value SynAcked)) (Done 4)
    ∷ entry 5 0 1 (Read key) (Found (value SynAcked) 4)
    ∷ entry 6 0 1 (ReplaceIf key 4 (value Opened)) (Done 6)
    ∷ entry 7 0 2 (Read key) (Found (value Opened) 6)
    ∷ entry 8 1 1 (Read key) (Found (value Opened) 6)
    ∷ entry 9 0 2 (ReplaceIf key 6 (value FinByOpener)) (Done 9)
    ∷ entry 10 1 1 (ReplaceIf key 6 (value FinByOther)) (Found (value FinByOpener) 9)
    ∷ entry 11 1 1 (ReplaceIf key 9 (value BothFin)) (Done 11)
    ∷ []

-- the schedule makes the journal
pub scheduled : IsScheduled (setting_of plan lanes) (usual_way (setting_of plan lanes).eras) journal
unfolding conn_key_number single_number key_number pair_number conn_number conn_of pair_of pair_at
scheduled = record { accesses = journal; made = (0, ((refl, (refl, tt)), refl)); sorted = refl }

verdicts : verdicts_of (setting_of plan lanes) journal
    ≡ (Emit Keep ∷ Emit Keep ∷ Emit Keep ∷ Dropped Short ∷ Dropped Neither ∷ []) ∷ (Emit Keep ∷ Emit Keep ∷ []) ∷ []
unfolding conn_key_number single_number key_number pair_number conn_number conn_of pair_of pair_at
verdicts = refl

-- the box sees the server's FIN at the replace that is done, and not at the one that fails
place : visits_of (setting_of plan lanes).scene journal 10 (entry 11 1 1 (ReplaceIf key 9 (value BothFin)) (Done 11))
    ≡ record { arrival = record { packet = coming 17; choice = None; time = 0 }; verdict = Some (Emit Keep) } ∷ []
unfolding conn_key_number single_number key_number pair_number conn_number conn_of pair_of pair_at
place = refl

no_place : visits_of (setting_of plan lanes).scene journal 9
    (entry 10 1 1 (ReplaceIf key 6 (value FinByOther)) (Found (value FinByOpener) 9)) ≡ []
unfolding conn_key_number single_number key_number pair_number conn_number conn_of pair_of pair_at
no_place = refl

content : content_after (setting_of plan lanes).scene (any_fw_box (policy_with ten (all_out ∷ []))) journal 11
    (record { proto = Tcp; inside = client; outside = server })
    ≡ Some (record { by_outside = false; state = BothFin })
unfolding conn_key_number single_number key_number pair_number conn_number conn_of pair_of pair_at
content = refl

pub run : IsRun (setting_of plan lanes) journal
run = run_of_schedule plan lanes journal scheduled (omega arith)

pub boxed : IsOneBoxOfPlan plan lanes journal
boxed = one_box_of_plan plan lanes journal refl run
