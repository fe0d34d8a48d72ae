-- More worked runs of a firewall: UDP opened from the outside, refusals, and a reopening by the other side.
use Rattle.std.proofs.Common.{◌≡◌, ℕ, ◌+◌, ◌*◌, ◌^◌, false, List, [], ◌∷◌, refl}
use Rattle.slnf_base.specs.declared.addresses.Pair.{Pair}
use Rattle.slnf_base.specs.declared.packets.Proto.TheVariants.{Tcp, Udp}
use Rattle.slnf_base.specs.declared.packets.Change.TheVariants.{Keep}
use Rattle.slnf_base.specs.declared.packets.Reason.TheVariants.{DeniedRule, DeniedState, NoConn}
use Rattle.slnf_base.specs.declared.packets.Verdict.TheVariants.{Emit, Dropped}
use Rattle.slnf_access.specs.declared.requests.Entry.{Entry}
use Rattle.slnf_access.specs.declared.requests.Key.{Key}
use Rattle.slnf_access.specs.declared.requests.Value.{Value}
use Rattle.slnf_access.specs.declared.requests.Request.{Request}
use Rattle.slnf_access.specs.declared.requests.Reply.{Reply}
use Rattle.slnf_access.specs.declared.requests.Request.TheVariants.{Read, PutIfAbsent, ReplaceIf}
use Rattle.slnf_access.specs.declared.requests.Reply.TheVariants.{Done, Found, Absent}
use Rattle.slnf_keys.specs.Layout.{pair_number, pair_at, pair_of, key_number, single_number}
use Rattle.slnf_keys.specs.Keys.{conn_key_number}
use Rattle.slnf_keys.specs.Values.{conn_number, conn_of}
use Rattle.slnf_fw_table.specs.declared.rules.Rule.{Rule}
use Rattle.slnf_plan.specs.declared.plan.FunctionPlan.TheVariants.{Firewall}
use Rattle.slnf_plan.specs.declared.plan.SweepPlan.TheVariants.{No}
use Rattle.slnf_plan.specs.declared.plan.Plan.{Plan}
use Rattle.slnf_run.specs.Verdicts.{verdicts_of}
use Rattle.slnf_run.specs.Scheduled.{usual_way, IsScheduled}
use Rattle.slnf_setting.proofs.FwRow.{ten, between_any, all_out, client, server}
use Rattle.slnf_flight.specs.declared.lanes.Taken.TheVariants.{Seen}
use Rattle.slnf_flight.specs.declared.lanes.Lane.{Lane}
use Rattle.slnf_flight.specs.PlanSetting.{setting_of}
use Rattle.slnf_setting.proofs.RowParts.{lane_of, epoch_of, on_lane, entry, plan_of}

-- inbound TCP to port 5000, and inbound UDP
abbrev tcp_in : Rule
tcp_in = between_any false 6 5000 5000

abbrev udp_in : Rule
udp_in = between_any false 17 0 65535

abbrev plan : Plan
plan = plan_of (Firewall ten (all_out ∷ tcp_in ∷ udp_in ∷ [])) 1 1 (epoch_of (on_lane 0 ∷ []) [] No [] ∷ []) refl

abbrev other : Pair
other = record { addr = 167772165; port = 5001 }

-- SYN and RST of the client, SYN of the server (a reopening), SYN+ACK of the client, FIN of the client (no);
-- UDP in, UDP out on it, UDP out on another (no rule); SYN in to 5001 (no rule), ACK in to 5001 (no connection)
abbrev lanes : List Lane
lanes = lane_of (
    Seen (record { proto = Tcp; source = client; dest = server; flags = 2 })
    ∷ Seen (record { proto = Tcp; source = client; dest = server; flags = 4 })
    ∷ Seen (record { proto = Tcp; source = server; dest = client; flags = 2 })
    ∷ Seen (record { proto = Tcp; source = client; dest = server; flags = 1 })
    ∷ Seen (record { proto = Tcp; source = client; dest = server; flags = 18 })
    ∷ Seen (record { proto = Udp; source = server; dest = client; flags = 0 })
    ∷ Seen (record { proto = Udp; source = client; dest = server; flags = 0 })
    ∷ Seen (record { proto = Udp; source = other; dest = server; flags = 0 })
    ∷ Seen (record { proto = Tcp; source = server; dest = other; flags = 2 })
    ∷ Seen (record { proto = Tcp; source = server; dest = other; flags = 16 })
    ∷ []) refl ∷ []

-- the digits of the key by hand, inside pair first
abbrev key : ℕ → Pair → Key
key proto inside = record {
  0 = 3 * 2 ^ 120 + proto * 2 ^ 112 + (3325256711 * 65536 + 80) * 2 ^ 48 +
      (inside.addr * 65536 + inside.port);
}

abbrev val : ℕ → Value
val n = record { 0 = n }

abbrev en : ℕ → ℕ → Request → Reply → Entry
en stamp item = entry stamp 0 item

abbrev journal : List Entry
journal =
    en 1 0 (Read (key 6 client)) Absent
    ∷ en 2 0 (PutIfAbsent (key 6 client) (val 1)) (Done 2)
    ∷ en 3 1 (Read (key 6 client)) (Found (val 1) 2)
    ∷ en 4 1 (ReplaceIf (key 6 client) 2 (val 7)) (Done 4)
    ∷ en 5 2 (Read (key 6 client)) (Found (val 7) 4)
    ∷ en 6 2 (ReplaceIf (key 6 client) 4 (val 257)) (Done 6)
    ∷ en 7 3 (Read (key 6 client)) (Found (val 257) 6)
    ∷ en 8 4 (Read (key 6 client)) (Found (val 257) 6)
    ∷ en 9 4 (ReplaceIf (key 6 client) 6 (val 258)) (Done 9)
    ∷ en 10 5 (Read (key 17 client)) Absent
    ∷ en 11 5 (PutIfAbsent (key 17 client) (val 264)) (Done 11)
    ∷ en 12 6 (Read (key 17 client)) (Found (val 264) 11)
    ∷ en 13 7 (Read (key 17 other)) Absent
    ∷ en 14 8 (Read (key 6 other)) Absent
    ∷ en 15 9 (Read (key 6 other)) Absent
    ∷ []

scheduled : IsScheduled (setting_of plan lanes) (usual_way (setting_of plan lanes).eras) journal
unfolding conn_key_number single_number key_number pair_number conn_number conn_of pair_of pair_at
scheduled = record { accesses = journal; made = (15, ((refl, tt), refl)); sorted = refl }

verdicts : verdicts_of (setting_of plan lanes) journal
    ≡ (Emit Keep ∷ Emit Keep ∷ Emit Keep ∷ Dropped DeniedState ∷ Emit Keep ∷ Emit Keep ∷ Emit Keep
    ∷ Dropped DeniedRule ∷ Dropped DeniedRule ∷ Dropped NoConn ∷ []) ∷ []
unfolding conn_key_number single_number key_number pair_number conn_number conn_of pair_of pair_at
verdicts = refl
