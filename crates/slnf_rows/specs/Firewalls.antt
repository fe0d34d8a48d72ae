-- Worked runs of a firewall with the inside 10.0.0.0/8 and one rule, by which all TCP may open out.
use Rattle.std.specs.Prelude.{◌≡◌, ℕ, true, List, [], ◌∷◌, ◌++◌, refl}
use Rattle.slnf_base.specs.declared.addresses.Pair.{Pair}
use Rattle.slnf_base.specs.declared.addresses.Prefix.{Prefix}
use Rattle.slnf_base.specs.declared.packets.Change.TheVariants.{Keep}
use Rattle.slnf_base.specs.declared.packets.Proto.TheVariants.{Tcp}
use Rattle.slnf_base.specs.declared.packets.Reason.TheVariants.{NoConn}
use Rattle.slnf_base.specs.declared.packets.Verdict.{Verdict}
use Rattle.slnf_base.specs.declared.packets.Verdict.TheVariants.{Emit, Dropped}
use Rattle.slnf_access.specs.declared.requests.Entry.{Entry}
use Rattle.slnf_access.specs.declared.requests.Reply.TheVariants.{Done, Absent}
use Rattle.slnf_fw_table.specs.declared.rules.Rule.{Rule}
use Rattle.slnf_plan.specs.declared.plan.FunctionPlan.{FunctionPlan}
use Rattle.slnf_plan.specs.declared.plan.FunctionPlan.TheVariants.{Firewall}
use Rattle.slnf_flight.specs.declared.lanes.Taken.{Taken}
use Rattle.slnf_flight.specs.declared.lanes.Taken.TheVariants.{Seen}
use Rattle.slnf_rows.specs.Rows.{Row, row_of, lane_of, on_lane, epoch_of, one_instance, two_instances, entry, read, put, replace_at, found}

-- a rule by which all TCP may open out
pub record IsAllOut (rule : Rule) : Type 0 where
  pub permit : rule.permit ≡ true
  pub outbound : rule.outbound ≡ true
  pub proto : rule.proto ≡ 6
  pub source : rule.source_bits ≡ 0
  pub dest : rule.dest_bits ≡ 0
  pub low : rule.low ≡ 0
  pub high : rule.high ≡ 65535

abbrev pub IsFirewall : FunctionPlan → Type 0
IsFirewall function =
    (inside : Prefix) × (rule : Rule) × (function ≡ Firewall inside (rule ∷ [])) × (inside.addr ≡ 0x0a000000)
    × (inside.bits ≡ 8) × IsAllOut rule

-- a packet of the client 10.0.0.5:5000 to 198.51.100.7:80, and one of that server to the client, with these flags
abbrev pub client : Pair
client = record { addr = 0x0a000005; port = 5000 }

abbrev pub server : Pair
server = record { addr = 0xc6336407; port = 80 }

abbrev pub going : ℕ → Taken
going flags = Seen (record { proto = Tcp; source = client; dest = server; flags = flags })

abbrev pub coming : ℕ → Taken
coming flags = Seen (record { proto = Tcp; source = server; dest = client; flags = flags })

-- the connection's key; its values are the states' numbers, since the opener is inside
abbrev pub key : ℕ
key = 0x03060000c633640700500a0000051388

abbrev pub kept : Verdict
kept = Emit Keep

-- A connection that opens: the client's SYN and ACK, and between them the server's SYN+ACK.
abbrev pub opened : List Entry
opened =
    entry 1 0 0 (read key) Absent
    ∷ entry 2 0 0 (put key 1) (Done 2)
    ∷ entry 3 1 0 (read key) (found 1 2)
    ∷ entry 4 1 0 (replace_at key 2 2) (Done 4)
    ∷ entry 5 0 1 (read key) (found 2 4)
    ∷ entry 6 0 1 (replace_at key 4 3) (Done 6)
    ∷ []

-- A whole connection at three instances: then the client's FIN, the server's, and the last ACK.
abbrev pub whole_connection : Row
whole_connection =
    row_of
    (epoch_of (on_lane 0 ∷ on_lane 1 ∷ on_lane 2 ∷ []) [] (0 ∷ 0 ∷ 1 ∷ 1 ∷ 0 ∷ 0 ∷ 2 ∷ 2 ∷ 1 ∷ 1 ∷ 2 ∷ 2 ∷ []) ∷ [])
    (lane_of (going 2 ∷ going 16 ∷ []) refl
    ∷ lane_of (coming 18 ∷ coming 17 ∷ []) refl
    ∷ lane_of (going 17 ∷ going 16 ∷ []) refl
    ∷ [])
    (opened
    ++ entry 7 2 0 (read key) (found 3 6)
    ∷ entry 8 2 0 (replace_at key 6 4) (Done 8)
    ∷ entry 9 1 1 (read key) (found 4 8)
    ∷ entry 10 1 1 (replace_at key 8 6) (Done 10)
    ∷ entry 11 2 1 (read key) (found 6 10)
    ∷ entry 12 2 1 (replace_at key 10 7) (Done 12)
    ∷ [])
    ((kept ∷ kept ∷ []) ∷ (kept ∷ kept ∷ []) ∷ (kept ∷ kept ∷ []) ∷ [])

-- an ACK from outside that no connection has
abbrev pub lone_ack : Row
lone_ack =
    row_of (one_instance []) (lane_of (coming 16 ∷ []) refl ∷ []) (entry 1 0 0 (read key) Absent ∷ [])
    ((Dropped NoConn ∷ []) ∷ [])

-- Two instances replace one state: the later one fails, reads what it found, and goes on from that.
abbrev pub two_replaces : Row
two_replaces =
    row_of (two_instances [] (0 ∷ 0 ∷ 1 ∷ 1 ∷ 0 ∷ 0 ∷ 0 ∷ 1 ∷ 0 ∷ 1 ∷ 1 ∷ []))
    (lane_of (going 2 ∷ going 16 ∷ going 17 ∷ []) refl ∷ lane_of (coming 18 ∷ coming 17 ∷ []) refl ∷ [])
    (opened
    ++ entry 7 0 2 (read key) (found 3 6)
    ∷ entry 8 1 1 (read key) (found 3 6)
    ∷ entry 9 0 2 (replace_at key 6 4) (Done 9)
    ∷ entry 10 1 1 (replace_at key 6 5) (found 4 9)
    ∷ entry 11 1 1 (replace_at key 9 6) (Done 11)
    ∷ [])
    ((kept ∷ kept ∷ kept ∷ []) ∷ (kept ∷ kept ∷ []) ∷ [])
