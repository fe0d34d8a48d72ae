-- Worked runs of a NAT with the inside 10.0.0.0/8 and the outside address 203.0.113.1.
use Rattle.std.specs.Prelude.{◌≡◌, ℕ, ◌+◌, ◌*◌, None, Some, List, [], ◌∷◌, ◌++◌, refl}
use Rattle.slnf_base.specs.declared.addresses.Pair.{Pair}
use Rattle.slnf_base.specs.declared.packets.Change.TheVariants.{Source, Dest}
use Rattle.slnf_base.specs.declared.packets.Packet.{Packet}
use Rattle.slnf_base.specs.declared.packets.Proto.TheVariants.{Tcp}
use Rattle.slnf_base.specs.declared.packets.Reason.TheVariants.{NoPort, NoFlow}
use Rattle.slnf_base.specs.declared.packets.Verdict.{Verdict}
use Rattle.slnf_base.specs.declared.packets.Verdict.TheVariants.{Emit, Dropped, Lost}
use Rattle.slnf_base.specs.declared.plans.Pool.{Pool}
use Rattle.slnf_access.specs.declared.requests.Entry.{Entry}
use Rattle.slnf_access.specs.declared.requests.Reply.TheVariants.{Done, Absent}
use Rattle.slnf_plan.specs.declared.plan.Epoch.{Epoch}
use Rattle.slnf_plan.specs.declared.plan.FunctionPlan.{FunctionPlan}
use Rattle.slnf_plan.specs.declared.plan.FunctionPlan.TheVariants.{Nat}
use Rattle.slnf_plan.specs.declared.plan.SweepPlan.TheVariants.{Yes}
use Rattle.slnf_flight.specs.declared.lanes.Lane.{Lane}
use Rattle.slnf_flight.specs.declared.lanes.Taken.TheVariants.{Seen}
use Rattle.slnf_rows.specs.Rows.{Row, row_of, lane_of, GivesVisits, on_lane, with_stop, epoch_of, one_instance, two_instances, entry, read, put, delete_at, found}

-- the ports are 40000 to this one
abbrev pub IsPoolTo : ℕ → FunctionPlan → Type 0
IsPoolTo high function =
    (pool : Pool) × (function ≡ Nat pool) × (pool.inside.addr ≡ 0x0a000000) × (pool.inside.bits ≡ 8)
    × (pool.outside ≡ 0xcb007101) × (pool.low ≡ 40000) × (pool.high ≡ high)

-- 10.0.0.5:5000, 10.0.0.6:5000, 198.51.100.7:80, and a pair outside
abbrev pub five : Pair
five = record { addr = 0x0a000005; port = 5000 }

abbrev pub six : Pair
six = record { addr = 0x0a000006; port = 5000 }

abbrev pub server : Pair
server = record { addr = 0xc6336407; port = 80 }

abbrev pub outside : ℕ → Pair
outside port = record { addr = 0xcb007101; port = port }

-- the first packet of a flow, and the answer to the pair with the port 40001
abbrev pub opening : Pair → Packet
opening inside = record { proto = Tcp; source = inside; dest = server; flags = 2 }

abbrev pub answering : Packet
answering = record { proto = Tcp; source = server; dest = outside 40001; flags = 18 }

-- the keys of both flows, and of the TCP and the UDP port outside
abbrev pub five_key : ℕ
five_key = 0x010600000000000000000a0000051388

abbrev pub six_key : ℕ
six_key = 0x010600000000000000000a0000061388

abbrev pub tcp_port : ℕ → ℕ
tcp_port port = 0x02060000000000000000cb0071010000 + port

abbrev pub udp_port : ℕ → ℕ
udp_port port = 0x02110000000000000000cb0071010000 + port

-- claims of both flows by an incarnation, and the value of a flow that goes to a port outside
abbrev pub five_by : ℕ → ℕ
five_by incarnation = 0x1000000000000 * incarnation + 0x0a0000051388

abbrev pub six_by : ℕ → ℕ
six_by incarnation = 0x1000000000000 * incarnation + 0x0a0000061388

abbrev pub to : ℕ → ℕ
to port = 0xcb0071010000 + port

-- emitted from this port outside
abbrev pub from_port : ℕ → Verdict
from_port port = Emit (Source (outside port))

-- a packet of the first flow alone, two of it on two lanes, and one that goes out with what comes back
abbrev pub five_alone : List Lane
five_alone = lane_of (Seen (opening five) ∷ []) refl ∷ []

abbrev pub five_twice : List Lane
five_twice = lane_of (Seen (opening five) ∷ []) refl ∷ lane_of (Seen (opening five) ∷ []) refl ∷ []

abbrev pub out_and_in : List Lane
out_and_in = lane_of (Seen (opening five) ∷ []) refl ∷ lane_of (Seen answering ∷ []) refl ∷ []

-- what the first flow's packet makes: a claim of this port, and with its record
abbrev pub claimed : ℕ → List Entry
claimed port =
    entry 1 0 0 (read five_key) Absent
    ∷ entry 2 0 0 (put (tcp_port port) (five_by 0)) (Done 2)
    ∷ []

abbrev pub recorded : ℕ → List Entry
recorded port = claimed port ++ entry 3 0 0 (put five_key (to port)) (Done 3) ∷ []

-- and what two of its packets make that claim this port in turns
abbrev pub both_claimed : ℕ → List Entry
both_claimed port =
    entry 1 0 0 (read five_key) Absent
    ∷ entry 2 1 0 (read five_key) Absent
    ∷ entry 3 0 0 (put (tcp_port port) (five_by 0)) (Done 3)
    ∷ entry 4 1 0 (put (tcp_port port) (five_by 1)) (found (five_by 0) 3)
    ∷ []

-- out and back
abbrev pub out_and_back : Row
out_and_back =
    row_of (two_instances [] (0 ∷ 0 ∷ 0 ∷ 1 ∷ 1 ∷ [])) out_and_in
    (recorded 40001
    ++ entry 4 1 0 (read (tcp_port 40001)) (found (five_by 0) 2)
    ∷ entry 5 1 0 (read five_key) (found (to 40001) 3)
    ∷ [])
    ((from_port 40001 ∷ []) ∷ (Emit (Dest five) ∷ []) ∷ [])

-- Two instances race for a pair of one flow: the loser emits the winner's, and gives its own back.
abbrev pub race_on_one_flow : Row
race_on_one_flow =
    row_of (two_instances [] (0 ∷ 1 ∷ 0 ∷ 1 ∷ 0 ∷ 1 ∷ 1 ∷ 1 ∷ [])) five_twice
    (both_claimed 40001
    ++ entry 5 0 0 (put five_key (to 40001)) (Done 5)
    ∷ entry 6 1 0 (put (tcp_port 40002) (five_by 1)) (Done 6)
    ∷ entry 7 1 0 (put five_key (to 40002)) (found (to 40001) 5)
    ∷ entry 8 1 0 (delete_at (tcp_port 40002) 6) (Done 8)
    ∷ [])
    ((from_port 40001 ∷ []) ∷ (from_port 40001 ∷ []) ∷ [])

-- The box sees the loser at its put on the flow's key, with no choice, and knows the flow.
abbrev pub loser_is_seen : Type 0
loser_is_seen =
    GivesVisits (IsPoolTo 40003) race_on_one_flow 6 (entry 7 1 0 (put five_key (to 40002)) (found (to 40001) 5))
    (record {
      arrival = record { packet = opening five; choice = None; time = 0 };
      verdict = Some (from_port 40001);
    } ∷ [])

-- a stop after the claim: the packet is lost, and the claim an orphan
abbrev pub stop_after_the_claim : Row
stop_after_the_claim =
    row_of (epoch_of (with_stop 0 2 ∷ []) [] [] ∷ []) five_alone (claimed 40001) ((Lost ∷ []) ∷ [])

-- a stop after the record: the packet is lost, though its flow stands, and the next packet finds it
abbrev pub nat_stop_after_the_record : Row
nat_stop_after_the_record =
    row_of (epoch_of (with_stop 0 3 ∷ []) [] [] ∷ one_instance [])
    (lane_of (Seen (opening five) ∷ Seen (opening five) ∷ []) refl ∷ [])
    (recorded 40001 ++ entry 4 1 1 (read five_key) (found (to 40001) 3) ∷ [])
    ((Lost ∷ from_port 40001 ∷ []) ∷ [])

-- The box sees the lost packet where its record was made, with its choice.
abbrev pub lost_is_seen : Type 0
lost_is_seen =
    GivesVisits (IsPoolTo 40003) nat_stop_after_the_record 2 (entry 3 0 0 (put five_key (to 40001)) (Done 3))
    (record {
      arrival = record { packet = opening five; choice = Some (outside 40001); time = 0 };
      verdict = Some (from_port 40001);
    } ∷ [])

-- a pool of one port, and packets of two flows
abbrev pub full_pool : Row
full_pool =
    row_of (one_instance []) (lane_of (Seen (opening five) ∷ Seen (opening six) ∷ []) refl ∷ [])
    (recorded 40000
    ++ entry 4 0 1 (read six_key) Absent
    ∷ entry 5 0 1 (put (tcp_port 40000) (six_by 0)) (found (five_by 0) 2)
    ∷ entry 6 0 1 (read six_key) Absent
    ∷ [])
    ((from_port 40000 ∷ Dropped NoPort ∷ []) ∷ [])

-- One port, and one flow on two lanes: the loser finds the flow's record where that stands before its last read,
abbrev pub pool_of_one : Row
pool_of_one =
    row_of (two_instances [] (0 ∷ 1 ∷ 0 ∷ 1 ∷ 0 ∷ 1 ∷ [])) five_twice
    (both_claimed 40000
    ++ entry 5 0 0 (put five_key (to 40000)) (Done 5)
    ∷ entry 6 1 0 (read five_key) (found (to 40000) 5)
    ∷ [])
    ((from_port 40000 ∷ []) ∷ (from_port 40000 ∷ []) ∷ [])

-- and is dropped where it reads before that.
abbrev pub pool_of_one_starves : Row
pool_of_one_starves =
    row_of (two_instances [] (0 ∷ 1 ∷ 0 ∷ 1 ∷ 1 ∷ 0 ∷ [])) five_twice
    (both_claimed 40000
    ++ entry 5 1 0 (read five_key) Absent
    ∷ entry 6 0 0 (put five_key (to 40000)) (Done 6)
    ∷ [])
    ((from_port 40000 ∷ []) ∷ (Dropped NoPort ∷ []) ∷ [])

-- an inbound packet to a port that is claimed and not yet confirmed
abbrev pub inbound_to_an_unconfirmed_port : Row
inbound_to_an_unconfirmed_port =
    row_of (two_instances [] (0 ∷ 0 ∷ 1 ∷ 1 ∷ 0 ∷ [])) out_and_in
    (claimed 40001
    ++ entry 3 1 0 (read (tcp_port 40001)) (found (five_by 0) 2)
    ∷ entry 4 1 0 (read five_key) Absent
    ∷ entry 5 0 0 (put five_key (to 40001)) (Done 5)
    ∷ [])
    ((from_port 40001 ∷ []) ∷ (Dropped NoFlow ∷ []) ∷ [])

-- Its place is its first entry.
abbrev pub unconfirmed_is_seen : Type 0
unconfirmed_is_seen =
    GivesVisits (IsPoolTo 40003) inbound_to_an_unconfirmed_port 2
    (entry 3 1 0 (read (tcp_port 40001)) (found (five_by 0) 2))
    (record {
      arrival = record { packet = answering; choice = None; time = 0 };
      verdict = Some (Dropped NoFlow);
    } ∷ [])

-- an epoch with a sweep
abbrev pub swept : Epoch
swept = record {
  instances = on_lane 1 ∷ [];
  active = [];
  sweep = Yes None;
  schedule = 0 ∷ 0 ∷ 1 ∷ 1 ∷ 1 ∷ 1 ∷ 0 ∷ [];
}

-- A sweep takes an orphan of an earlier epoch away, and leaves a claim of its own.
abbrev pub sweep : Row
sweep =
    row_of (epoch_of (with_stop 0 2 ∷ []) [] [] ∷ swept ∷ [])
    (lane_of (Seen (opening five) ∷ []) refl ∷ lane_of (Seen (opening six) ∷ []) refl ∷ [])
    (claimed 40001
    ++ entry 3 1 0 (read six_key) Absent
    ∷ entry 4 1 0 (put (tcp_port 40000) (six_by 1)) (Done 4)
    ∷ entry 5 2 0 (read (tcp_port 40000)) (found (six_by 1) 4)
    ∷ entry 6 2 1 (read (tcp_port 40001)) (found (five_by 0) 2)
    ∷ entry 7 2 1 (read five_key) Absent
    ∷ entry 8 2 1 (delete_at (tcp_port 40001) 2) (Done 8)
    ∷ entry 9 1 0 (put six_key (to 40000)) (Done 9)
    ∷ entry 10 2 2 (read (udp_port 40000)) Absent
    ∷ entry 11 2 3 (read (udp_port 40001)) Absent
    ∷ [])
    ((Lost ∷ []) ∷ (from_port 40000 ∷ []) ∷ [])
