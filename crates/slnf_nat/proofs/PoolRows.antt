-- Worked lists of a NAT of four ports, and of one: a flow out and its answer, two packets of one flow at once, and an
-- orphan claim that a sweep takes away.
use Rattle.std.proofs.Common.{◌≡◌, ℕ, zero, suc, Some, None, List, [], ◌∷◌, refl, arith}
use Rattle.slnf_base.specs.declared.addresses.Pair.{Pair}
use Rattle.slnf_base.specs.declared.addresses.Prefix.{Prefix}
use Rattle.slnf_base.specs.declared.packets.Proto.TheVariants.{Tcp, Udp}
use Rattle.slnf_base.specs.declared.packets.Packet.{Packet}
use Rattle.slnf_base.specs.declared.packets.Change.TheVariants.{Source, Dest}
use Rattle.slnf_base.specs.declared.packets.Reason.TheVariants.{Neither, NoPort}
use Rattle.slnf_base.specs.declared.packets.Verdict.TheVariants.{Emit, Dropped}
use Rattle.slnf_base.specs.declared.plans.Pool.{Pool}
use Rattle.slnf_access.specs.declared.requests.Entry.{Entry}
use Rattle.slnf_access.specs.declared.requests.Key.{Key}
use Rattle.slnf_access.specs.declared.requests.Value.{Value}
use Rattle.slnf_access.specs.declared.requests.Request.{Request}
use Rattle.slnf_access.specs.declared.requests.Request.TheVariants.{Read, PutIfAbsent, DeleteIf}
use Rattle.slnf_access.specs.declared.requests.Reply.{Reply}
use Rattle.slnf_access.specs.declared.requests.Reply.TheVariants.{Done, Found, Absent}
use Rattle.slnf_access.specs.Map.{IsLegal, empty, map_after}
use Rattle.slnf_access.specs.Machines.{Stand, Flies, Ends, IsPath}
use Rattle.slnf_keys.specs.Layout.{pair_number, pair_at, pair_of, key_number, single_number}
use Rattle.slnf_keys.specs.Keys.{flow_key_number, port_key_number}
use Rattle.slnf_keys.specs.Values.{flow_to_number, flow_to_of, claim_number, claim_of}
use Rattle.slnf_run.specs.Scene.{own_of, stand_of}
use Rattle.slnf_run.specs.Visits.{visits_of}
use Rattle.slnf_run.specs.Boxes.{content_after}
use Rattle.slnf_box.specs.NatBox.{nat_verdict, nat_box}
use Rattle.slnf_box.specs.Pools.{nat_of, candidate}
use Rattle.slnf_nat.specs.Flights.{NatFlight, Out, In, Look, LookPort}
use Rattle.slnf_nat.specs.Machine.{flow_key, port_key, nat_machine}
use Rattle.slnf_nat.specs.Starts.{sweep_item}
use Rattle.slnf_nat.specs.NatScene.{nat_scene}

-- 10.0.0.0/8, and 203.0.113.1
abbrev ten : Prefix
ten = record { addr = 167772160; bits = 8; within = omega arith; zeros_after = refl }

abbrev outside : ℕ
outside = 3405803777

-- the pool with the ports 40000 to 40003, and those with fewer
abbrev four : Pool
four = record {
  inside = ten;
  outside = outside;
  low = 40000;
  high = 40003;
  in_order = omega arith;
  registered = omega arith;
  apart = refl;
}

abbrev two : Pool
two = record {
  inside = ten;
  outside = outside;
  low = 40000;
  high = 40001;
  in_order = omega arith;
  registered = omega arith;
  apart = refl;
}

abbrev one : Pool
one = record {
  inside = ten;
  outside = outside;
  low = 40000;
  high = 40000;
  in_order = omega arith;
  registered = omega arith;
  apart = refl;
}

abbrev port : ℕ → Pair
port number = record { addr = outside; port = number }

-- 10.0.0.5:5000, 10.0.0.6:5000 and 198.51.100.7:80
abbrev five : Pair
five = record { addr = 167772165; port = 5000 }

abbrev six : Pair
six = record { addr = 167772166; port = 5000 }

abbrev server : Pair
server = record { addr = 3325256711; port = 80 }

abbrev going : Pair → Packet
going inside = record { proto = Tcp; source = inside; dest = server; flags = 2 }

abbrev answer : Packet
answer = record { proto = Tcp; source = server; dest = port 40001; flags = 18 }

abbrev flow : Pair → Key
flow inside = record { 0 = flow_key Tcp inside }

abbrev tcp : ℕ → Key
tcp number = record { 0 = port_key Tcp (port number) }

abbrev udp : ℕ → Key
udp number = record { 0 = port_key Udp (port number) }

abbrev claim : ℕ → Pair → Value
claim incarnation inside = record { 0 = claim_number (record { incarnation = incarnation; inside = inside }) }

abbrev to : ℕ → Value
to number = record { 0 = flow_to_number (record { outside = port number }) }

-- an entry in one shard
abbrev entry : ℕ → ℕ → ℕ → Request → Reply → Entry
entry stamp incarnation item request reply =
    record { stamp = stamp; shard = 0; incarnation = incarnation; item = item; request = request; reply = reply }

-- the first candidate of the flow is 40001, and the second 40002
first_candidates : (candidate four five 0 ≡ port 40001) × (candidate four five 3 ≡ port 40000)
first_candidates = (refl, refl)

-- ---- a flow goes out and its answer comes back

abbrev back_begins : ℕ → ℕ → Stand NatFlight
back_begins zero item = Flies (Out Look 0 (going five))
back_begins (suc i) item = Flies (In LookPort answer)

abbrev pub back : List Entry
back =
    entry 1 0 0 (Read (flow five)) Absent
    ∷ entry 2 0 0 (PutIfAbsent (tcp 40001) (claim 0 five)) (Done 2)
    ∷ entry 3 0 0 (PutIfAbsent (flow five) (to 40001)) (Done 3)
    ∷ entry 4 1 0 (Read (tcp 40001)) (Found (claim 0 five) 2)
    ∷ entry 5 1 0 (Read (flow five)) (Found (to 40001) 3)
    ∷ []

back_legal : IsLegal back
unfolding flow_key_number port_key_number single_number
    key_number pair_number flow_to_number claim_number claim_of pair_at pair_of flow_to_of
back_legal = (refl, (refl, (refl, (refl, (refl, tt)))))

back_paths : IsPath (nat_machine (nat_of four)) (back_begins 0 0) (own_of 0 0 back)
    × IsPath (nat_machine (nat_of four)) (back_begins 1 0) (own_of 1 0 back)
unfolding flow_key_number port_key_number single_number
    key_number pair_number flow_to_number claim_number claim_of pair_at pair_of flow_to_of
back_paths = ((refl, (refl, (refl, tt))), (refl, (refl, tt)))

back_ends : (stand_of (nat_scene (nat_of four) back_begins) 0 0 back ≡ Ends (Some (Emit (Source (port 40001)))))
    × (stand_of (nat_scene (nat_of four) back_begins) 1 0 back ≡ Ends (Some (Emit (Dest five))))
unfolding flow_key_number port_key_number single_number
    key_number pair_number flow_to_number claim_number claim_of pair_at pair_of flow_to_of
back_ends = (refl, refl)

back_content : content_after (nat_scene (nat_of four) back_begins) (nat_box (nat_of four)) back 5
    ≡ record { proto = Tcp; inside = five; outside = port 40001 } ∷ []
unfolding flow_key_number port_key_number single_number
    key_number pair_number flow_to_number claim_number claim_of pair_at pair_of flow_to_of
back_content = refl

-- ---- two packets of one flow at once: the loser releases its claim, and is decided where it finds the record

abbrev race_begins : ℕ → ℕ → Stand NatFlight
race_begins i item = Flies (Out Look i (going five))

abbrev pub race : List Entry
race =
    entry 1 0 0 (Read (flow five)) Absent
    ∷ entry 2 1 0 (Read (flow five)) Absent
    ∷ entry 3 0 0 (PutIfAbsent (tcp 40001) (claim 0 five)) (Done 3)
    ∷ entry 4 1 0 (PutIfAbsent (tcp 40001) (claim 1 five)) (Found (claim 0 five) 3)
    ∷ entry 5 0 0 (PutIfAbsent (flow five) (to 40001)) (Done 5)
    ∷ entry 6 1 0 (PutIfAbsent (tcp 40002) (claim 1 five)) (Done 6)
    ∷ entry 7 1 0 (PutIfAbsent (flow five) (to 40002)) (Found (to 40001) 5)
    ∷ entry 8 1 0 (DeleteIf (tcp 40002) 6) (Done 8)
    ∷ []

race_legal : IsLegal race
unfolding flow_key_number port_key_number single_number
    key_number pair_number flow_to_number claim_number claim_of pair_at pair_of flow_to_of
race_legal = (refl, (refl, (refl, (refl, (refl, (refl, (refl, (refl, tt))))))))

race_paths : IsPath (nat_machine (nat_of four)) (race_begins 0 0) (own_of 0 0 race)
    × IsPath (nat_machine (nat_of four)) (race_begins 1 0) (own_of 1 0 race)
unfolding flow_key_number port_key_number single_number
    key_number pair_number flow_to_number claim_number claim_of pair_at pair_of flow_to_of
race_paths = ((refl, (refl, (refl, tt))), (refl, (refl, (refl, (refl, (refl, tt))))))

race_visits : visits_of (nat_scene (nat_of four) race_begins) race 6
    (entry 7 1 0 (PutIfAbsent (flow five) (to 40002)) (Found (to 40001) 5))
    ≡ record { arrival = record { packet = going five; choice = None }; verdict = Some (Emit (Source (port 40001))) } ∷ []
unfolding flow_key_number port_key_number single_number
    key_number pair_number flow_to_number claim_number claim_of pair_at pair_of flow_to_of
race_visits = refl

race_unvisited : visits_of (nat_scene (nat_of four) race_begins) race 7 (entry 8 1 0 (DeleteIf (tcp 40002) 6) (Done 8)) ≡ []
unfolding flow_key_number port_key_number single_number
    key_number pair_number flow_to_number claim_number claim_of pair_at pair_of flow_to_of
race_unvisited = refl

-- ---- the same with one port: the loser reads its flow at last, after the record or before it

abbrev pub late : List Entry
late =
    entry 1 0 0 (Read (flow five)) Absent
    ∷ entry 2 1 0 (Read (flow five)) Absent
    ∷ entry 3 0 0 (PutIfAbsent (tcp 40000) (claim 0 five)) (Done 3)
    ∷ entry 4 1 0 (PutIfAbsent (tcp 40000) (claim 1 five)) (Found (claim 0 five) 3)
    ∷ entry 5 0 0 (PutIfAbsent (flow five) (to 40000)) (Done 5)
    ∷ entry 6 1 0 (Read (flow five)) (Found (to 40000) 5)
    ∷ []

late_legal : IsLegal late
unfolding flow_key_number port_key_number single_number
    key_number pair_number flow_to_number claim_number claim_of pair_at pair_of flow_to_of
late_legal = (refl, (refl, (refl, (refl, (refl, (refl, tt))))))

late_ends : (IsPath (nat_machine (nat_of one)) (race_begins 1 0) (own_of 1 0 late))
    × (stand_of (nat_scene (nat_of one) race_begins) 1 0 late ≡ Ends (Some (Emit (Source (port 40000)))))
unfolding flow_key_number port_key_number single_number
    key_number pair_number flow_to_number claim_number claim_of pair_at pair_of flow_to_of
late_ends = ((refl, (refl, (refl, tt))), refl)

abbrev pub early : List Entry
early =
    entry 1 0 0 (Read (flow five)) Absent
    ∷ entry 2 1 0 (Read (flow five)) Absent
    ∷ entry 3 0 0 (PutIfAbsent (tcp 40000) (claim 0 five)) (Done 3)
    ∷ entry 4 1 0 (PutIfAbsent (tcp 40000) (claim 1 five)) (Found (claim 0 five) 3)
    ∷ entry 5 1 0 (Read (flow five)) Absent
    ∷ entry 6 0 0 (PutIfAbsent (flow five) (to 40000)) (Done 6)
    ∷ []

early_legal : IsLegal early
unfolding flow_key_number port_key_number single_number
    key_number pair_number flow_to_number claim_number claim_of pair_at pair_of flow_to_of
early_legal = (refl, (refl, (refl, (refl, (refl, (refl, tt))))))

early_ends : (IsPath (nat_machine (nat_of one)) (race_begins 1 0) (own_of 1 0 early))
    × (stand_of (nat_scene (nat_of one) race_begins) 1 0 early ≡ Ends (Some (Dropped NoPort)))
    × (stand_of (nat_scene (nat_of one) race_begins) 0 0 early ≡ Ends (Some (Emit (Source (port 40000)))))
unfolding flow_key_number port_key_number single_number
    key_number pair_number flow_to_number claim_number claim_of pair_at pair_of flow_to_of
early_ends = ((refl, (refl, (refl, tt))), refl, refl)

-- ---- an orphan claim that a sweep takes away, and a claim of the sweep's own epoch that it leaves

abbrev sweep_begins : ℕ → ℕ → Stand NatFlight
sweep_begins zero item = Flies (Out Look 0 (going five))
sweep_begins (suc zero) item = Flies (Out Look 1 (going six))
sweep_begins (suc (suc i)) item = sweep_item two 1 item

abbrev pub swept : List Entry
swept =
    entry 1 0 0 (Read (flow five)) Absent
    ∷ entry 2 0 0 (PutIfAbsent (tcp 40001) (claim 0 five)) (Done 2)
    ∷ entry 3 1 0 (Read (flow six)) Absent
    ∷ entry 4 1 0 (PutIfAbsent (tcp 40000) (claim 1 six)) (Done 4)
    ∷ entry 5 2 0 (Read (tcp 40000)) (Found (claim 1 six) 4)
    ∷ entry 6 2 1 (Read (tcp 40001)) (Found (claim 0 five) 2)
    ∷ entry 7 2 1 (Read (flow five)) Absent
    ∷ entry 8 2 1 (DeleteIf (tcp 40001) 2) (Done 8)
    ∷ entry 9 1 0 (PutIfAbsent (flow six) (to 40000)) (Done 9)
    ∷ entry 10 2 2 (Read (udp 40000)) Absent
    ∷ entry 11 2 3 (Read (udp 40001)) Absent
    ∷ []

swept_legal : IsLegal swept
unfolding flow_key_number port_key_number single_number
    key_number pair_number flow_to_number claim_number claim_of pair_at pair_of flow_to_of
swept_legal = (refl, (refl, (refl, (refl, (refl, (refl, (refl, (refl, (refl, (refl, (refl, tt)))))))))))

swept_paths : IsPath (nat_machine (nat_of two)) (sweep_begins 2 0) (own_of 2 0 swept)
    × IsPath (nat_machine (nat_of two)) (sweep_begins 2 1) (own_of 2 1 swept)
    × IsPath (nat_machine (nat_of two)) (sweep_begins 2 3) (own_of 2 3 swept)
unfolding flow_key_number port_key_number single_number
    key_number pair_number flow_to_number claim_number claim_of pair_at pair_of flow_to_of
swept_paths = ((refl, tt), (refl, (refl, (refl, tt))), (refl, tt))

swept_ends : (stand_of (nat_scene (nat_of two) sweep_begins) 2 0 swept ≡ Ends None)
    × (stand_of (nat_scene (nat_of two) sweep_begins) 2 1 swept ≡ Ends None)
    × (stand_of (nat_scene (nat_of two) sweep_begins) 2 3 swept ≡ Ends None)
    × (stand_of (nat_scene (nat_of two) sweep_begins) 1 0 swept ≡ Ends (Some (Emit (Source (port 40000)))))
    × (map_after empty swept (port_key Tcp (port 40001)) ≡ None)
unfolding flow_key_number port_key_number single_number
    key_number pair_number flow_to_number claim_number claim_of pair_at pair_of flow_to_of
swept_ends = (refl, refl, refl, refl, refl)

-- ---- the box alone: a choice that isn't of the pool or is in use is none, and a packet from the inside to the outside
-- address has no direction

other_choice : nat_verdict (nat_of four) [] (record { packet = going five; choice = Some (port 39999) }) ≡ Dropped NoPort
other_choice = refl

used_choice : nat_verdict (nat_of four) (record { proto = Tcp; inside = six; outside = port 40001 } ∷ [])
    (record { packet = going five; choice = Some (port 40001) })
    ≡ Dropped NoPort
used_choice = refl

own_pair : nat_verdict (nat_of four) (record { proto = Tcp; inside = five; outside = port 40001 } ∷ [])
    (record { packet = going five; choice = None })
    ≡ Emit (Source (port 40001))
own_pair = refl

to_outside : nat_verdict (nat_of four) []
    (record { packet = record { proto = Tcp; source = five; dest = port 40001; flags = 2 }; choice = Some (port 40000) })
    ≡ Dropped Neither
to_outside = refl
