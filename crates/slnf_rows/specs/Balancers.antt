-- Worked runs of a UDP balancer of the service 198.51.100.10:53 with the backends 10.1.0.1:53 and 10.1.0.2:53.
use Rattle.std.specs.Prelude.{◌≡◌, ℕ, ◌+◌, Some, List, [], ◌∷◌, ◌++◌, refl}
use Rattle.std.specs.List.{repeat}
use Rattle.slnf_base.specs.declared.addresses.Pair.{Pair}
use Rattle.slnf_base.specs.declared.packets.Change.TheVariants.{Source, Dest}
use Rattle.slnf_base.specs.declared.packets.Packet.{Packet}
use Rattle.slnf_base.specs.declared.packets.Proto.TheVariants.{Udp}
use Rattle.slnf_base.specs.declared.packets.Reason.TheVariants.{NotPinned}
use Rattle.slnf_base.specs.declared.packets.Verdict.{Verdict}
use Rattle.slnf_base.specs.declared.packets.Verdict.TheVariants.{Emit, Dropped, Lost, Left}
use Rattle.slnf_base.specs.declared.plans.Service.{Service}
use Rattle.slnf_access.specs.declared.requests.Entry.{Entry}
use Rattle.slnf_access.specs.declared.requests.Reply.TheVariants.{Done, Absent}
use Rattle.slnf_plan.specs.declared.plan.Epoch.{Epoch}
use Rattle.slnf_plan.specs.declared.plan.FunctionPlan.{FunctionPlan}
use Rattle.slnf_plan.specs.declared.plan.FunctionPlan.TheVariants.{Balancer}
use Rattle.slnf_flight.specs.declared.lanes.Taken.{Taken}
use Rattle.slnf_flight.specs.declared.lanes.Taken.TheVariants.{Seen}
use Rattle.slnf_rows.specs.Rows.{Row, row_of, lane_of, GivesVisits, with_quota, with_stop, epoch_of, one_instance, two_instances, entry_in, entry, read, put, found}

abbrev pub front : Pair
front = record { addr = 0xc633640a; port = 53 }

abbrev pub first_backend : Pair
first_backend = record { addr = 0x0a010001; port = 53 }

abbrev pub second_backend : Pair
second_backend = record { addr = 0x0a010002; port = 53 }

abbrev pub service : Service
service = record { proto = Udp; front = front; backends = first_backend ∷ second_backend ∷ [] }

abbrev pub IsService : FunctionPlan → Type 0
IsService function = function ≡ Balancer service

-- the client 192.0.2.1 at this port, a packet of it, and one from a backend to its port 4000
abbrev pub client : ℕ → Pair
client port = record { addr = 0xc0000201; port = port }

abbrev pub going : ℕ → Packet
going port = record { proto = Udp; source = client port; dest = front; flags = 0 }

abbrev pub coming : Pair → Taken
coming backend = Seen (record { proto = Udp; source = backend; dest = client 4000; flags = 0 })

-- the key of the client at a port, and the values of both backends
abbrev pub key : ℕ → ℕ
key port = 0x04110000000000000000c00002010000 + port

abbrev pub first_value : ℕ
first_value = 0x0a0100010035

abbrev pub second_value : ℕ
second_value = 0x0a0100020035

abbrev pub to_first : Verdict
to_first = Emit (Dest first_backend)

abbrev pub to_second : Verdict
to_second = Emit (Dest second_backend)

-- the epoch of an instance with both backends
abbrev pub both_active : List Epoch
both_active = one_instance (0 ∷ 1 ∷ [])

-- A client's first packet puts a pin to the first backend.
abbrev pub pinned : List Entry
pinned = entry 1 0 0 (read (key 4000)) Absent ∷ entry 2 0 0 (put (key 4000) first_value) (Done 2) ∷ []

-- two packets of one client on one lane
abbrev pub usual_case : Row
usual_case =
    row_of both_active (lane_of (Seen (going 4000) ∷ Seen (going 4000) ∷ []) refl ∷ [])
    (pinned ++ entry 3 0 1 (read (key 4000)) (found first_value 2) ∷ [])
    ((to_first ∷ to_first ∷ []) ∷ [])

-- Two instances that take turns, each with a packet of one client: both packets go to one backend.
abbrev pub last_of_two : Entry
last_of_two = entry 4 1 0 (put (key 4000) second_value) (found first_value 3)

abbrev pub two_instances_one_flow : Row
two_instances_one_flow =
    row_of (two_instances (0 ∷ 1 ∷ []) (0 ∷ 1 ∷ 0 ∷ 1 ∷ []))
    (lane_of (Seen (going 4000) ∷ []) refl ∷ lane_of (Seen (going 4000) ∷ []) refl ∷ [])
    (entry 1 0 0 (read (key 4000)) Absent
    ∷ entry 2 1 0 (read (key 4000)) Absent
    ∷ entry 3 0 0 (put (key 4000) first_value) (Done 3)
    ∷ last_of_two
    ∷ [])
    ((to_first ∷ []) ∷ (to_first ∷ []) ∷ [])

-- The box sees the second packet at its put, with its own choice, and gives it the first packet's backend.
abbrev pub second_is_seen : Type 0
second_is_seen =
    GivesVisits IsService two_instances_one_flow 3 last_of_two
    (record {
      arrival = record { packet = going 4000; choice = Some second_backend; time = 0 };
      verdict = Some to_first;
    } ∷ [])

-- An instance that stops after its put: its packet is lost, though the pin stands, and the next one finds it.
abbrev pub stop_after_the_record : Row
stop_after_the_record =
    row_of (epoch_of (with_stop 0 2 ∷ []) (0 ∷ 1 ∷ []) [] ∷ both_active)
    (lane_of (Seen (going 4000) ∷ Seen (going 4000) ∷ []) refl ∷ [])
    (pinned ++ entry 3 1 1 (read (key 4000)) (found first_value 2) ∷ [])
    ((Lost ∷ to_first ∷ []) ∷ [])

-- A quota of three packets and then one of one: the last of five packets is left.
abbrev pub drain_and_hand_over : Row
drain_and_hand_over =
    row_of (epoch_of (with_quota 0 3 ∷ []) (0 ∷ 1 ∷ []) [] ∷ epoch_of (with_quota 0 1 ∷ []) (0 ∷ 1 ∷ []) [] ∷ [])
    (lane_of (repeat 5 (Seen (going 4000) ∷ [])) refl ∷ [])
    (pinned
    ++ entry 3 0 1 (read (key 4000)) (found first_value 2)
    ∷ entry 4 0 2 (read (key 4000)) (found first_value 2)
    ∷ entry 5 1 3 (read (key 4000)) (found first_value 2)
    ∷ [])
    ((to_first ∷ to_first ∷ to_first ∷ to_first ∷ Left ∷ []) ∷ [])

-- Batches of three: the third packet has the first one's key, and waits for the next batch.
abbrev pub batches : Row
batches = record {
  shards = 1;
  batch = 3;
  epochs = both_active;
  lanes = lane_of (Seen (going 4000) ∷ Seen (going 4001) ∷ Seen (going 4000) ∷ []) refl ∷ [];
  journal =
      entry 1 0 0 (read (key 4000)) Absent
      ∷ entry 2 0 1 (read (key 4001)) Absent
      ∷ entry 3 0 0 (put (key 4000) first_value) (Done 3)
      ∷ entry 4 0 1 (put (key 4001) second_value) (Done 4)
      ∷ entry 5 0 2 (read (key 4000)) (found first_value 3)
      ∷ [];
  verdicts = (to_first ∷ to_second ∷ to_first ∷ []) ∷ [];
}

-- Two shards: each has stamps of its own, which are above those of the actor that makes an access.
abbrev pub two_shards : Row
two_shards = record {
  shards = 2;
  batch = 1;
  epochs = two_instances (0 ∷ 1 ∷ []) (0 ∷ 1 ∷ 0 ∷ 1 ∷ []);
  lanes = lane_of (Seen (going 4000) ∷ []) refl ∷ lane_of (Seen (going 4001) ∷ []) refl ∷ [];
  journal =
      entry 1 0 0 (read (key 4000)) Absent
      ∷ entry_in 1 1 1 0 (read (key 4001)) Absent
      ∷ entry 2 0 0 (put (key 4000) first_value) (Done 2)
      ∷ entry_in 1 2 1 0 (put (key 4001) second_value) (Done 2)
      ∷ [];
  verdicts = (to_first ∷ []) ∷ (to_second ∷ []) ∷ [];
}

-- A packet comes back from the client's backend, and one from the other, which the client has no pin to.
abbrev pub balancer_return : Row
balancer_return =
    row_of both_active
    (lane_of (Seen (going 4000) ∷ Seen (going 4000) ∷ coming first_backend ∷ coming second_backend ∷ []) refl ∷ [])
    (pinned
    ++ entry 3 0 1 (read (key 4000)) (found first_value 2)
    ∷ entry 4 0 2 (read (key 4000)) (found first_value 2)
    ∷ entry 5 0 3 (read (key 4000)) (found first_value 2)
    ∷ [])
    ((to_first ∷ to_first ∷ Emit (Source front) ∷ Dropped NotPinned ∷ []) ∷ [])
