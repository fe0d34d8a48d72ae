-- Worked rows: a whole connection at three instances, two replaces at once, and what no connection and a closed one let
-- pass.
use Rattle.std.proofs.Common.{◌≡◌, ℕ, true, false, Some, None, List, [], ◌∷◌, ◌++◌, slice_index_or, refl, arith}
use Rattle.slnf_base.specs.declared.addresses.Pair.{Pair}
use Rattle.slnf_base.specs.declared.addresses.Prefix.{Prefix}
use Rattle.slnf_base.specs.declared.packets.Proto.TheVariants.{Tcp}
use Rattle.slnf_base.specs.declared.packets.Packet.{Packet}
use Rattle.slnf_base.specs.declared.packets.Change.TheVariants.{Keep}
use Rattle.slnf_base.specs.declared.packets.Reason.TheVariants.{DeniedRule, NoConn}
use Rattle.slnf_base.specs.declared.packets.Verdict.TheVariants.{Emit, Dropped}
use Rattle.slnf_access.specs.declared.requests.Entry.{Entry}
use Rattle.slnf_access.specs.declared.requests.Request.{Request}
use Rattle.slnf_access.specs.declared.requests.Request.TheVariants.{Read, PutIfAbsent, ReplaceIf}
use Rattle.slnf_access.specs.declared.requests.Reply.{Reply}
use Rattle.slnf_access.specs.declared.requests.Reply.TheVariants.{Done, Found, Absent}
use Rattle.slnf_access.specs.Map.{IsLegal}
use Rattle.slnf_access.specs.Machines.{Stand, Ends, stand_of_start, IsPath}
use Rattle.slnf_fw_table.specs.declared.rules.Rule.{Rule}
use Rattle.slnf_fw_table.specs.declared.connections.State.TheVariants.{SynSent, Closed}
use Rattle.slnf_keys.specs.Layout.{pair_number, key_number}
use Rattle.slnf_keys.specs.Keys.{conn_key_number}
use Rattle.slnf_keys.specs.Values.{conn_number, conn_of}
use Rattle.slnf_run.specs.Scene.{own_of, stand_of}
use Rattle.slnf_run.specs.Boxes.{content_after}
use Rattle.slnf_box.specs.Choices.{choice_of}
use Rattle.slnf_box.specs.FwBox.{fw_box}
use Rattle.slnf_box.specs.Packets.{conn_of_packet}
use Rattle.slnf_box.specs.declared.choices.Choice.TheVariants.{Refuses, Writes}
use Rattle.slnf_box.specs.declared.policies.Policy.{Policy}
use Rattle.slnf_fw.specs.Flight.{Flying}
use Rattle.slnf_fw.specs.Machine.{fw_begins, packet_key, fw_machine}
use Rattle.slnf_fw.specs.Scene.{fw_scene}

-- the inside is 10.0.0.0/8, and one rule permits all TCP out
abbrev inside : Prefix
inside = record { addr = 167772160; bits = 8; within = omega arith; zeros_after = refl }

abbrev tcp_out : Rule
tcp_out = record {
  permit = true;
  outbound = true;
  proto = 6;
  source = 0;
  source_bits = 0;
  dest = 0;
  dest_bits = 0;
  low = 0;
  high = 65535;
  source_within = omega arith;
  source_zeros_after = refl;
  dest_within = omega arith;
  dest_zeros_after = refl;
}

abbrev policy : Policy
policy = record { inside = inside; rules = tcp_out ∷ [] }

-- 10.0.0.5:5000 and 198.51.100.7:80
abbrev client : Pair
client = record { addr = 167772165; port = 5000 }

abbrev server : Pair
server = record { addr = 3325256711; port = 80 }

-- the client's packet with these flags, and the server's: 2 is SYN, 16 ACK, 17 FIN and ACK, 18 SYN and ACK
abbrev out : ℕ → Packet
out flags = record { proto = Tcp; source = client; dest = server; flags = flags }

abbrev back : ℕ → Packet
back flags = record { proto = Tcp; source = server; dest = client; flags = flags }

-- the connection's key is 03060000c633640700500a0000051388, from both sides
abbrev key : ℕ
key = 4018837829846116111707298327974712200

key_out : packet_key policy (out 2) ≡ key
unfolding conn_key_number key_number pair_number
key_out = refl

key_back : packet_key policy (back 18) ≡ key
unfolding conn_key_number key_number pair_number
key_back = refl

-- an entry on the key, with this stamp, of this incarnation's item
abbrev entry : (stamp incarnation item : ℕ) → Request → Reply → Entry
entry stamp incarnation item request reply =
    record { stamp = stamp; shard = 0; incarnation = incarnation; item = item; request = request; reply = reply }

-- a read finds this state with this version
abbrev finds : (stamp incarnation item state version : ℕ) → Entry
finds stamp incarnation item state version =
    entry stamp incarnation item (Read (record { 0 = key })) (Found (record { 0 = state }) version)

-- a replace of this version by this state
abbrev replaces : (stamp incarnation item version state : ℕ) → Reply → Entry
replaces stamp incarnation item version state reply =
    entry stamp incarnation item (ReplaceIf (record { 0 = key }) version (record { 0 = state })) reply

-- the client's SYN, the server's SYN+ACK, and the client's ACK
abbrev handshake : List Entry
handshake =
    entry 1 0 0 (Read (record { 0 = key })) Absent
    ∷ entry 2 0 0 (PutIfAbsent (record { 0 = key }) (record { 0 = 1 })) (Done 2)
    ∷ finds 3 1 0 1 2 ∷ replaces 4 1 0 2 2 (Done 4)
    ∷ finds 5 0 1 2 4 ∷ replaces 6 0 1 4 3 (Done 6) ∷ []

-- The whole connection: then the client's FIN+ACK, the server's, and the client's ACK.
abbrev whole : List Entry
whole =
    handshake
    ++ finds 7 2 0 3 6 ∷ replaces 8 2 0 6 4 (Done 8)
    ∷ finds 9 1 1 4 8 ∷ replaces 10 1 1 8 6 (Done 10)
    ∷ finds 11 2 1 6 10 ∷ replaces 12 2 1 10 7 (Done 12) ∷ []

abbrev whole_lanes : List (List Packet)
whole_lanes = (out 2 ∷ out 16 ∷ []) ∷ (back 18 ∷ back 17 ∷ []) ∷ (out 17 ∷ out 16 ∷ []) ∷ []

-- how the packets of these lanes begin, each lane at its own instance
abbrev begins : List (List Packet) → ℕ → ℕ → Stand Flying
begins lanes incarnation item =
    stand_of_start (fw_begins policy (slice_index_or (slice_index_or lanes incarnation []) item (out 0)))

whole_legal : IsLegal whole
whole_legal =
    (refl, (refl, (refl, (refl, (refl, (refl, (refl, (refl, (refl, (refl, (refl, (refl, tt))))))))))))

-- the item's entries are a path that emits its packet
abbrev Passes : List (List Packet) → List Entry → (incarnation item : ℕ) → Type 0
Passes lanes es incarnation item =
    IsPath (fw_machine policy) (begins lanes incarnation item) (own_of incarnation item es)
    × (stand_of (fw_scene policy (begins lanes)) incarnation item es ≡ Ends (Some (Emit Keep)))

-- each packet passes by two entries
whole_passes : Passes whole_lanes whole 0 0 × Passes whole_lanes whole 1 0 × Passes whole_lanes whole 0 1
    × Passes whole_lanes whole 2 0 × Passes whole_lanes whole 1 1 × Passes whole_lanes whole 2 1
unfolding conn_key_number key_number pair_number conn_number conn_of
whole_passes = (
  ((refl, (refl, tt)), refl),
  ((refl, (refl, tt)), refl),
  ((refl, (refl, tt)), refl),
  ((refl, (refl, tt)), refl),
  ((refl, (refl, tt)), refl),
  ((refl, (refl, tt)), refl),
)

-- and the box has the connection closed
whole_closed : content_after (fw_scene policy (begins whole_lanes))
    (fw_box policy) whole 12 (conn_of_packet policy (out 2))
    ≡ Some (record { by_outside = false; state = Closed })
unfolding conn_of
whole_closed = refl

-- Two replaces: both sides' FIN+ACK find state 3. The client's comes first, and the server's finds 4 and goes on from
-- there.
abbrev both : List Entry
both =
    handshake
    ++ finds 7 0 2 3 6 ∷ finds 8 1 1 3 6
    ∷ replaces 9 0 2 6 4 (Done 9)
    ∷ replaces 10 1 1 6 5 (Found (record { 0 = 4 }) 9)
    ∷ replaces 11 1 1 9 6 (Done 11) ∷ []

abbrev both_lanes : List (List Packet)
both_lanes = (out 2 ∷ out 16 ∷ out 17 ∷ []) ∷ (back 18 ∷ back 17 ∷ []) ∷ []

both_legal : IsLegal both
both_legal =
    (refl, (refl, (refl, (refl, (refl, (refl, (refl, (refl, (refl, (refl, (refl, tt)))))))))))

both_passes : Passes both_lanes both 0 2 × Passes both_lanes both 1 1
unfolding conn_key_number key_number pair_number conn_number conn_of
both_passes = (((refl, (refl, tt)), refl), ((refl, (refl, (refl, tt))), refl))

-- an inbound ACK alone has no connection, and no rule lets an inbound SYN open one
lone_ack : choice_of policy (back 16) None ≡ Refuses NoConn
lone_ack = refl

inbound_syn : (fw_box policy).verdict (λ conn. None) (back 2) ≡ Dropped DeniedRule
inbound_syn = refl

-- a closed connection opens anew from the side that the rules permit, and from no other
reopened : choice_of policy (out 2) (Some (record { by_outside = true; state = Closed }))
    ≡ Writes (record { by_outside = false; state = SynSent })
reopened = refl

not_reopened : choice_of policy (back 2) (Some (record { by_outside = false; state = Closed })) ≡ Refuses DeniedRule
not_reopened = refl
