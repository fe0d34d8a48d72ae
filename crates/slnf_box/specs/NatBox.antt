-- The ordinary NAT: one map from flows to outside pairs.
use Rattle.std.specs.Prelude.{◌&&◌, Bool, true, false, if◌then◌else◌, Option, Some, None, List, [], ◌∷◌}
use Rattle.slnf_base.specs.declared.addresses.Pair.{Pair}
use Rattle.slnf_base.specs.declared.packets.Proto.{Proto}
use Rattle.slnf_base.specs.declared.packets.Packet.{Packet}
use Rattle.slnf_base.specs.declared.packets.Change.TheVariants.{Source, Dest}
use Rattle.slnf_base.specs.declared.packets.Reason.TheVariants.{Neither, NoFlow, NoPort}
use Rattle.slnf_base.specs.declared.packets.Verdict.{Verdict}
use Rattle.slnf_base.specs.declared.packets.Verdict.TheVariants.{Emit, Dropped}
use Rattle.slnf_base.specs.Equal.{is_same_pair, is_same_proto}
use Rattle.slnf_run.specs.Boxes.{Box}
use Rattle.slnf_box.specs.Nat.{Nat}

-- A flow that the box keeps.
pub record Flow : Type 0 where
  pub proto : Proto
  pub inside : Pair
  pub outside : Pair

-- the outside pair of a flow
abbrev pub pair_of : List Flow → Proto → Pair → Option Pair
pair_of [] proto inside = None
pair_of (flow ∷ flows) proto inside =
    if is_same_proto flow.proto proto && is_same_pair flow.inside inside then Some flow.outside else pair_of flows proto inside

-- the inside pair of the flow that has an outside pair
abbrev pub owner : List Flow → Proto → Pair → Option Pair
owner [] proto outside = None
owner (flow ∷ flows) proto outside =
    if is_same_proto flow.proto proto && is_same_pair flow.outside outside then Some flow.inside else owner flows proto outside

-- What the box sees: a packet, and the outside pair that is proposed for a new flow.
pub record NatArrival : Type 0 where
  pub packet : Packet
  pub choice : Option Pair

abbrev pub is_free : Option Pair → Bool
is_free None = true
is_free (Some inside) = false

-- the choice, where it is one that the packet's flow may have and no flow of the protocol has it
abbrev pub free_choice : Nat → List Flow → Packet → Option Pair → Option Pair
free_choice nat flows packet None = None
free_choice nat flows packet (Some port) =
    if nat.allows packet.source port && is_free (owner flows packet.proto port) then Some port else None

-- the verdict of a packet on its way out, by its flow's pair and the choice that can be taken
abbrev pub out_verdict : Option Pair → Option Pair → Verdict
out_verdict (Some known) fresh = Emit (Source known)
out_verdict None (Some fresh) = Emit (Source fresh)
out_verdict None None = Dropped NoPort

-- the flows after it
abbrev pub out_next : List Flow → Packet → Option Pair → Option Pair → List Flow
out_next flows packet (Some known) fresh = flows
out_next flows packet None (Some fresh) = record { proto = packet.proto; inside = packet.source; outside = fresh } ∷ flows
out_next flows packet None None = flows

-- it makes a flow: its own has no pair yet, and the choice can be taken
abbrev pub out_is_new : Option Pair → Option Pair → Bool
out_is_new (Some known) fresh = false
out_is_new None (Some fresh) = true
out_is_new None None = false

abbrev pub in_verdict : Option Pair → Verdict
in_verdict (Some inside) = Emit (Dest inside)
in_verdict None = Dropped NoFlow

-- The verdict by the packet's direction; a packet without one is dropped.
abbrev pub nat_verdict : Nat → List Flow → NatArrival → Verdict
nat_verdict nat flows arrival =
    let packet = arrival.packet in
    if nat.is_out packet then out_verdict (pair_of flows packet.proto packet.source)
    (free_choice nat flows packet arrival.choice)
    else (if nat.is_in packet then in_verdict (owner flows packet.proto packet.dest) else Dropped Neither)

-- the flows after it: only a packet on its way out makes one
abbrev pub nat_next : Nat → List Flow → NatArrival → List Flow
nat_next nat flows arrival =
    let packet = arrival.packet in
    if nat.is_out packet then out_next flows packet (pair_of flows packet.proto packet.source)
    (free_choice nat flows packet arrival.choice)
    else flows

-- the packet makes a flow, which is an entry of the box
abbrev pub is_new_flow : Nat → List Flow → NatArrival → Bool
is_new_flow nat flows arrival =
    let packet = arrival.packet in
    nat.is_out packet
    && out_is_new (pair_of flows packet.proto packet.source) (free_choice nat flows packet arrival.choice)

abbrev pub nat_box : Nat → Box NatArrival (List Flow)
nat_box nat = record { empty = []; verdict = nat_verdict nat; next = nat_next nat }
