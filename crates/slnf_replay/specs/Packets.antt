-- The packet of an entry: where it was captured, and what the box sees of it.
use Rattle.std.specs.Prelude.{not, ◌&&◌, Bool, false, Option, Some, None, List}
use Rattle.std.specs.Option.{option_and_then}
use Rattle.slnf_base.specs.declared.addresses.Pair.{Pair}
use Rattle.slnf_base.specs.declared.packets.Packet.{Packet}
use Rattle.slnf_base.specs.declared.packets.Verdict.{Verdict}
use Rattle.slnf_access.specs.declared.requests.Entry.{Entry}
use Rattle.slnf_plan.specs.declared.plan.Epoch.{Epoch}
use Rattle.slnf_plan.specs.declared.plan.FunctionPlan.{FunctionPlan}
use Rattle.slnf_plan.specs.declared.plan.FunctionPlan.TheVariants.{Nat, Firewall, Balancer}
use Rattle.slnf_box.specs.Pools.{is_outbound}
use Rattle.slnf_nat.specs.Machine.{flow_key}
use Rattle.slnf_nat.specs.NatScene.{is_no_flow, put_on}
use Rattle.slnf_lb.specs.Machine.{choice_of}
use Rattle.slnf_flight.specs.declared.lanes.Lane.{Lane}
use Rattle.slnf_flight.specs.declared.lanes.Taken.{Taken}
use Rattle.slnf_flight.specs.declared.lanes.Taken.TheVariants.{Seen, Bad}
use Rattle.slnf_flight.specs.Lanes.{packet_at}
use Rattle.slnf_flight.specs.LbPlan.{active_in}
use Rattle.slnf_replay.specs.declared.seats.Seat.{Seat}
use Rattle.slnf_replay.specs.declared.packets.Sighting.{Sighting}
use Rattle.slnf_replay.specs.Seats.{seat_in}

-- what was captured at a seat
abbrev pub sighted : Seat → Option Taken → Option Sighting
sighted seat None = None
sighted seat (Some (Bad reason)) = None
sighted seat (Some (Seen packet)) = Some (record { epoch = seat.epoch; lane = seat.lane; packet = packet })

-- the packet of an entry, if an instance made the entry
abbrev pub sighting_of : List Lane → List (Option Seat) → Entry → Option Sighting
sighting_of lanes seats e =
    option_and_then (λ seat. sighted seat (packet_at lanes e.item (Some seat.lane))) (seat_in seats e.incarnation)

-- the pair that is proposed for a packet to the box of a function, in an epoch, at this entry of the packet
abbrev pub choice_at : FunctionPlan → Option Epoch → Packet → Entry → Option Pair
choice_at (Nat pool) epoch packet e = put_on (flow_key packet.proto packet.source) e.request e.reply
choice_at (Firewall inside rules) epoch packet e = None
choice_at (Balancer service) epoch packet e = Some (choice_of (active_in service epoch) e.incarnation e.item)

-- a packet of a function that is decided so has its first entry as its place
abbrev pub has_first_place : FunctionPlan → Packet → Verdict → Bool
has_first_place (Nat pool) packet verdict = not (is_outbound pool packet) && is_no_flow verdict
has_first_place (Firewall inside rules) packet verdict = false
has_first_place (Balancer service) packet verdict = false
