-- What packets begin and go on with are packets' flights, and no sweep's ports'.
use Rattle.std.proofs.Common.{◌≡◌, ℕ, Bool, true, false, if◌then◌else◌, Option, Some, None, subst}
use Rattle.slnf_base.specs.declared.addresses.Pair.{Pair}
use Rattle.slnf_base.specs.declared.packets.Packet.{Packet}
use Rattle.slnf_base.specs.declared.packets.Reason.TheVariants.{Neither}
use Rattle.slnf_access.specs.declared.functions.Start.{Start}
use Rattle.slnf_access.specs.declared.functions.Start.TheVariants.{Go as StartGo, Over as StartOver}
use Rattle.slnf_access.specs.declared.functions.Step.{Step}
use Rattle.slnf_access.specs.declared.functions.Step.TheVariants.{Go as StepGo, Over as StepOver}
use Rattle.slnf_access.specs.declared.requests.Reply.{Reply}
use Rattle.slnf_access.specs.declared.requests.Reply.TheVariants.{Done, Found, Absent}
use Rattle.slnf_keys.specs.declared.values.Claim.{Claim}
use Rattle.slnf_keys.specs.declared.values.FlowTo.{FlowTo}
use Rattle.slnf_keys.specs.Values.{flow_to_of, claim_of}
use Rattle.slnf_run.specs.Cases.{start_as}
use Rattle.slnf_box.specs.Nat.{Nat}
use Rattle.slnf_box.specs.Pools.{is_outbound, is_inbound, nat_of}
use Rattle.slnf_nat.specs.Behaviour.{nat_steps}
use Rattle.slnf_nat.specs.declared.flights.OutState.{OutState}
use Rattle.slnf_nat.specs.declared.flights.OutState.TheVariants.{Look, Try, Confirm, Release, Last}
use Rattle.slnf_nat.specs.declared.flights.InState.{InState}
use Rattle.slnf_nat.specs.declared.flights.InState.TheVariants.{LookPort, LookFlow}
use Rattle.slnf_nat.specs.Flights.{NatFlight, Out, In, Sweep}
use Rattle.slnf_nat.specs.Machine.{looked, released, claimed, entered, goes_out, goes_in}
use Rattle.slnf_fw.specs.Flight.{Flying as FwFlying}
use Rattle.slnf_fw.specs.Machine.{fw_begins, fw_behaviour}
use Rattle.slnf_lb.specs.Flight.{Flying as LbFlying}
use Rattle.slnf_lb.specs.Machine.{lb_begins, lb_behaviour}
use Rattle.slnf_flight.specs.declared.flights.AnyFlight.{AnyFlight}
use Rattle.slnf_flight.specs.declared.flights.AnyFlight.TheVariants.{Nat as NatFlies, Firewall as FwFlies, Balancer as LbFlies}
use Rattle.slnf_flight.specs.declared.functions.AnyFunction.{AnyFunction}
use Rattle.slnf_flight.specs.declared.functions.AnyFunction.TheVariants.{Nat as AnyNat, Firewall as AnyFirewall, Balancer as AnyBalancer}
use Rattle.slnf_flight.specs.Flights.{IsPacketFlight}
use Rattle.slnf_flight.specs.Functions.{any_behaviour, step_as}

-- a start and a step of packets
abbrev StartsPacket : Start AnyFlight → Type 0
StartsPacket (StartGo flight) = IsPacketFlight flight
StartsPacket (StartOver reason) = Unit {0}

abbrev StepsPacket : Step AnyFlight → Type 0
StepsPacket (StepGo flight) = IsPacketFlight flight
StepsPacket (StepOver verdict) = Unit {0}

-- the NAT's starts
nat_start_is : (first second : Bool) (incarnation : ℕ) (packet : Packet) →
    StartsPacket (start_as NatFlies (if first then StartGo (Out Look incarnation packet)
    else (if second then StartGo (In LookPort packet) else StartOver Neither)))
nat_start_is true second incarnation packet = tt
nat_start_is false true incarnation packet = tt
nat_start_is false false incarnation packet = tt

fw_start_is : (start : Start FwFlying) → StartsPacket (start_as FwFlies start)
fw_start_is (StartGo flight) = tt
fw_start_is (StartOver reason) = tt

lb_start_is : (start : Start LbFlying) → StartsPacket (start_as LbFlies start)
lb_start_is (StartGo flight) = tt
lb_start_is (StartOver reason) = tt

starts_packet : (function : AnyFunction) (incarnation number : ℕ) (packet : Packet) →
    StartsPacket ((any_behaviour function).begins incarnation number packet)
starts_packet (AnyNat function) incarnation number packet =
    nat_start_is (is_outbound function.pool packet) (is_inbound function.pool packet) incarnation packet
starts_packet (AnyFirewall function) incarnation number packet = fw_start_is (fw_begins function.policy packet)
starts_packet (AnyBalancer function) incarnation number packet =
    lb_start_is (lb_begins function.service function.active incarnation number packet)

-- what a packet begins with is a packet's flight
pub first_is_packets : (function : AnyFunction) (incarnation number : ℕ) (packet : Packet) (flight : AnyFlight) →
    (any_behaviour function).begins incarnation number packet ≡ StartGo flight → IsPacketFlight flight
first_is_packets function incarnation number packet flight h =
    subst StartsPacket h (starts_packet function incarnation number packet)

-- the NAT's steps
looked_is : (to : Option FlowTo) → StepsPacket (step_as NatFlies (looked to))
looked_is None = tt
looked_is (Some to) = tt

released_is : (incarnation : ℕ) (packet : Packet) (place version : ℕ) (to : Option FlowTo) →
    StepsPacket (step_as NatFlies (released incarnation packet place version to))
released_is incarnation packet place version None = tt
released_is incarnation packet place version (Some to) = tt

claimed_is : (packet : Packet) (claim : Option Claim) → StepsPacket (step_as NatFlies (claimed packet claim))
claimed_is packet None = tt
claimed_is packet (Some claim) = tt

entered_is : (packet : Packet) (inside : Pair) (to : Option FlowTo) →
    StepsPacket (step_as NatFlies (entered packet inside to))
entered_is packet inside None = tt
entered_is packet inside (Some to) = tt

out_is : (nat : Nat) (incarnation : ℕ) (packet : Packet) (state : OutState) (reply : Reply) →
    StepsPacket (step_as NatFlies (goes_out nat incarnation packet state reply))
out_is nat incarnation packet Look (Found value version) = looked_is (flow_to_of value.0)
out_is nat incarnation packet Look Absent = tt
out_is nat incarnation packet Look (Done stamp) = tt
out_is nat incarnation packet (Try place) (Done stamp) = tt
out_is nat incarnation packet (Try place) (Found value version) = tt
out_is nat incarnation packet (Try place) Absent = tt
out_is nat incarnation packet (Confirm place version) (Done stamp) = tt
out_is nat incarnation packet (Confirm place version) (Found value found) =
    released_is incarnation packet place version (flow_to_of value.0)
out_is nat incarnation packet (Confirm place version) Absent = tt
out_is nat incarnation packet (Release place version port) reply = tt
out_is nat incarnation packet Last (Found value version) = looked_is (flow_to_of value.0)
out_is nat incarnation packet Last Absent = tt
out_is nat incarnation packet Last (Done stamp) = tt

in_is : (packet : Packet) (state : InState) (reply : Reply) →
    StepsPacket (step_as NatFlies (goes_in packet state reply))
in_is packet LookPort (Found value version) = claimed_is packet (claim_of value.0)
in_is packet LookPort Absent = tt
in_is packet LookPort (Done stamp) = tt
in_is packet (LookFlow inside) (Found value version) = entered_is packet inside (flow_to_of value.0)
in_is packet (LookFlow inside) Absent = tt
in_is packet (LookFlow inside) (Done stamp) = tt

nat_step_is : (nat : Nat) (flight : NatFlight) (reply : Reply) →
    StepsPacket (step_as NatFlies (nat_steps nat flight reply))
nat_step_is nat (Out state incarnation packet) reply = out_is nat incarnation packet state reply
nat_step_is nat (In state packet) reply = in_is packet state reply
nat_step_is nat (Sweep state proto port base) reply = tt

fw_step_is : (step : Step FwFlying) → StepsPacket (step_as FwFlies step)
fw_step_is (StepGo flight) = tt
fw_step_is (StepOver verdict) = tt

lb_step_is : (step : Step LbFlying) → StepsPacket (step_as LbFlies step)
lb_step_is (StepGo flight) = tt
lb_step_is (StepOver verdict) = tt

steps_packet : (function : AnyFunction) (flight : AnyFlight) (reply : Reply) →
    StepsPacket ((any_behaviour function).goes flight reply)
steps_packet (AnyNat function) (NatFlies flight) reply = nat_step_is (nat_of function.pool) flight reply
steps_packet (AnyNat function) (FwFlies flight) reply = tt
steps_packet (AnyNat function) (LbFlies flight) reply = tt
steps_packet (AnyFirewall function) (NatFlies flight) reply = tt
steps_packet (AnyFirewall function) (FwFlies flight) reply =
    fw_step_is ((fw_behaviour function.policy).goes flight reply)
steps_packet (AnyFirewall function) (LbFlies flight) reply = tt
steps_packet (AnyBalancer function) (NatFlies flight) reply = tt
steps_packet (AnyBalancer function) (FwFlies flight) reply = tt
steps_packet (AnyBalancer function) (LbFlies flight) reply =
    lb_step_is ((lb_behaviour function.service function.active).goes flight reply)

-- what a flight goes on with is a packet's flight
pub goes_on_packets : (function : AnyFunction) (flight next : AnyFlight) (reply : Reply) →
    (any_behaviour function).goes flight reply ≡ StepGo next → IsPacketFlight next
goes_on_packets function flight next reply h = subst StepsPacket h (steps_packet function flight reply)
