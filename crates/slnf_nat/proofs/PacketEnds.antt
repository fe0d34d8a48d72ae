-- The NAT's machine ends packets with answers, and decides nothing of a sweep's items.
use Rattle.std.proofs.Common.{◌≡◌, ℕ, ◌-◌, ◌*◌, Bool, true, false, cond, nat_lt, Option, Some, None, List, [], ◌∷◌, refl, subst}
use Rattle.slnf_base.specs.declared.addresses.Pair.{Pair}
use Rattle.slnf_base.specs.declared.packets.Proto.{Proto}
use Rattle.slnf_base.specs.declared.packets.Proto.TheVariants.{Tcp, Udp}
use Rattle.slnf_base.specs.declared.packets.Packet.{Packet}
use Rattle.slnf_base.specs.declared.packets.Change.TheVariants.{Dest}
use Rattle.slnf_base.specs.declared.packets.Reason.TheVariants.{NoFlow, Neither}
use Rattle.slnf_base.specs.declared.packets.Verdict.TheVariants.{Emit, Dropped}
use Rattle.slnf_base.specs.declared.plans.Pool.{Pool}
use Rattle.slnf_base.specs.Equal.{is_same_pair}
use Rattle.slnf_access.specs.declared.requests.Entry.{Entry}
use Rattle.slnf_access.specs.declared.requests.Reply.{Reply}
use Rattle.slnf_access.specs.declared.requests.Reply.TheVariants.{Done, Found, Absent}
use Rattle.slnf_access.specs.declared.functions.Start.{Start}
use Rattle.slnf_access.specs.declared.functions.Start.TheVariants.{Go as StartGo, Over as StartOver}
use Rattle.slnf_access.specs.Machines.{Stand, Flies, Ends, stand_after, decided_at, stand_of_step, Machine}
use Rattle.slnf_keys.specs.declared.values.FlowTo.{FlowTo}
use Rattle.slnf_keys.specs.declared.values.Claim.{Claim}
use Rattle.slnf_keys.specs.Values.{flow_to_of, claim_of}
use Rattle.slnf_run.specs.OneBox.{EndsWell}
use Rattle.slnf_box.specs.Nat.{Nat}
use Rattle.slnf_box.specs.Pools.{port_count, is_outbound, is_inbound, nat_of}
use Rattle.slnf_nat.specs.Flights.{OutState, Look, Try, Confirm, Release, Last, InState, LookPort, LookFlow, SweepState, SweepPort, SweepFlow, Remove, NatFlight, Out, In, Sweep}
use Rattle.slnf_nat.specs.Machine.{looked, released, goes_out, claimed, entered, goes_in, swept, names, goes_sweep, nat_goes, nat_decided, nat_machine}
use Rattle.slnf_nat.proofs.Firsts.{nat_steady}
use Rattle.slnf_run.specs.FunctionLaws.{IsFunction}
use Rattle.slnf_nat.specs.Behaviour.{IsPacketFlight, nat_behaviour}
use Rattle.slnf_nat.specs.Starts.{nat_starts, pool_port, sweep_item}

-- what holds of a machine's stands at each step holds in the end
stands_keep : {F : Type 0} (m : Machine F) (P : Stand F → Type 0) →
    ((flight : F) (reply : Reply) → P (Flies flight) → P (m.goes flight reply)) → (st : Stand F) (own : List Entry) →
    P st → P (stand_after m st own)
stands_keep m P step st [] h = h
stands_keep m P step (Flies flight) (e ∷ own) h = stands_keep m P step (m.goes flight e.reply) own (step flight e.reply h)
stands_keep m P step (Ends end) (e ∷ own) h = stands_keep m P step (Ends end) own h

-- where a packet stands: on its way, or ended with an answer
abbrev pub IsPacketStand : Stand NatFlight → Type 0
IsPacketStand (Flies (Out state i packet)) = Unit {0}
IsPacketStand (Flies (In state packet)) = Unit {0}
IsPacketStand (Flies (Sweep state proto port base)) = ⊥
IsPacketStand (Ends end) = EndsWell (let st : Stand NatFlight = Ends end in st)

looked_well : (to : Option FlowTo) → IsPacketStand (stand_of_step (looked to))
looked_well None = tt
looked_well (Some to) = tt

released_well : (i : ℕ) (packet : Packet) (number version : ℕ) (to : Option FlowTo)
    → IsPacketStand (stand_of_step (released i packet number version to))
released_well i packet number version None = tt
released_well i packet number version (Some to) = tt

out_well : (nat : Nat) (i : ℕ) (packet : Packet) (state : OutState) (reply : Reply)
    → IsPacketStand (stand_of_step (goes_out nat i packet state reply))
out_well nat i packet Look (Done stamp) = tt
out_well nat i packet Look (Found value stamp) = looked_well (flow_to_of value.0)
out_well nat i packet Look Absent = tt
out_well nat i packet (Try number) (Done stamp) = tt
out_well nat i packet (Try number) (Found value stamp) = tt
out_well nat i packet (Try number) Absent = tt
out_well nat i packet (Confirm number version) (Done stamp) = tt
out_well nat i packet (Confirm number version) (Found value stamp) = released_well i packet number version (flow_to_of value.0)
out_well nat i packet (Confirm number version) Absent = tt
out_well nat i packet (Release number version port) reply = tt
out_well nat i packet Last (Done stamp) = tt
out_well nat i packet Last (Found value stamp) = looked_well (flow_to_of value.0)
out_well nat i packet Last Absent = tt

claimed_well : (packet : Packet) (claim : Option Claim) → IsPacketStand (stand_of_step (claimed packet claim))
claimed_well packet None = tt
claimed_well packet (Some claim) = tt

entered_well : (packet : Packet) (inside : Pair) (to : Option FlowTo)
    → IsPacketStand (stand_of_step (entered packet inside to))
entered_well packet inside None = tt
entered_well packet inside (Some to) = go (is_same_pair to.outside packet.dest)
  where
    go : (b : Bool)
        → EndsWell (let st : Stand NatFlight = Ends (Some (cond b (Emit (Dest inside)) (Dropped NoFlow))) in st)
    go true = tt
    go false = tt

in_well : (packet : Packet) (state : InState) (reply : Reply)
    → IsPacketStand (stand_of_step (goes_in packet state reply))
in_well packet LookPort (Done stamp) = tt
in_well packet LookPort (Found value stamp) = claimed_well packet (claim_of value.0)
in_well packet LookPort Absent = tt
in_well packet (LookFlow inside) (Done stamp) = tt
in_well packet (LookFlow inside) (Found value stamp) = entered_well packet inside (flow_to_of value.0)
in_well packet (LookFlow inside) Absent = tt

packet_step : (nat : Nat) (flight : NatFlight) (reply : Reply) → IsPacketStand (Flies flight)
    → IsPacketStand (nat_goes nat flight reply)
packet_step nat (Out state i packet) reply h = out_well nat i packet state reply
packet_step nat (In state packet) reply h = in_well packet state reply
packet_step nat (Sweep state proto port base) reply h = absurd h

ends_well_of : (st : Stand NatFlight) → IsPacketStand st → EndsWell st
ends_well_of (Flies flight) h = tt
ends_well_of (Ends end) h = h

-- where a sweep's item stands: on its way, or ended without a verdict
abbrev pub IsSweepStand : Stand NatFlight → Type 0
IsSweepStand (Flies (Out state i packet)) = ⊥
IsSweepStand (Flies (In state packet)) = ⊥
IsSweepStand (Flies (Sweep state proto port base)) = Unit {0}
IsSweepStand (Ends None) = Unit {0}
IsSweepStand (Ends (Some verdict)) = ⊥

swept_sweeps : (proto : Proto) (port : Pair) (base version : ℕ) (claim : Option Claim)
    → IsSweepStand (swept proto port base version claim)
swept_sweeps proto port base version None = tt
swept_sweeps proto port base version (Some claim) = go (nat_lt claim.incarnation base)
  where
    go : (b : Bool)
        → IsSweepStand (cond b (Flies (Sweep (SweepFlow claim.inside version) proto port base)) (Ends None))
    go true = tt
    go false = tt

sweep_sweeps : (proto : Proto) (port : Pair) (base : ℕ) (state : SweepState) (reply : Reply)
    → IsSweepStand (goes_sweep proto port base state reply)
sweep_sweeps proto port base SweepPort (Done stamp) = tt
sweep_sweeps proto port base SweepPort (Found value stamp) = swept_sweeps proto port base stamp (claim_of value.0)
sweep_sweeps proto port base SweepPort Absent = tt
sweep_sweeps proto port base (SweepFlow inside version) (Done stamp) = tt
sweep_sweeps proto port base (SweepFlow inside version) (Found value stamp) = go (names port (flow_to_of value.0))
  where
    go : (b : Bool) → IsSweepStand (cond b (Ends None) (Flies (Sweep (Remove version) proto port base)))
    go true = tt
    go false = tt
sweep_sweeps proto port base (SweepFlow inside version) Absent = tt
sweep_sweeps proto port base (Remove version) reply = tt

sweep_step : (nat : Nat) (flight : NatFlight) (reply : Reply) → IsSweepStand (Flies flight)
    → IsSweepStand (nat_goes nat flight reply)
sweep_step nat (Out state i packet) reply h = absurd h
sweep_step nat (In state packet) reply h = absurd h
sweep_step nat (Sweep state proto port base) reply h = sweep_sweeps proto port base state reply

undecided_of : (nat : Nat) (st : Stand NatFlight) → IsSweepStand st → decided_at (nat_machine nat) st ≡ None
undecided_of nat (Flies (Out state i packet)) h = absurd h
undecided_of nat (Flies (In state packet)) h = absurd h
undecided_of nat (Flies (Sweep state proto port base)) h = refl
undecided_of nat (Ends None) h = refl
undecided_of nat (Ends (Some verdict)) h = absurd h

-- what a sweep's item begins as
pub item_sweeps : (P : Stand NatFlight → Type 0) (pool : Pool) (base item : ℕ)
    → ((proto : Proto) (place : ℕ) → P (Flies (Sweep SweepPort proto (pool_port pool place) base))) → P (Ends None)
    → P (sweep_item pool base item)
item_sweeps P pool base item there none = go (nat_lt item (port_count pool)) (nat_lt item (2 * port_count pool))
  where
    go : (b d : Bool)
        → P (cond b (Flies (Sweep SweepPort Tcp (pool_port pool item) base))
        (cond d (Flies (Sweep SweepPort Udp (pool_port pool (item - port_count pool)) base)) (Ends None)))
    go true d = there Tcp item
    go false true = there Udp (item - port_count pool)
    go false false = none

-- what a packet starts as
pub starts_as : (P : NatFlight → Type 0) (pool : Pool) (i k : ℕ) (packet : Packet) (first : NatFlight)
    → nat_starts pool i k packet ≡ StartGo first → (is_outbound pool packet ≡ true → P (Out Look i packet))
    → (is_outbound pool packet ≡ false → is_inbound pool packet ≡ true → P (In LookPort packet)) → P first
starts_as P pool i k packet first h out in_ = go (is_outbound pool packet) (is_inbound pool packet) refl refl h
  where
    go : (b d : Bool) → is_outbound pool packet ≡ b → is_inbound pool packet ≡ d
        → (let s : Start NatFlight = cond b (StartGo (Out Look i packet))
        (cond d (StartGo (In LookPort packet)) (StartOver Neither)) in s) ≡ StartGo first
        → P first
    go true d w v h = let is : Out Look i packet ≡ first = cc in subst P is (out w)
    go false true w v h = let is : In LookPort packet ≡ first = cc in subst P is (in_ w v)
    go false false w v h = absurd (cc)

pub nat_function : (pool : Pool) (bases : ℕ → ℕ) →
    IsFunction (nat_machine (nat_of pool)) (nat_starts pool) (λ i k. sweep_item pool (bases i) k)
nat_function pool bases = record {
  steady = nat_steady (nat_of pool);
  undecided = λ i k packet first h.
      starts_as (λ f. nat_decided f ≡ None) pool i k packet first h (λ w. refl) (λ w v. refl);
  ends_well = λ i k packet first own h.
      ends_well_of (stand_after (nat_machine (nat_of pool)) (Flies first) own)
      (stands_keep (nat_machine (nat_of pool)) IsPacketStand (packet_step (nat_of pool)) (Flies first) own
      (starts_as (λ f. IsPacketStand (Flies f)) pool i k packet first h (λ w. tt) (λ w v. tt)));
  swept = λ i k own.
      undecided_of (nat_of pool) (stand_after (nat_machine (nat_of pool)) (sweep_item pool (bases i) k) own)
      (stands_keep (nat_machine (nat_of pool)) IsSweepStand (sweep_step (nat_of pool)) (sweep_item pool (bases i) k)
      own (item_sweeps IsSweepStand pool (bases i) k (λ proto place. tt) tt));
}

-- the function's steps are the machine's
pub steps_agree : (pool : Pool) (flight : NatFlight) (reply : Reply) → IsPacketFlight flight →
    stand_of_step ((nat_behaviour pool).goes flight reply) ≡ (nat_machine (nat_of pool)).goes flight reply
steps_agree pool (Out state incarnation packet) reply h = refl
steps_agree pool (In state packet) reply h = refl
steps_agree pool (Sweep state proto port base) reply h = absurd h
