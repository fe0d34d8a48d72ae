-- Each access lowers the rank of a flight, which is at first the bound of its accesses.
use Rattle.std.proofs.Common.{◌≡◌, ℕ, suc, ◌+◌, ◌-◌, ◌≤◌, ◌<◌, Bool, true, false, cond, nat_lt, Option, Some, None, List, [], ◌∷◌, length, refl, arith}
use Rattle.std.proofs.lemmas.Bool.{ltb-true}
use Rattle.slnf_base.specs.declared.addresses.Pair.{Pair}
use Rattle.slnf_base.specs.declared.packets.Proto.{Proto}
use Rattle.slnf_base.specs.declared.packets.Packet.{Packet}
use Rattle.slnf_access.specs.declared.requests.Entry.{Entry}
use Rattle.slnf_access.specs.declared.requests.Reply.{Reply}
use Rattle.slnf_access.specs.declared.requests.Reply.TheVariants.{Done, Found, Absent}
use Rattle.slnf_access.specs.Machines.{Stand, Flies, Ends, IsPath, stand_of_step}
use Rattle.slnf_keys.specs.declared.values.FlowTo.{FlowTo}
use Rattle.slnf_keys.specs.declared.values.Claim.{Claim}
use Rattle.slnf_keys.specs.Values.{flow_to_of, claim_of}
use Rattle.slnf_box.specs.Nat.{Nat}
use Rattle.slnf_nat.specs.Flights.{OutState, Look, Try, Confirm, Release, Last, InState, LookPort, LookFlow, SweepState, SweepPort, SweepFlow, Remove, NatFlight, Out, In, Sweep}
use Rattle.slnf_nat.specs.Machine.{looked, try_after, released, goes_out, claimed, entered, goes_in, swept, names, goes_sweep, nat_goes, nat_machine}

-- the rank of where an item stands; one that has ended has none
abbrev rank_at : (NatFlight → ℕ) → Stand NatFlight → ℕ
rank_at rank (Flies flight) = rank flight
rank_at rank (Ends end) = 0

-- how many accesses are left in a state, at most
abbrev out_rank : ℕ → OutState → ℕ
out_rank ports Look = ports + 3
out_rank ports (Try place) = (ports - (place + 1)) + 3
out_rank ports (Confirm place version) = 2
out_rank ports (Release place version port) = 1
out_rank ports Last = 1

abbrev in_rank : InState → ℕ
in_rank LookPort = 2
in_rank (LookFlow inside) = 1

abbrev sweep_rank : SweepState → ℕ
sweep_rank SweepPort = 3
sweep_rank (SweepFlow inside version) = 2
sweep_rank (Remove version) = 1

abbrev nat_rank : ℕ → NatFlight → ℕ
nat_rank ports (Out state i packet) = out_rank ports state
nat_rank ports (In state packet) = in_rank state
nat_rank ports (Sweep state proto port base) = sweep_rank state

looked_small : (ports : ℕ) (to : Option FlowTo) → rank_at (nat_rank ports) (stand_of_step (looked to)) ≤ 0
looked_small ports None = omega arith
looked_small ports (Some to) = omega arith

released_small : (ports i : ℕ) (packet : Packet) (place version : ℕ) (to : Option FlowTo) → rank_at (nat_rank ports)
    (stand_of_step (released i packet place version to)) ≤ 1
released_small ports i packet place version None = omega arith
released_small ports i packet place version (Some to) = omega arith

tried_small : (nat : Nat) (i : ℕ) (packet : Packet) (place : ℕ)
    → suc (rank_at (nat_rank nat.ports) (Flies (Out (try_after nat place) i packet))) ≤ (nat.ports - (place + 1)) + 3
tried_small nat i packet place = go (nat_lt (place + 1) nat.ports) refl
  where
    go : (b : Bool) → nat_lt (place + 1) nat.ports ≡ b
        → suc (out_rank nat.ports (cond b (Try (place + 1)) Last)) ≤ (nat.ports - (place + 1)) + 3
    go true w =
        let low : place + 1 < nat.ports = ltb-true (place + 1) nat.ports w in
        let r : suc (nat.ports - (place + 1 + 1) + 3) ≤ nat.ports - (place + 1) + 3 = omega (arith, low) in
        r
    go false w = omega arith

out_falls : (nat : Nat) → 0 < nat.ports → (i : ℕ) (packet : Packet) (state : OutState) (reply : Reply)
    → suc (rank_at (nat_rank nat.ports) (stand_of_step (goes_out nat i packet state reply))) ≤ out_rank nat.ports state
out_falls nat some i packet Look (Done stamp) = omega arith
out_falls nat some i packet Look (Found value stamp) = let r : rank_at (nat_rank nat.ports)
    (stand_of_step (looked (flow_to_of value.0))) ≤ 0 = looked_small nat.ports (flow_to_of value.0) in omega arith
out_falls nat some i packet Look Absent = let r : suc ((nat.ports - (0 + 1)) + 3) ≤ nat.ports + 3 = omega (arith, some) in r
out_falls nat some i packet (Try place) (Done stamp) = omega arith
out_falls nat some i packet (Try place) (Found value stamp) = tried_small nat i packet place
out_falls nat some i packet (Try place) Absent = omega arith
out_falls nat some i packet (Confirm place version) (Done stamp) = omega arith
out_falls nat some i packet (Confirm place version) (Found value stamp) =
    let r : rank_at (nat_rank nat.ports) (stand_of_step (released i packet place version (flow_to_of value.0))) ≤ 1 =
    released_small nat.ports i packet place version (flow_to_of value.0) in omega arith
out_falls nat some i packet (Confirm place version) Absent = omega arith
out_falls nat some i packet (Release place version port) reply = omega arith
out_falls nat some i packet Last (Done stamp) = omega arith
out_falls nat some i packet Last (Found value stamp) = let r : rank_at (nat_rank nat.ports)
    (stand_of_step (looked (flow_to_of value.0))) ≤ 0 = looked_small nat.ports (flow_to_of value.0) in omega arith
out_falls nat some i packet Last Absent = omega arith

claimed_small : (ports : ℕ) (packet : Packet) (claim : Option Claim) → rank_at (nat_rank ports)
    (stand_of_step (claimed packet claim)) ≤ 1
claimed_small ports packet None = omega arith
claimed_small ports packet (Some claim) = omega arith

entered_small : (ports : ℕ) (packet : Packet) (inside : Pair) (to : Option FlowTo) → rank_at (nat_rank ports)
    (stand_of_step (entered packet inside to)) ≤ 0
entered_small ports packet inside None = omega arith
entered_small ports packet inside (Some to) = omega arith

in_falls : (ports : ℕ) (packet : Packet) (state : InState) (reply : Reply)
    → suc (rank_at (nat_rank ports) (stand_of_step (goes_in packet state reply))) ≤ in_rank state
in_falls ports packet LookPort (Done stamp) = omega arith
in_falls ports packet LookPort (Found value stamp) =
    let r : rank_at (nat_rank ports) (stand_of_step (claimed packet (claim_of value.0))) ≤ 1 =
    claimed_small ports packet (claim_of value.0) in omega arith
in_falls ports packet LookPort Absent = omega arith
in_falls ports packet (LookFlow inside) (Done stamp) = omega arith
in_falls ports packet (LookFlow inside) (Found value stamp) =
    let r : rank_at (nat_rank ports) (stand_of_step (entered packet inside (flow_to_of value.0))) ≤ 0 =
    entered_small ports packet inside (flow_to_of value.0) in omega arith
in_falls ports packet (LookFlow inside) Absent = omega arith

swept_small : (ports : ℕ) (proto : Proto) (port : Pair) (base version : ℕ) (claim : Option Claim)
    → rank_at (nat_rank ports) (swept proto port base version claim) ≤ 2
swept_small ports proto port base version None = omega arith
swept_small ports proto port base version (Some claim) = go (nat_lt claim.incarnation base)
  where
    go : (b : Bool) → rank_at (nat_rank ports)
        (cond b (Flies (Sweep (SweepFlow claim.inside version) proto port base)) (Ends None)) ≤ 2
    go true = omega arith
    go false = omega arith

named_small : (ports : ℕ) (proto : Proto) (port : Pair) (base version : ℕ) (b : Bool) → rank_at (nat_rank ports)
    (cond b (Ends None) (Flies (Sweep (Remove version) proto port base))) ≤ 1
named_small ports proto port base version true = omega arith
named_small ports proto port base version false = omega arith

sweep_falls : (ports : ℕ) (proto : Proto) (port : Pair) (base : ℕ) (state : SweepState) (reply : Reply)
    → suc (rank_at (nat_rank ports) (goes_sweep proto port base state reply)) ≤ sweep_rank state
sweep_falls ports proto port base SweepPort (Done stamp) = omega arith
sweep_falls ports proto port base SweepPort (Found value stamp) =
    let r : rank_at (nat_rank ports) (swept proto port base stamp (claim_of value.0)) ≤ 2 =
    swept_small ports proto port base stamp (claim_of value.0) in omega arith
sweep_falls ports proto port base SweepPort Absent = omega arith
sweep_falls ports proto port base (SweepFlow inside version) (Done stamp) = omega arith
sweep_falls ports proto port base (SweepFlow inside version) (Found value stamp) = let r : rank_at (nat_rank ports)
    (cond (names port (flow_to_of value.0)) (Ends None) (Flies (Sweep (Remove version) proto port base))) ≤ 1 =
    named_small ports proto port base version (names port (flow_to_of value.0)) in omega arith
sweep_falls ports proto port base (SweepFlow inside version) Absent = omega arith
sweep_falls ports proto port base (Remove version) reply = omega arith

nat_falls : (nat : Nat) → 0 < nat.ports → (flight : NatFlight) (reply : Reply)
    → suc (rank_at (nat_rank nat.ports) (nat_goes nat flight reply)) ≤ nat_rank nat.ports flight
nat_falls nat some (Out state i packet) reply = out_falls nat some i packet state reply
nat_falls nat some (In state packet) reply = in_falls nat.ports packet state reply
nat_falls nat some (Sweep state proto port base) reply = sweep_falls nat.ports proto port base state reply

out_bound : (ports : ℕ) (state : OutState) → out_rank ports state ≤ ports + 3
out_bound ports Look = omega arith
out_bound ports (Try place) = omega arith
out_bound ports (Confirm place version) = omega arith
out_bound ports (Release place version port) = omega arith
out_bound ports Last = omega arith

in_bound : (state : InState) → in_rank state ≤ 2
in_bound LookPort = omega arith
in_bound (LookFlow inside) = omega arith

sweep_bound : (state : SweepState) → sweep_rank state ≤ 3
sweep_bound SweepPort = omega arith
sweep_bound (SweepFlow inside version) = omega arith
sweep_bound (Remove version) = omega arith

-- A path has no more entries than its first rank.
path_bound : (nat : Nat) → 0 < nat.ports → (stand : Stand NatFlight) (own : List Entry) →
    IsPath (nat_machine nat) stand own → length own ≤ rank_at (nat_rank nat.ports) stand
path_bound nat some stand [] path = omega arith
path_bound nat some (Flies flight) (e ∷ own) path =
    let fall : suc (rank_at (nat_rank nat.ports) (nat_goes nat flight e.reply)) ≤ nat_rank nat.ports flight =
    nat_falls nat some flight e.reply in
    let rest : length own ≤ rank_at (nat_rank nat.ports) (nat_goes nat flight e.reply) =
    path_bound nat some (nat_goes nat flight e.reply) own path.1 in
    omega arith
path_bound nat some (Ends end) (e ∷ own) path = absurd path.0

at_most : (a b c : ℕ) → a ≤ b → b ≤ c → a ≤ c
at_most a b c h k = omega arith

pub out_short : (nat : Nat) (state : OutState) (incarnation : ℕ) (packet : Packet) (own : List Entry)
    → 0 < nat.ports →
    IsPath (nat_machine nat) (Flies (Out state incarnation packet)) own → length own ≤ nat.ports + 3
out_short nat state incarnation packet own some path =
    at_most (length own) (out_rank nat.ports state) (nat.ports + 3)
    (path_bound nat some (Flies (Out state incarnation packet)) own path) (out_bound nat.ports state)

pub in_short : (nat : Nat) (state : InState) (packet : Packet) (own : List Entry) → 0 < nat.ports →
    IsPath (nat_machine nat) (Flies (In state packet)) own → length own ≤ 2
in_short nat state packet own some path =
    at_most (length own) (in_rank state) 2 (path_bound nat some (Flies (In state packet)) own path) (in_bound state)

pub sweep_short : (nat : Nat) (state : SweepState) (proto : Proto) (port : Pair) (base : ℕ) (own : List Entry) →
    0 < nat.ports → IsPath (nat_machine nat) (Flies (Sweep state proto port base)) own → length own ≤ 3
sweep_short nat state proto port base own some path =
    at_most (length own) (sweep_rank state) 3
    (path_bound nat some (Flies (Sweep state proto port base)) own path) (sweep_bound state)
