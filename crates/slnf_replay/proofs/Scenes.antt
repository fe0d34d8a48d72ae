-- In a plan's scene: where packets have their places, what the box sees of them, and which of them are decided.
use Rattle.std.proofs.Common.{◌≡◌, ℕ, Bool, true, false, not, ◌&&◌, cond, Option, Some, None, List, [], slice_get, refl, sym, ap}
use Rattle.std.specs.Prelude.{is_some}
use Rattle.slnf_base.specs.declared.packets.Packet.{Packet}
use Rattle.slnf_base.specs.declared.packets.Reason.TheVariants.{Neither}
use Rattle.slnf_base.specs.declared.packets.Verdict.{Verdict}
use Rattle.slnf_access.specs.declared.requests.Entry.{Entry}
use Rattle.slnf_access.specs.declared.functions.Start.TheVariants.{Go as StartGo, Over as StartOver}
use Rattle.slnf_plan.specs.declared.plan.Epoch.{Epoch}
use Rattle.slnf_plan.specs.declared.plan.FunctionPlan.{FunctionPlan}
use Rattle.slnf_plan.specs.declared.plan.FunctionPlan.TheVariants.{Nat, Firewall, Balancer}
use Rattle.slnf_run.specs.Looks.{first_of_own, looking_back}
use Rattle.slnf_run.specs.Cases.{case_place, start_as}
use Rattle.slnf_run.specs.Steady.{HasOwnPlaces}
use Rattle.slnf_run.specs.OneBox.{HasPlaces}
use Rattle.slnf_run.proofs.LookingBack.{own_looking}
use Rattle.slnf_run.proofs.Whole.{places_looking}
use Rattle.slnf_box.specs.Packets.{crosses}
use Rattle.slnf_box.specs.Pools.{is_outbound, is_inbound}
use Rattle.slnf_box.specs.Services.{is_forward, is_return}
use Rattle.slnf_box.specs.declared.policies.Policy.{Policy}
use Rattle.slnf_nat.specs.declared.flights.OutState.TheVariants.{Look, Try, Confirm, Release, Last}
use Rattle.slnf_nat.specs.declared.flights.InState.TheVariants.{LookPort, LookFlow}
use Rattle.slnf_nat.specs.Flights.{NatFlight, Out, In, Sweep}
use Rattle.slnf_nat.specs.NatScene.{looks_back, is_no_flow}
use Rattle.slnf_fw.specs.declared.flights.FwState.{FwState}
use Rattle.slnf_fw.specs.declared.flights.FwState.TheVariants.{Look as FwLook, Add, Alter}
use Rattle.slnf_fw.specs.Flight.{Flying as FwFlying}
use Rattle.slnf_fw.specs.Machine.{asks_in as fw_asks_in}
use Rattle.slnf_lb.specs.declared.flights.LbState.{LbState}
use Rattle.slnf_lb.specs.declared.flights.LbState.TheVariants.{Forward, Put, Return}
use Rattle.slnf_lb.specs.Flight.{Flying as LbFlying}
use Rattle.slnf_lb.specs.Machine.{asks_in as lb_asks_in}
use Rattle.slnf_flight.specs.declared.flights.AnyFlight.{AnyFlight}
use Rattle.slnf_flight.specs.declared.flights.AnyFlight.TheVariants.{Nat as NatFlies, Firewall as FwFlies, Balancer as LbFlies}
use Rattle.slnf_flight.specs.declared.lanes.Lane.{Lane}
use Rattle.slnf_flight.specs.AnyFunction.{any_machine, any_starts}
use Rattle.slnf_flight.specs.Flights.{nat_flight, fw_flight, lb_flight, IsPacketFlight}
use Rattle.slnf_flight.specs.FwPlan.{policy_with}
use Rattle.slnf_flight.specs.PlanSetting.{nat_own, fw_own, lb_own, scene_of}
use Rattle.slnf_replay.specs.Boxes.{arrival_of}
use Rattle.slnf_replay.specs.Follows.{is_delete}
use Rattle.slnf_replay.specs.Packets.{choice_at, has_first_place}

-- which packets have their first entry as their place
abbrev nat_looks : Option NatFlight → Verdict → Bool
nat_looks None verdict = false
nat_looks (Some first) verdict = looks_back first verdict

abbrev pub looks : FunctionPlan → AnyFlight → Verdict → Bool
looks (Nat pool) first verdict = nat_looks (nat_flight first) verdict
looks (Firewall inside rules) first verdict = false
looks (Balancer service) first verdict = false

pub place_is : (f : FunctionPlan) (epochs : List Epoch) (lanes : List Lane) (es : List Entry) (d : ℕ)
    (first : AnyFlight) (v : Verdict) → (scene_of f epochs lanes).place es d first v
    ≡ looking_back (looks f) es d first v
place_is (Nat pool) epochs lanes es d first v = go (nat_flight first)
  where
    go : (own : Option NatFlight) → case_place (nat_own pool epochs lanes) es d own v
        ≡ cond (nat_looks own v) (first_of_own es d (slice_get es d)) d
    go None = refl
    go (Some flight) = refl
place_is (Firewall inside rules) epochs lanes es d first v = go (fw_flight first)
  where
    go : (own : Option FwFlying) → case_place (fw_own (policy_with inside rules) epochs lanes) es d own v ≡ d
    go None = refl
    go (Some flight) = refl
place_is (Balancer service) epochs lanes es d first v = go (lb_flight first)
  where
    go : (own : Option LbFlying) → case_place (lb_own service epochs lanes) es d own v ≡ d
    go None = refl
    go (Some flight) = refl

-- places are the packets' own, and not behind their deciding entries
pub own_places : (f : FunctionPlan) (epochs : List Epoch) (lanes : List Lane) (es : List Entry) →
    HasOwnPlaces (scene_of f epochs lanes) es
own_places f epochs lanes es =
    own_looking (scene_of f epochs lanes) (looks f) es (λ es d first v. place_is f epochs lanes es d first v)

pub has_places : (f : FunctionPlan) (epochs : List Epoch) (lanes : List Lane) (es : List Entry) →
    HasPlaces (scene_of f epochs lanes) es
has_places f epochs lanes es =
    places_looking (scene_of f epochs lanes) (looks f) es (λ es d first v. place_is f epochs lanes es d first v)

-- no box sees a removal
pub no_removals : (f : FunctionPlan) (epochs : List Epoch) (lanes : List Lane) (e : Entry) →
    (scene_of f epochs lanes).removals e ≡ []
no_removals (Nat pool) epochs lanes e = refl
no_removals (Firewall inside rules) epochs lanes e = refl
no_removals (Balancer service) epochs lanes e = refl

-- What holds of the flight with which a NAT's, a firewall's or a balancer's packet starts holds of the one that it
-- starts with.
nat_first : (P : AnyFlight → Type 0) (out coming : Bool) (incarnation : ℕ) (packet : Packet) (first : AnyFlight) →
    start_as NatFlies (cond out (StartGo (Out Look incarnation packet))
    (cond coming (StartGo (In LookPort packet)) (StartOver Neither))) ≡ StartGo first →
    (out ≡ true → P (NatFlies (Out Look incarnation packet))) → (out ≡ false → P (NatFlies (In LookPort packet))) →
    P first
nat_first P true coming incarnation packet first h p q =
    let same : NatFlies (Out Look incarnation packet) ≡ first = cc in rw (← same) (p refl)
nat_first P false true incarnation packet first h p q =
    let same : NatFlies (In LookPort packet) ≡ first = cc in rw (← same) (q refl)
nat_first P false false incarnation packet first h p q = absurd (cc)

fw_first : (P : AnyFlight → Type 0) (passes : Bool) (flight : FwFlying) (first : AnyFlight) →
    start_as FwFlies (cond passes (StartGo flight) (StartOver Neither)) ≡ StartGo first → P (FwFlies flight) → P first
fw_first P true flight first h p = let same : FwFlies flight ≡ first = cc in rw (← same) p
fw_first P false flight first h p = absurd (cc)

lb_first : (P : AnyFlight → Type 0) (forward back : Bool) (a b : LbFlying) (first : AnyFlight) →
    start_as LbFlies (cond forward (StartGo a) (cond back (StartGo b) (StartOver Neither))) ≡ StartGo first →
    P (LbFlies a) → P (LbFlies b) → P first
lb_first P true back a b first h p q = let same : LbFlies a ≡ first = cc in rw (← same) p
lb_first P false true a b first h p q = let same : LbFlies b ≡ first = cc in rw (← same) q
lb_first P false false a b first h p q = absurd (cc)

-- which packets have their first entry as their place, by the packet
pub looks_first : (f : FunctionPlan) (epoch : Option Epoch) (i k : ℕ) (packet : Packet) (first : AnyFlight)
    (v : Verdict) → any_starts f epoch i k packet ≡ StartGo first → looks f first v ≡ has_first_place f packet v
looks_first (Nat pool) epoch i k packet first v h =
    nat_first (λ first. nat_looks (nat_flight first) v ≡ (not (is_outbound pool packet) && is_no_flow v))
    (is_outbound pool packet) (is_inbound pool packet) i packet first h
    (λ w. ap (λ b. not b && is_no_flow v) (sym w)) (λ w. ap (λ b. not b && is_no_flow v) (sym w))
looks_first (Firewall inside rules) epoch i k packet first v h = refl
looks_first (Balancer service) epoch i k packet first v h = refl

-- what the box sees of a packet at an entry of its own
pub arrival_is : (f : FunctionPlan) (epochs : List Epoch) (lanes : List Lane) (epoch : Option Epoch) (packet : Packet)
    (e : Entry) (first : AnyFlight) → any_starts f epoch e.incarnation e.item packet ≡ StartGo first →
    (scene_of f epochs lanes).arrival first e ≡ arrival_of packet (choice_at f epoch packet e)
arrival_is (Nat pool) epochs lanes epoch packet e first h =
    nat_first (λ first. (scene_of (Nat pool) epochs lanes).arrival first e
    ≡ arrival_of packet (choice_at (Nat pool) epoch packet e))
    (is_outbound pool packet) (is_inbound pool packet) e.incarnation packet first h (λ w. refl) (λ w. refl)
arrival_is (Firewall inside rules) epochs lanes epoch packet e first h =
    fw_first (λ first. (scene_of (Firewall inside rules) epochs lanes).arrival first e
    ≡ arrival_of packet (choice_at (Firewall inside rules) epoch packet e))
    (crosses (policy_with inside rules) packet) _ first h refl
arrival_is (Balancer service) epochs lanes epoch packet e first h =
    lb_first (λ first. (scene_of (Balancer service) epochs lanes).arrival first e
    ≡ arrival_of packet (choice_at (Balancer service) epoch packet e))
    (is_forward service packet) (is_return service packet) _ _ first h refl refl

-- a packet that flies is decided where it has only something to take away
fw_no_delete : (policy : Policy) (state : FwState) (packet : Packet) → false
    ≡ is_delete (fw_asks_in policy state packet)
fw_no_delete policy FwLook packet = refl
fw_no_delete policy (Add tracked) packet = refl
fw_no_delete policy (Alter version tracked) packet = refl

lb_no_delete : (flight : LbFlying) (state : LbState) → false ≡ is_delete (lb_asks_in state flight.packet flight.choice)
lb_no_delete flight Forward = refl
lb_no_delete flight Put = refl
lb_no_delete flight Return = refl

pub decided_is : (f : FunctionPlan) (flight : AnyFlight) → IsPacketFlight flight →
    is_some ((any_machine f).decided flight) ≡ is_delete ((any_machine f).asks flight)
decided_is (Nat pool) (NatFlies (Out Look incarnation packet)) is = refl
decided_is (Nat pool) (NatFlies (Out (Try place) incarnation packet)) is = refl
decided_is (Nat pool) (NatFlies (Out (Confirm place version) incarnation packet)) is = refl
decided_is (Nat pool) (NatFlies (Out (Release place version port) incarnation packet)) is = refl
decided_is (Nat pool) (NatFlies (Out Last incarnation packet)) is = refl
decided_is (Nat pool) (NatFlies (In LookPort packet)) is = refl
decided_is (Nat pool) (NatFlies (In (LookFlow inside) packet)) is = refl
decided_is (Nat pool) (NatFlies (Sweep state proto port base)) is = absurd is
decided_is (Nat pool) (FwFlies flight) is = refl
decided_is (Nat pool) (LbFlies flight) is = refl
decided_is (Firewall inside rules) (NatFlies flight) is = refl
decided_is (Firewall inside rules) (FwFlies flight) is =
    fw_no_delete (policy_with inside rules) flight.state flight.packet
decided_is (Firewall inside rules) (LbFlies flight) is = refl
decided_is (Balancer service) (NatFlies flight) is = refl
decided_is (Balancer service) (FwFlies flight) is = refl
decided_is (Balancer service) (LbFlies flight) is = lb_no_delete flight flight.state

-- and it is decided at its deciding entry then
no_flow_not : (out : Bool) → (not out && false) ≡ false
no_flow_not true = refl
no_flow_not false = refl

pub decided_here : (f : FunctionPlan) (flight : AnyFlight) (packet : Packet) (v : Verdict) →
    (any_machine f).decided flight ≡ Some v → has_first_place f packet v ≡ false
decided_here (Nat pool) (NatFlies (Out Look incarnation other)) packet v h = absurd (cc)
decided_here (Nat pool) (NatFlies (Out (Try place) incarnation other)) packet v h = absurd (cc)
decided_here (Nat pool) (NatFlies (Out (Confirm place version) incarnation other)) packet v h = absurd (cc)
decided_here (Nat pool) (NatFlies (Out (Release place version port) incarnation other)) packet v h =
    let same : _ ≡ v = Rattle.std.proofs.lemmas.Option.same_Some _ v h in
    rw (← same) (no_flow_not (is_outbound pool packet))
decided_here (Nat pool) (NatFlies (Out Last incarnation other)) packet v h = absurd (cc)
decided_here (Nat pool) (NatFlies (In state other)) packet v h = absurd (cc)
decided_here (Nat pool) (NatFlies (Sweep state proto port base)) packet v h = absurd (cc)
decided_here (Nat pool) (FwFlies flight) packet v h = absurd (cc)
decided_here (Nat pool) (LbFlies flight) packet v h = absurd (cc)
decided_here (Firewall inside rules) flight packet v h = refl
decided_here (Balancer service) flight packet v h = refl
