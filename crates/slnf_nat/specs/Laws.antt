-- What holds of each list of the NAT's paths.
use Rattle.std.specs.Prelude.{◌≡◌, ℕ, suc, ◌+◌, ◌≤◌, Some, None, List, [], ◌∷◌, ◌++◌, length, take, slice_get}
use Rattle.slnf_base.specs.declared.addresses.Pair.{Pair}
use Rattle.slnf_base.specs.declared.packets.Proto.{Proto}
use Rattle.slnf_base.specs.declared.packets.Packet.{Packet}
use Rattle.slnf_base.specs.declared.packets.Reason.TheVariants.{NoPort}
use Rattle.slnf_base.specs.declared.packets.Verdict.TheVariants.{Dropped}
use Rattle.slnf_base.specs.Ranges.{IsPair}
use Rattle.slnf_access.specs.declared.requests.Entry.{Entry}
use Rattle.slnf_access.specs.declared.requests.Held.{Held}
use Rattle.slnf_access.specs.declared.requests.Value.{Value}
use Rattle.slnf_access.specs.declared.requests.Reply.TheVariants.{Done, Found}
use Rattle.slnf_access.specs.Map.{key_of, Cells, empty, map_after}
use Rattle.slnf_access.specs.Machines.{Stand, Flies}
use Rattle.slnf_keys.specs.declared.values.Claim.{Claim}
use Rattle.slnf_keys.specs.Values.{flow_to_of, claim_of}
use Rattle.slnf_run.specs.Scene.{own_of, stand_of}
use Rattle.slnf_run.specs.Visits.{Decision, decision_at}
use Rattle.slnf_run.specs.Boxes.{content_after}
use Rattle.slnf_box.specs.Nat.{Nat}
use Rattle.slnf_box.specs.NatBox.{nat_verdict, nat_box}
use Rattle.slnf_nat.specs.Flights.{NatFlight, Look, Release, Out}
use Rattle.slnf_nat.specs.Machine.{flow_key, port_key}
use Rattle.slnf_nat.specs.StoredFlows.{flow_at}
use Rattle.slnf_nat.specs.NatScene.{nat_place, nat_arrival, nat_scene}
use Rattle.slnf_nat.specs.Starved.{IsStarved}

-- Each decided packet has a place, and the box gives it its verdict there.
abbrev pub BoxDecides : Nat → (ℕ → ℕ → Stand NatFlight) → List Entry → Type 0
BoxDecides nat begins es =
    (number : ℕ) (decision : Decision NatFlight) → decision_at (nat_scene nat begins) es number ≡ Some decision →
    let place : ℕ = nat_place es number decision.first decision.verdict in
    (e : Entry) × (slice_get es place ≡ Some e)
    × (nat_verdict nat (content_after (nat_scene nat begins) (nat_box nat) es place) (nat_arrival decision.first e)
    ≡ decision.verdict)

-- After each prefix no two live flows of a protocol have one outside pair.
abbrev pub FlowsApart : List Entry → Type 0
FlowsApart es =
    (size : ℕ) (proto : Proto) (a b outside : Pair) → size ≤ length es → IsPair a → IsPair b →
    flow_at (map_after empty (take size es)) proto a ≡ Some outside →
    flow_at (map_after empty (take size es)) proto b ≡ Some outside → a ≡ b

-- A flow that is live before and after an entry keeps its outside pair.
abbrev pub PairsStay : List Entry → Type 0
PairsStay es =
    (before later : List Entry) (e : Entry) (proto : Proto) (inside outside next : Pair) → es ≡ before ++ e ∷ later →
    IsPair inside → flow_at (map_after empty before) proto inside ≡ Some outside →
    flow_at (map_after empty (before ++ e ∷ [])) proto inside ≡ Some next → next ≡ outside

-- An item is a packet on its way out with this protocol and source.
abbrev pub HasSource : (ℕ → ℕ → Stand NatFlight) → Proto → Pair → Type 0
HasSource begins proto inside =
    (i k j : ℕ) × (packet : Packet) × (begins i k ≡ Flies (Out Look j packet)) × (packet.proto ≡ proto)
    × (packet.source ≡ inside)

-- Each claim in the map names the source of a packet on its way out, of the claim's protocol.
abbrev pub HaveSources : (ℕ → ℕ → Stand NatFlight) → Cells → Type 0
HaveSources begins cells =
    (proto : Proto) (port : Pair) (claim : Claim) (held : Held) → IsPair port →
    cells (port_key proto port) ≡ Some held → claim_of held.value.0 ≡ Some claim → HasSource begins proto claim.inside

-- A packet is decided to have no port only where it is starved by its entries so far.
abbrev pub NoPortStarves : Nat → (ℕ → ℕ → Stand NatFlight) → List Entry → Type 0
NoPortStarves nat begins es =
    (number : ℕ) (e : Entry) (decision : Decision NatFlight) → slice_get es number ≡ Some e →
    decision_at (nat_scene nat begins) es number ≡ Some decision → decision.verdict ≡ Dropped NoPort →
    (incarnation : ℕ) × (packet : Packet) × (decision.first ≡ Out Look incarnation packet)
    × IsStarved nat incarnation packet (own_of e.incarnation e.item (take (suc number) es))

-- The reply to a release is Done.
abbrev pub ReleasesDone : Nat → (ℕ → ℕ → Stand NatFlight) → List Entry → Type 0
ReleasesDone nat begins es =
    (before later : List Entry) (e : Entry) (place version incarnation : ℕ) (port : Pair) (packet : Packet) →
    es ≡ before ++ e ∷ later →
    stand_of (nat_scene nat begins) e.incarnation e.item before
    ≡ Flies (Out (Release place version port) incarnation packet) →
    e.reply ≡ Done e.stamp

-- What is found at a flow's key is a flow's record.
abbrev pub FlowsWell : List Entry → Type 0
FlowsWell es =
    (before later : List Entry) (e : Entry) (value : Value) (version : ℕ) (proto : Proto) (inside : Pair) →
    es ≡ before ++ e ∷ later → e.reply ≡ Found value version → key_of e.request ≡ flow_key proto inside →
    IsPair inside → flow_to_of value.0 ≡ None → ⊥

-- What is found at a port's key is a claim.
abbrev pub ClaimsWell : List Entry → Type 0
ClaimsWell es =
    (before later : List Entry) (e : Entry) (value : Value) (version : ℕ) (proto : Proto) (port : Pair) →
    es ≡ before ++ e ∷ later → e.reply ≡ Found value version → key_of e.request ≡ port_key proto port →
    IsPair port → claim_of value.0 ≡ None → ⊥
