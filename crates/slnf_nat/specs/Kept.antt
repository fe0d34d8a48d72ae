-- What holds after each prefix of a list of the NAT's entries.
use Rattle.std.specs.Prelude.{◌≡◌, ◌⊎◌, ℕ, ◌<◌, ◌≤◌, Option, Some, None, List, [], ◌∷◌}
use Rattle.slnf_base.specs.declared.addresses.Pair.{Pair}
use Rattle.slnf_base.specs.declared.packets.Proto.{Proto}
use Rattle.slnf_base.specs.declared.packets.Packet.{Packet}
use Rattle.slnf_access.specs.declared.requests.Entry.{Entry}
use Rattle.slnf_access.specs.declared.requests.Held.{Held}
use Rattle.slnf_access.specs.Map.{key_of, Cells}
use Rattle.slnf_access.specs.Machines.{Stand, Flies}
use Rattle.slnf_keys.specs.declared.values.Claim.{Claim}
use Rattle.slnf_base.specs.Ranges.{IsPair}
use Rattle.slnf_keys.specs.Values.{claim_of}
use Rattle.slnf_box.specs.Nat.{Nat}
use Rattle.slnf_box.specs.NatBox.{Flow, pair_of, owner}
use Rattle.slnf_nat.specs.Flights.{OutState, Look, Try, Confirm, Release, Last, InState, LookPort, LookFlow, SweepState, SweepPort, SweepFlow, Remove, NatFlight, Out, In, Sweep, first_of}
use Rattle.slnf_nat.specs.Machine.{flow_key, port_key, tried}
use Rattle.slnf_nat.specs.StoredFlows.{flow_at}
use Rattle.std.specs.List.{AllByRecursion}

-- one of these entries has this
abbrev pub SomeEntry : (Entry → Type 0) → List Entry → Type 0
SomeEntry P [] = ⊥
SomeEntry P (e ∷ es) = P e ⊎ SomeEntry P es

-- a version is the stamp of an entry on the key
abbrev pub IsStampOn : List Entry → ℕ → ℕ → Type 0
IsStampOn es key version = SomeEntry (λ f. (key_of f.request ≡ key) × (f.stamp ≡ version)) es

-- and of this item's entry
abbrev pub IsStampBy : List Entry → ℕ → ℕ → ℕ → ℕ → Type 0
IsStampBy es key version incarnation item =
    SomeEntry (λ f. (key_of f.request ≡ key) × (f.stamp ≡ version) × (f.incarnation ≡ incarnation)
    × (f.item ≡ item)) es

-- The incarnation is at or above the base of each epoch that has an entry so far.
abbrev pub IsCurrent : (ℕ → ℕ) → List Entry → ℕ → Type 0
IsCurrent base_at es incarnation = AllByRecursion (λ f. base_at f.incarnation ≤ incarnation) es

-- a port has this claim with this version
pub record IsClaimed (cells : Cells) (proto : Proto) (port : Pair) (version incarnation : ℕ)
    (inside : Pair) : Type 0 where
  pub held : Held
  pub there : cells (port_key proto port) ≡ Some held
  pub since : held.version ≡ version
  pub claim : claim_of held.value.0 ≡ Some (record { incarnation = incarnation; inside = inside })

-- no live flow of the protocol has this pair
abbrev pub IsUnnamed : Cells → Proto → Pair → Type 0
IsUnnamed cells proto port = (inside : Pair) → IsPair inside → flow_at cells proto inside ≡ Some port → ⊥

-- a flight's own claim stands, by its own entry, and no live flow has its pair
pub record IsOwned (es : List Entry) (cells : Cells) (incarnation item : ℕ) (proto : Proto) (port : Pair)
    (version : ℕ) (inside : Pair) : Type 0 where
  pub claimed : IsClaimed cells proto port version incarnation inside
  pub made : IsStampBy es (port_key proto port) version incarnation item
  pub unnamed : IsUnnamed cells proto port

-- a claim of an incarnation below the base
abbrev pub IsOldClaim : ℕ → Held → Pair → Type 0
IsOldClaim base held inside = (j : ℕ) × (j < base)
    × (claim_of held.value.0 ≡ Some (record { incarnation = j; inside = inside }))

-- what a sweep that has seen a version knows: it is the stamp of an entry on its port's key, and its epoch has begun
pub record HasSeen (base_at : ℕ → ℕ) (es : List Entry) (proto : Proto) (port : Pair) (base version : ℕ) : Type 0 where
  pub stamped : IsStampOn es (port_key proto port) version
  pub begun : SomeEntry (λ f. base ≤ base_at f.incarnation) es

-- what holds of a packet on its way out in its state
abbrev pub HoldsOut : Nat → (ℕ → ℕ) → List Entry → Cells → ℕ → ℕ → Packet → OutState → Type 0
HoldsOut nat base_at es cells i k packet Look = Unit {0}
HoldsOut nat base_at es cells i k packet (Try place) = place < nat.ports
HoldsOut nat base_at es cells i k packet (Confirm place version) =
    (place < nat.ports) × (IsCurrent base_at es i → IsOwned es cells i k packet.proto
    (tried nat packet place) version packet.source)
HoldsOut nat base_at es cells i k packet (Release place version port) =
    IsCurrent base_at es i → IsOwned es cells i k packet.proto (tried nat packet place) version packet.source
HoldsOut nat base_at es cells i k packet Last = Unit {0}

-- what holds of a packet on its way in in its state
abbrev pub HoldsIn : InState → Type 0
HoldsIn LookPort = Unit {0}
HoldsIn (LookFlow inside) = IsPair inside

-- what holds of a sweep in its state
abbrev pub HoldsSweep : (ℕ → ℕ) → List Entry → Cells → Proto → Pair → ℕ → SweepState → Type 0
HoldsSweep base_at es cells proto port base SweepPort = Unit {0}
HoldsSweep base_at es cells proto port base (SweepFlow inside version) =
    HasSeen base_at es proto port base version
    × ((held : Held) → cells (port_key proto port) ≡ Some held → held.version ≡ version → IsOldClaim base held inside)
HoldsSweep base_at es cells proto port base (Remove version) =
    HasSeen base_at es proto port base version
    × ((held : Held) → cells (port_key proto port) ≡ Some held → held.version
    ≡ version → ((inside : Pair) × IsOldClaim base held inside) × IsUnnamed cells proto port)

abbrev pub Holds : Nat → (ℕ → ℕ) → List Entry → Cells → ℕ → ℕ → NatFlight → Type 0
Holds nat base_at es cells i k (Out state incarnation packet) = HoldsOut nat base_at es cells i k packet state
Holds nat base_at es cells i k (In state packet) = HoldsIn state
Holds nat base_at es cells i k (Sweep state proto port base) = HoldsSweep base_at es cells proto port base state

-- The map: each version in it is the stamp of an entry on that key, and an entry on a key with a stamp is one item's.
pub record HasStamps (es : List Entry) (cells : Cells) : Type 0 where
  pub versions : (key : ℕ) (held : Held) → cells key ≡ Some held → IsStampOn es key held.version
  pub makers : (key version i k j l : ℕ) → IsStampBy es key version i k → IsStampBy es key version j l
      → (i ≡ j) × (k ≡ l)

-- what is read of what the store has at a port's key
abbrev pub claim_in : Option Held → Option Claim
claim_in None = None
claim_in (Some held) = claim_of held.value.0

-- The live flows: what a flow's key has is a flow's record, whose pair is one of the flow's candidates and has a claim with
-- the flow's inside pair. What a port's key has is a claim.
pub record IsLive (nat : Nat) (cells : Cells) : Type 0 where
  pub whole : (proto : Proto) (inside : Pair) → IsPair inside → flow_at cells proto inside ≡ None
      → cells (flow_key proto inside) ≡ None
  pub ports_whole : (proto : Proto) (port : Pair) → IsPair port → claim_in (cells (port_key proto port)) ≡ None
      → cells (port_key proto port) ≡ None
  pub candidates : (proto : Proto) (inside port : Pair) → IsPair inside → flow_at cells proto inside ≡ Some port
      → (place : ℕ) × (place < nat.ports) × (nat.candidate proto inside place ≡ port)
  pub claims : (proto : Proto) (inside port : Pair) → IsPair inside → flow_at cells proto inside ≡ Some port
      → (version j : ℕ) × IsClaimed cells proto port version j inside

-- The flights, each with how it began and what holds of it.
pub record IsFlying (nat : Nat) (base_at : ℕ → ℕ) (begins : ℕ → ℕ → Stand NatFlight) (es : List Entry) (cells : Cells)
    (stand : ℕ → ℕ → Stand NatFlight) : Type 0 where
  pub begun : (i k : ℕ) (flight : NatFlight) → stand i k ≡ Flies flight → begins i k ≡ Flies (first_of flight)
  pub holds : (i k : ℕ) (flight : NatFlight) → stand i k ≡ Flies flight → Holds nat base_at es cells i k flight

-- The box: it has the live flows, and finds each by its outside pair too.
pub record IsBoxed (flows : List Flow) (cells : Cells) : Type 0 where
  pub agrees : (proto : Proto) (inside : Pair) → IsPair inside
      → pair_of flows proto inside ≡ flow_at cells proto inside
  pub fits : (proto : Proto) (inside port : Pair) → pair_of flows proto inside ≡ Some port → IsPair inside
  pub back : (proto : Proto) (inside port : Pair) → owner flows proto port ≡ Some inside
      → pair_of flows proto inside ≡ Some port
  pub forth : (proto : Proto) (inside port : Pair) → pair_of flows proto inside ≡ Some port
      → owner flows proto port ≡ Some inside

-- The invariant: these entries made this map, each item stands so, and the box keeps these flows.
pub record IsNatKept (nat : Nat) (base_at : ℕ → ℕ) (begins : ℕ → ℕ → Stand NatFlight) (es : List Entry)
    (cells : Cells) (stand : ℕ → ℕ → Stand NatFlight) (flows : List Flow) : Type 0 where
  pub stamped : HasStamps es cells
  pub live : IsLive nat cells
  pub flying : IsFlying nat base_at begins es cells stand
  pub boxed : IsBoxed flows cells
