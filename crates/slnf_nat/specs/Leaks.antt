-- Nothing leaks: what is asked of a list for it, and what holds of the map.
use Rattle.std.specs.Prelude.{◌≡◌, ◌⊎◌, ℕ, ◌<◌, ◌≤◌, true, Some, None, List, length, take, drop}
use Rattle.slnf_base.specs.declared.addresses.Pair.{Pair}
use Rattle.slnf_base.specs.declared.packets.Proto.{Proto}
use Rattle.slnf_base.specs.declared.packets.Packet.{Packet}
use Rattle.slnf_access.specs.declared.requests.Entry.{Entry}
use Rattle.slnf_access.specs.declared.requests.Held.{Held}
use Rattle.slnf_access.specs.Map.{Cells}
use Rattle.slnf_access.specs.Machines.{Stand, Flies, Ends, HasEnded}
use Rattle.slnf_keys.specs.declared.values.Claim.{Claim}
use Rattle.slnf_base.specs.Ranges.{IsPair}
use Rattle.slnf_keys.specs.Values.{claim_of}
use Rattle.slnf_run.specs.Scene.{stand_of}
use Rattle.slnf_box.specs.Nat.{Nat}
use Rattle.slnf_nat.specs.Flights.{Look, Try, Confirm, Release, Last, NatFlight, Out, In, Sweep, SweepPort}
use Rattle.slnf_nat.specs.Machine.{flow_key, port_key, tried}
use Rattle.slnf_nat.specs.StoredFlows.{flow_at}
use Rattle.slnf_nat.specs.NatScene.{nat_scene}
use Rattle.slnf_nat.specs.Kept.{IsUnnamed, IsOldClaim}
use Rattle.std.specs.List.{AllByRecursion}

-- a packet on its way out has this protocol
abbrev pub IsUsed : (ℕ → ℕ → Stand NatFlight) → Proto → Type 0
IsUsed begins proto = (i k j : ℕ) × (packet : Packet) × (begins i k ≡ Flies (Out Look j packet))
    × (packet.proto ≡ proto)

-- Each port of the pool, of each protocol that is used, has an item of a sweep that has ended after these entries, with
-- this base or a later one.
abbrev pub HasSwept : Nat → (ℕ → ℕ → Stand NatFlight) → List Entry → ℕ → Type 0
HasSwept nat begins es base =
    (proto : Proto) (port : Pair) → IsPair port → nat.has port ≡ true → IsUsed begins proto →
    (i k own : ℕ) × (base ≤ own) × (begins i k ≡ Flies (Sweep SweepPort proto port own))
    × HasEnded (stand_of (nat_scene nat begins) i k es)

-- The item is between its claim and the end of it: it has claimed this port at this stamp, and has yet to confirm or release it.
abbrev pub Hangs : Nat → Proto → Pair → Pair → ℕ → Stand NatFlight → Type 0
Hangs nat proto port inside since (Flies (Out Look i packet)) = ⊥
Hangs nat proto port inside since (Flies (Out (Try place) i packet)) = ⊥
Hangs nat proto port inside since (Flies (Out (Confirm place version) i packet)) =
    (packet.proto ≡ proto) × (packet.source ≡ inside) × (tried nat packet place ≡ port) × (version ≡ since)
Hangs nat proto port inside since (Flies (Out (Release place version to) i packet)) =
    (packet.proto ≡ proto) × (packet.source ≡ inside) × (tried nat packet place ≡ port) × (version ≡ since)
Hangs nat proto port inside since (Flies (Out Last i packet)) = ⊥
Hangs nat proto port inside since (Flies (In state packet)) = ⊥
Hangs nat proto port inside since (Flies (Sweep state q p base)) = ⊥
Hangs nat proto port inside since (Ends end) = ⊥

-- No item of an incarnation at or above the base hangs between its claim and the end of it.
abbrev pub IsSettled : Nat → (ℕ → ℕ → Stand NatFlight) → ℕ → List Entry → Type 0
IsSettled nat begins base es =
    (i k : ℕ) (proto : Proto) (port inside : Pair) (since : ℕ) → base ≤ i → Hangs nat proto port inside since
    (stand_of (nat_scene nat begins) i k es) → ⊥

-- an item that is a packet on its way out
abbrev pub IsOutward : Stand NatFlight → Type 0
IsOutward (Flies (Out state incarnation packet)) = Unit {0}
IsOutward (Flies (In state packet)) = ⊥
IsOutward (Flies (Sweep state proto port base)) = ⊥
IsOutward (Ends end) = ⊥

-- No entry of an incarnation at or above the base is a packet's on its way out.
abbrev pub IsSweepAlone : (ℕ → ℕ → Stand NatFlight) → ℕ → List Entry → Type 0
IsSweepAlone begins base es = AllByRecursion (λ f. base ≤ f.incarnation → IsOutward
    (begins f.incarnation f.item) → ⊥) es

-- a port has this claim
pub record HasClaim (cells : Cells) (proto : Proto) (port : Pair) (claim : Claim) : Type 0 where
  pub held : Held
  pub there : cells (port_key proto port) ≡ Some held
  pub reads : claim_of held.value.0 ≡ Some claim

-- Each claim of an incarnation below the base is on a port of the pool, and has its flow's record, which names the port.
abbrev pub IsTidy : Nat → Cells → ℕ → Type 0
IsTidy nat cells base =
    (proto : Proto) (port : Pair) (claim : Claim) → IsPair port → HasClaim cells proto port claim → claim.incarnation < base →
    (nat.has port ≡ true) × IsPair claim.inside × (flow_at cells proto claim.inside ≡ Some port)

-- Each live flow's port has a claim with that flow's inside pair, and is one of the pool.
abbrev pub IsBacked : Nat → Cells → Type 0
IsBacked nat cells =
    (proto : Proto) (inside : Pair) (held : Held) → IsPair inside → cells (flow_key proto inside) ≡ Some held →
    (port : Pair) × (j : ℕ) × (flow_at cells proto inside ≡ Some port) × IsPair port × (nat.has port ≡ true)
    × HasClaim cells proto port (record { incarnation = j; inside = inside })

-- Claims and live flows correspond one to one.
pub record IsOneToOne (nat : Nat) (cells : Cells) : Type 0 where
  -- what a port's key has is a claim, whose flow is live with that port
  pub flow : (proto : Proto) (port : Pair) (held : Held) → IsPair port → cells (port_key proto port) ≡ Some held
      → (claim : Claim) × HasClaim cells proto port claim × IsPair claim.inside
      × (flow_at cells proto claim.inside ≡ Some port)
  -- what a flow's key has is a record, whose port has a claim with that flow's inside pair
  pub claim : IsBacked nat cells
  -- and no other port of the protocol has a claim with it
  pub one : (proto : Proto) (port other : Pair) (a b : Claim) → IsPair port → IsPair other
      → HasClaim cells proto port a → HasClaim cells proto other b → a.inside ≡ b.inside → port ≡ other

-- What a sweep takes away: its own port's claim, of an incarnation below its base, whose port no live flow of the protocol names.
pub record IsSweptAway (cells next : Cells) (proto : Proto) (port : Pair) (base : ℕ) : Type 0 where
  pub held : Held
  pub there : cells (port_key proto port) ≡ Some held
  pub gone : next (port_key proto port) ≡ None
  pub inside : Pair
  pub below : IsOldClaim base held inside
  pub unnamed : IsUnnamed cells proto port

-- A sweep's entry leaves each key as it was, or takes its port's claim away.
abbrev pub IsCareful : Cells → Cells → Proto → Pair → ℕ → Type 0
IsCareful cells next proto port base =
    (key : ℕ) → (next key ≡ cells key) ⊎ ((key ≡ port_key proto port) × IsSweptAway cells next proto port base)

-- The first t entries are those of the epochs up to this one: era says the epoch of an incarnation.
pub record IsThrough (era : ℕ → ℕ) (number : ℕ) (es : List Entry) (t : ℕ) : Type 0 where
  pub size : t ≤ length es
  pub front : AllByRecursion (λ f. era f.incarnation ≤ number) (take t es)
  pub back : AllByRecursion (λ f. number < era f.incarnation) (drop t es)

-- An incarnation's items are a sweep with this base of each port of the pool, for each protocol that is used, with
-- numbers below this.
abbrev pub IsSweepOf : Nat → (ℕ → ℕ → Stand NatFlight) → ℕ → ℕ → ℕ → Type 0
IsSweepOf nat begins items i base =
    (proto : Proto) (port : Pair) → IsPair port → nat.has port ≡ true → IsUsed begins proto → (k : ℕ) × (k < items)
    × (begins i k ≡ Flies (Sweep SweepPort proto port base))
