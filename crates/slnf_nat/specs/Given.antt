-- What is asked of a list of the NAT's entries.
use Rattle.std.specs.Prelude.{◌≡◌, ℕ, ◌<◌, ◌≤◌, ◌^◌, true, false, List, ◌∷◌, ◌++◌}
use Rattle.slnf_base.specs.declared.addresses.Pair.{Pair}
use Rattle.slnf_base.specs.declared.packets.Proto.{Proto}
use Rattle.slnf_access.specs.declared.requests.Entry.{Entry}
use Rattle.slnf_access.specs.Map.{IsLegal}
use Rattle.slnf_access.specs.Order.{RisesOnKeys}
use Rattle.slnf_access.specs.Machines.{Stand, Flies, IsPath}
use Rattle.slnf_base.specs.Ranges.{IsPair}
use Rattle.slnf_run.specs.Scene.{own_of}
use Rattle.slnf_box.specs.Nat.{Nat}
use Rattle.slnf_nat.specs.Flights.{NatFlight, Out, In, Sweep, first_of}
use Rattle.slnf_nat.specs.Machine.{nat_machine}
use Rattle.std.specs.List.{AllByRecursion}

-- The pool has a port. Each candidate is one of its pairs, in range, and one that the flow may have; and each pair that
-- a flow may have is a candidate of it.
pub record IsNat (nat : Nat) : Type 0 where
  pub some : 0 < nat.ports
  pub candidate_has : (proto : Proto) (inside : Pair) (place : ℕ) → nat.has (nat.candidate proto inside place) ≡ true
  pub candidate_allowed : (proto : Proto) (inside : Pair) (place : ℕ)
      → nat.allows inside (nat.candidate proto inside place) ≡ true
  pub candidate_fits : (proto : Proto) (inside : Pair) (place : ℕ) → IsPair (nat.candidate proto inside place)
  pub covers : (proto : Proto) (inside port : Pair) → nat.allows inside port ≡ true
      → (place : ℕ) × (place < nat.ports) × (nat.candidate proto inside place ≡ port)

-- a flight's own ranges: a packet on its way out knows its incarnation, and a sweep its epoch's base
abbrev pub IsRanged : Nat → (ℕ → ℕ) → ℕ → NatFlight → Type 0
IsRanged nat base_at i (Out state incarnation packet) =
    (incarnation ≡ i) × (i < 2 ^ 32) × IsPair packet.source × (nat.is_out packet ≡ true)
IsRanged nat base_at i (In state packet) = IsPair packet.dest × (nat.is_out packet ≡ false)
    × (nat.is_in packet ≡ true)
IsRanged nat base_at i (Sweep state proto port base) = IsPair port × (base ≡ base_at i)

pub record IsNatList (nat : Nat) (base_at : ℕ → ℕ) (begins : ℕ → ℕ → Stand NatFlight) (es : List Entry) : Type 0 where
  pub legal : IsLegal es
  pub paths : (i k : ℕ) → IsPath (nat_machine nat) (begins i k) (own_of i k es)
  -- each item begins as a first flight
  pub firsts : (i k : ℕ) (flight : NatFlight) → begins i k ≡ Flies flight → first_of flight ≡ flight
  pub ranges : (i k : ℕ) (flight : NatFlight) → begins i k ≡ Flies flight → IsRanged nat base_at i flight
  -- an incarnation isn't below the base of its epoch, and epochs come in order
  pub bases : (i : ℕ) → base_at i ≤ i
  pub epochs : (before later : List Entry) (e : Entry) → es ≡ before ++ e ∷ later
      → AllByRecursion (λ f. base_at f.incarnation ≤ base_at e.incarnation) before
  -- on one key stamps rise
  pub rising : RisesOnKeys es
