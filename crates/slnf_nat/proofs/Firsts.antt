-- First entries, and places of the NAT's packets.
use Rattle.std.proofs.Common.{◌≡◌, ℕ, suc, Bool, true, false, cond, ◌&&◌, Some, List, [], ◌∷◌, ◌++◌, length, slice_get, refl, ap, sym, ◌∙◌, arith}
use Rattle.std.proofs.lemmas.Option.{same_Some}
use Rattle.slnf_base.specs.declared.packets.Packet.{Packet}
use Rattle.slnf_base.specs.declared.packets.Reason.{Reason}
use Rattle.slnf_base.specs.declared.packets.Reason.TheVariants.{NotIpv4, Fragment, Short, Protocol, Neither, NoPort, NoFlow, DeniedRule, DeniedState, NoConn, NotPinned}
use Rattle.slnf_base.specs.declared.packets.Verdict.{Verdict}
use Rattle.slnf_base.specs.declared.packets.Verdict.TheVariants.{Emit, Dropped, Lost, Left}
use Rattle.slnf_access.specs.declared.requests.Entry.{Entry}
use Rattle.slnf_access.specs.Machines.{Stand}
use Rattle.slnf_run.specs.Scene.{is_of, own_of}
use Rattle.slnf_run.specs.Steady.{IsSteady, HasOwnPlaces}
use Rattle.slnf_box.specs.Nat.{Nat}
use Rattle.slnf_nat.specs.Flights.{Look, Try, Confirm, Release, Last, LookPort, NatFlight, Out, In, Sweep, first_of}
use Rattle.slnf_nat.specs.Machine.{nat_machine}
use Rattle.slnf_nat.specs.NatScene.{is_no_flow, is_in, packet_of, nat_scene}
use Rattle.slnf_nat.proofs.Flying.{own_parts}
use Rattle.slnf_run.specs.Looks.{first_of as first_own, first_of_own as first_with}

-- the item's first entry is the item's
pub first_own_is : (i k : ℕ) (es : List Entry) (p : Entry) → slice_get es (first_own i k es) ≡ Some p
    → is_of i k p ≡ true
first_own_is i k [] p h = absurd (cc)
first_own_is i k (e ∷ es) p h = go (is_of i k e) refl (first_own_is i k es p) h
  where
    go : (b : Bool) → is_of i k e ≡ b → (slice_get es (first_own i k es) ≡ Some p → is_of i k p ≡ true)
        → slice_get (e ∷ es) (cond b 0 (suc (first_own i k es))) ≡ Some p → is_of i k p ≡ true
    go true w later h = ap (is_of i k) (sym (same_Some e p h)) ∙ w
    go false w later h = later h

-- what stands before the first entry of an item isn't the item's
pub none_before : (i k : ℕ) (before later : List Entry) (e : Entry)
    → first_own i k (before ++ e ∷ later) ≡ length before → own_of i k before ≡ []
none_before i k [] later e h = refl
none_before i k (x ∷ before) later e h = go (is_of i k x) (none_before i k before later e) h
  where
    go : (b : Bool) → (first_own i k (before ++ e ∷ later) ≡ length before → own_of i k before ≡ [])
        → cond b 0 (suc (first_own i k (before ++ e ∷ later))) ≡ suc (length before) → cond b (x ∷ own_of i k before)
        (own_of i k before) ≡ []
    go true rest h = absurd (omega arith)
    go false rest h = rest (omega arith)

-- The NAT's machine keeps what it has decided.
pub nat_steady : (nat : Nat) → IsSteady (nat_machine nat)
nat_steady nat (Out Look i packet) reply verdict h = absurd (cc)
nat_steady nat (Out (Try number) i packet) reply verdict h = absurd (cc)
nat_steady nat (Out (Confirm number version) i packet) reply verdict h = absurd (cc)
nat_steady nat (Out (Release number version port) i packet) reply verdict h = h
nat_steady nat (Out Last i packet) reply verdict h = absurd (cc)
nat_steady nat (In state packet) reply verdict h = absurd (cc)
nat_steady nat (Sweep state proto port base) reply verdict h = absurd (cc)

-- Each of its packets has its place at an entry of its own.
pub nat_own_places : (nat : Nat) (begins : ℕ → ℕ → Stand NatFlight) (es : List Entry)
    → HasOwnPlaces (nat_scene nat begins) es
nat_own_places nat begins es number e place decision at decided there =
    go (is_in decision.first && is_no_flow decision.verdict) there
  where
    go : (b : Bool) → slice_get es (cond b (first_with es number (slice_get es number)) number) ≡ Some place
        → (place.incarnation ≡ e.incarnation) × (place.item ≡ e.item)
    go true h =
        let first : slice_get es (first_own e.incarnation e.item es) ≡ Some place =
        ap (λ o. slice_get es (first_with es number o)) (sym at) ∙ h in
        own_parts e.incarnation e.item place (first_own_is e.incarnation e.item es place first)
    go false h =
        let same : e ≡ place = same_Some e place (sym at ∙ h) in
        (ap (λ (f : Entry). f.incarnation) (sym same), ap (λ (f : Entry). f.item) (sym same))

-- the flight that began is on its way in where the flight is
pub in_began : (flight : NatFlight) → is_in (first_of flight) ≡ is_in flight
in_began (Out state i packet) = refl
in_began (In state packet) = refl
in_began (Sweep state proto port base) = refl

-- and its packet is the flight's
pub packet_began : (flight : NatFlight) → packet_of (first_of flight) ≡ packet_of flight
packet_began (Out state i packet) = refl
packet_began (In state packet) = refl
packet_began (Sweep state proto port base) = refl

-- a packet on its way in at its beginning
pub in_first : (flight : NatFlight) → is_in flight ≡ true → flight ≡ first_of flight
    → (packet : Packet) × (flight ≡ In LookPort packet)
in_first (Out state i packet) h same = absurd (cc)
in_first (In state packet) h same = (packet, same)
in_first (Sweep state proto port base) h same = absurd (cc)

reason_no_flow : (reason : Reason) → is_no_flow (Dropped reason) ≡ true → Dropped reason ≡ Dropped NoFlow
reason_no_flow NotIpv4 h = cc
reason_no_flow Fragment h = cc
reason_no_flow Short h = cc
reason_no_flow Protocol h = cc
reason_no_flow Neither h = cc
reason_no_flow NoPort h = cc
reason_no_flow NoFlow h = refl
reason_no_flow DeniedRule h = cc
reason_no_flow DeniedState h = cc
reason_no_flow NoConn h = cc
reason_no_flow NotPinned h = cc

pub verdict_no_flow : (verdict : Verdict) → is_no_flow verdict ≡ true → verdict ≡ Dropped NoFlow
verdict_no_flow (Emit change) h = absurd (cc)
verdict_no_flow (Dropped reason) h = reason_no_flow reason h
verdict_no_flow Lost h = absurd (cc)
verdict_no_flow Left h = absurd (cc)
