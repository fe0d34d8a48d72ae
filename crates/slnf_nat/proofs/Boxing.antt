-- What the box does at an entry.
use Rattle.std.proofs.Common.{◌≡◌, ◌⊎◌, inl, inr, ℕ, Bool, true, false, cond, ◌==◌, ◌&&◌, Option, Some, None, List, ◌∷◌, refl, ap, sym, ◌∙◌, subst}
use Rattle.std.proofs.lemmas.Option.{same_Some}
use Rattle.std.proofs.lemmas.Bool.{eq-eqb, eqb-true, and_parts, and_from}
use Rattle.slnf_base.specs.declared.addresses.Pair.{Pair}
use Rattle.slnf_base.specs.declared.packets.Proto.{Proto}
use Rattle.slnf_base.specs.declared.packets.Proto.TheVariants.{Tcp, Udp}
use Rattle.slnf_base.specs.declared.packets.Packet.{Packet}
use Rattle.slnf_base.specs.declared.packets.Change.TheVariants.{Source, Dest}
use Rattle.slnf_base.specs.declared.packets.Reason.TheVariants.{NoPort}
use Rattle.slnf_base.specs.declared.packets.Verdict.{Verdict}
use Rattle.slnf_base.specs.declared.packets.Verdict.TheVariants.{Emit, Dropped}
use Rattle.slnf_base.specs.Numbers.{proto_number}
use Rattle.slnf_base.specs.Equal.{is_same_pair, is_same_proto}
use Rattle.slnf_access.specs.declared.requests.Request.{Request}
use Rattle.slnf_access.specs.declared.requests.Reply.{Reply}
use Rattle.slnf_access.specs.Map.{Cells}
use Rattle.slnf_access.specs.Machines.{decided_at}
use Rattle.slnf_base.specs.Ranges.{IsPair}
use Rattle.slnf_run.specs.Visits.{newly}
use Rattle.slnf_box.specs.Nat.{Nat}
use Rattle.slnf_box.specs.NatBox.{Flow, pair_of, owner, nat_verdict, nat_next}
use Rattle.slnf_nat.specs.Flights.{NatFlight}
use Rattle.slnf_nat.specs.Machine.{flow_key, nat_goes, nat_decided, nat_machine}
use Rattle.slnf_nat.specs.StoredFlows.{flow_in, flow_at}
use Rattle.slnf_nat.specs.NatScene.{is_no_flow, is_in, packet_of, put_on}
use Rattle.slnf_nat.specs.Kept.{IsUnnamed, IsBoxed}
use Rattle.slnf_nat.proofs.Carries.{FlowsStay}

-- the choice at an entry of a flight
abbrev pub choice_for : NatFlight → Request → Reply → Option Pair
choice_for flight request reply = put_on (flow_key (packet_of flight).proto (packet_of flight).source) request reply

-- the verdict that is decided at an entry of a flight
abbrev pub decides : Nat → NatFlight → Reply → Option Verdict
decides nat flight reply = newly (nat_decided flight) (decided_at (nat_machine nat) (nat_goes nat flight reply))

-- What the box does with a verdict that is decided: where the packet has its place here, it gives it, and keeps then the
-- live flows; else it has kept them.
abbrev pub BoxesBy : Nat → List Flow → NatFlight → Cells → Option Pair → Verdict → Bool → Type 0
BoxesBy nat c flight next choice verdict true = IsBoxed c next
BoxesBy nat c flight next choice verdict false =
    (nat_verdict nat c (record { packet = packet_of flight; choice = choice }) ≡ verdict)
    × IsBoxed (nat_next nat c (record { packet = packet_of flight; choice = choice })) next

abbrev pub Boxes : Nat → List Flow → NatFlight → Cells → Option Pair → Option Verdict → Type 0
Boxes nat c flight next choice None = IsBoxed c next
Boxes nat c flight next choice (Some verdict) = BoxesBy nat c flight next choice verdict (is_in flight && is_no_flow verdict)

-- pairs and protocols that pass the test are one
pair_ext : (a b p q : ℕ) → a ≡ b → p ≡ q
    → let left : Pair = record { addr = a; port = p } in left ≡ record { addr = b; port = q }
pair_ext a b p q addr port =
    let at_addr : ℕ → Pair = λ n. record { addr = n; port = p } in
    let at_port : ℕ → Pair = λ n. record { addr = b; port = n } in
    ap at_addr addr ∙ ap at_port port

pub same_pair : (a b : Pair) → is_same_pair a b ≡ true → a ≡ b
same_pair a b h =
    let parts = and_parts (a.addr == b.addr) (a.port == b.port) h in
    pair_ext a.addr b.addr a.port b.port (eqb-true a.addr b.addr parts.0) (eqb-true a.port b.port parts.1)

pub pair_same : (a b : Pair) → a ≡ b → is_same_pair a b ≡ true
pair_same a b h = and_from _ _ (eq-eqb a.addr b.addr (ap (λ (p : Pair). p.addr) h))
    (eq-eqb a.port b.port (ap (λ (p : Pair). p.port) h))

same_proto : (a b : Proto) → is_same_proto a b ≡ true → a ≡ b
same_proto Tcp Tcp h = refl
same_proto Tcp Udp h = cc
same_proto Udp Tcp h = cc
same_proto Udp Udp h = refl

both_same : (p q : Proto) (a b : Pair) → (is_same_proto p q && is_same_pair a b) ≡ true → (q ≡ p) × (b ≡ a)
both_same p q a b h = let parts = and_parts (is_same_proto p q) (is_same_pair a b) h in
    (sym (same_proto p q parts.0), sym (same_pair a b parts.1))

same_both : (p q : Proto) (a b : Pair) → q ≡ p → b ≡ a → (is_same_proto p q && is_same_pair a b) ≡ true
same_both p q a b h k = and_from _ _ (eq-eqb _ _ (ap proto_number (sym h))) (pair_same a b (sym k))

-- the box keeps what it kept where flows stay
pub boxed_same : (c : List Flow) (cells next : Cells) → FlowsStay cells next → IsBoxed c cells → IsBoxed c next
boxed_same c cells next stay boxed = record {
  agrees = λ proto inside fits. boxed.agrees proto inside fits ∙ ap flow_in (sym (stay proto inside fits));
  fits = boxed.fits;
  back = boxed.back;
  forth = boxed.forth;
}

-- a packet on its way out whose flow is there
pub boxed_known : (nat : Nat) (c : List Flow) (cells : Cells) (packet : Packet) (choice : Option Pair) (port : Pair)
    → nat.is_out packet ≡ true → IsPair packet.source → flow_at cells packet.proto packet.source ≡ Some port
    → IsBoxed c cells
    → (nat_verdict nat c (record { packet = packet; choice = choice }) ≡ Emit (Source port))
    × IsBoxed (nat_next nat c (record { packet = packet; choice = choice })) cells
boxed_known nat c cells packet choice port out fits there boxed =
    let known : pair_of c packet.proto packet.source ≡ Some port = boxed.agrees packet.proto packet.source fits ∙ there in
    (rw (out, known) refl, rw (out, known) boxed)

-- one whose flow isn't there, without a choice
pub boxed_none : (nat : Nat) (c : List Flow) (cells : Cells) (packet : Packet) → nat.is_out packet ≡ true
    → IsPair packet.source → flow_at cells packet.proto packet.source ≡ None → IsBoxed c cells
    → (nat_verdict nat c (record { packet = packet; choice = None }) ≡ Dropped NoPort)
    × IsBoxed (nat_next nat c (record { packet = packet; choice = None })) cells
boxed_none nat c cells packet out fits none boxed =
    let known : pair_of c packet.proto packet.source ≡ None = boxed.agrees packet.proto packet.source fits ∙ none in
    (rw (out, known) refl, rw (out, known) boxed)

-- a packet on its way in whose destination a flow has
pub boxed_in : (nat : Nat) (c : List Flow) (cells : Cells) (packet : Packet) (choice : Option Pair) (inside : Pair)
    → nat.is_out packet ≡ false → nat.is_in packet ≡ true → IsPair inside
    → flow_at cells packet.proto inside ≡ Some packet.dest → IsBoxed c cells
    → (nat_verdict nat c (record { packet = packet; choice = choice }) ≡ Emit (Dest inside))
    × IsBoxed (nat_next nat c (record { packet = packet; choice = choice })) cells
boxed_in nat c cells packet choice inside out comes fits there boxed =
    let has : owner c packet.proto packet.dest ≡ Some inside =
    boxed.forth packet.proto inside packet.dest (boxed.agrees packet.proto inside fits ∙ there) in
    (rw (out, comes, has) refl, rw out boxed)

-- no flow of the box has a pair that no live flow has
pub boxed_free : (c : List Flow) (cells : Cells) (proto : Proto) (port : Pair) → IsUnnamed cells proto port
    → IsBoxed c cells → owner c proto port ≡ None
boxed_free c cells proto port unnamed boxed = go (owner c proto port) refl
  where
    go : (o : Option Pair) → owner c proto port ≡ o → owner c proto port ≡ None
    go None w = w
    go (Some g) w =
        let known : pair_of c proto g ≡ Some port = boxed.back proto g port w in
        let fits : IsPair g = boxed.fits proto g port known in
        absurd (unnamed g fits (sym (boxed.agrees proto g fits) ∙ known))

-- A new flow.
module _ (c : List Flow) (cells next : Cells) (own : Proto) (mine at : Pair) (mine_fits : IsPair mine)
    (here : flow_at next own mine ≡ Some at) (other : (proto : Proto) (inside : Pair) → IsPair inside
    → ((proto ≡ own) × (inside ≡ mine)) ⊎ (next (flow_key proto inside) ≡ cells (flow_key proto inside)))
    (absent : flow_at cells own mine ≡ None) (unnamed : IsUnnamed cells own at) (boxed : IsBoxed c cells) where
  abbrev pub new : Flow
  new = record { proto = own; inside = mine; outside = at }

  unknown : pair_of c own mine ≡ None
  unknown = boxed.agrees own mine mine_fits ∙ absent

  free : owner c own at ≡ None
  free = boxed_free c cells own at unnamed boxed

  agrees : (proto : Proto) (inside : Pair) → IsPair inside
      → pair_of (new ∷ c) proto inside ≡ flow_at next proto inside
  agrees proto inside fits = go (is_same_proto own proto && is_same_pair mine inside) refl (other proto inside fits)
    where
      go : (b : Bool) → (is_same_proto own proto && is_same_pair mine inside) ≡ b
          → ((proto ≡ own) × (inside ≡ mine)) ⊎ (next (flow_key proto inside) ≡ cells (flow_key proto inside))
          → cond b (Some at) (pair_of c proto inside) ≡ flow_at next proto inside
      go true w o =
          let same : (proto ≡ own) × (inside ≡ mine) = both_same own proto mine inside w in
          sym (ap (λ q. flow_at next q inside) same.0 ∙ ap (flow_at next own) same.1 ∙ here)
      go false w (inl same) = let t : (is_same_proto own proto && is_same_pair mine inside) ≡ true =
          same_both own proto mine inside same.0 same.1 in absurd (cc)
      go false w (inr stay) = boxed.agrees proto inside fits ∙ ap flow_in (sym stay)

  fits_all : (proto : Proto) (inside port : Pair) → pair_of (new ∷ c) proto inside ≡ Some port → IsPair inside
  fits_all proto inside port h = go (is_same_proto own proto && is_same_pair mine inside) refl h
    where
      go : (b : Bool) → (is_same_proto own proto && is_same_pair mine inside) ≡ b → cond b (Some at)
          (pair_of c proto inside) ≡ Some port → IsPair inside
      go true w h = subst IsPair (sym (both_same own proto mine inside w).1) mine_fits
      go false w h = boxed.fits proto inside port h

  back : (proto : Proto) (inside port : Pair) → owner (new ∷ c) proto port ≡ Some inside
      → pair_of (new ∷ c) proto inside ≡ Some port
  back proto inside port h = go (is_same_proto own proto && is_same_pair at port) refl
      (is_same_proto own proto && is_same_pair mine inside) refl h
    where
      go : (b : Bool) → (is_same_proto own proto && is_same_pair at port) ≡ b → (d : Bool)
          → (is_same_proto own proto && is_same_pair mine inside) ≡ d → cond b (Some mine)
          (owner c proto port) ≡ Some inside → cond d (Some at) (pair_of c proto inside) ≡ Some port
      go true w true v h = ap (λ (p : Pair). Some p) (sym (both_same own proto at port w).1)
      go true w false v h =
          let t : (is_same_proto own proto && is_same_pair mine inside) ≡ true =
          same_both own proto mine inside (both_same own proto at port w).0 (sym (same_Some mine inside h)) in
          absurd (cc)
      go false w true v h =
          let same : (proto ≡ own) × (inside ≡ mine) = both_same own proto mine inside v in
          let was : pair_of c proto inside ≡ Some port = boxed.back proto inside port h in
          let none : pair_of c proto inside ≡ None = ap (λ q. pair_of c q inside) same.0 ∙ ap (pair_of c own) same.1 ∙ unknown in
          absurd (cc)
      go false w false v h = boxed.back proto inside port h

  forth : (proto : Proto) (inside port : Pair) → pair_of (new ∷ c) proto inside ≡ Some port
      → owner (new ∷ c) proto port ≡ Some inside
  forth proto inside port h = go (is_same_proto own proto && is_same_pair at port) refl
      (is_same_proto own proto && is_same_pair mine inside) refl h
    where
      go : (b : Bool) → (is_same_proto own proto && is_same_pair at port) ≡ b → (d : Bool)
          → (is_same_proto own proto && is_same_pair mine inside) ≡ d → cond d (Some at)
          (pair_of c proto inside) ≡ Some port → cond b (Some mine) (owner c proto port) ≡ Some inside
      go true w true v h = ap (λ (p : Pair). Some p) (sym (both_same own proto mine inside v).1)
      go true w false v h =
          let same : (proto ≡ own) × (port ≡ at) = both_same own proto at port w in
          let was : owner c proto port ≡ Some inside = boxed.forth proto inside port h in
          let none : owner c proto port ≡ None = ap (λ q. owner c q port) same.0 ∙ ap (owner c own) same.1 ∙ free in
          absurd (cc)
      go false w true v h =
          let t : (is_same_proto own proto && is_same_pair at port) ≡ true =
          same_both own proto at port (both_same own proto mine inside v).0 (sym (same_Some at port h)) in
          absurd (cc)
      go false w false v h = boxed.forth proto inside port h

  pub boxed_put : IsBoxed (new ∷ c) next
  boxed_put = record { agrees = agrees; fits = fits_all; back = back; forth = forth }

-- a packet on its way out whose flow isn't there, with a choice of the pool that no flow has
pub boxed_new : (nat : Nat) (c : List Flow) (cells next : Cells) (packet : Packet) (at : Pair)
    → nat.is_out packet ≡ true → nat.allows packet.source at ≡ true → IsPair packet.source
    → flow_at next packet.proto packet.source ≡ Some at
    → ((proto : Proto) (inside : Pair) → IsPair inside → ((proto ≡ packet.proto) × (inside ≡ packet.source))
    ⊎ (next (flow_key proto inside) ≡ cells (flow_key proto inside)))
    → flow_at cells packet.proto packet.source ≡ None → IsUnnamed cells packet.proto at → IsBoxed c cells
    → (nat_verdict nat c (record { packet = packet; choice = Some at }) ≡ Emit (Source at))
    × IsBoxed (nat_next nat c (record { packet = packet; choice = Some at })) next
boxed_new nat c cells next packet at out has fits here other absent unnamed boxed =
    let known : pair_of c packet.proto packet.source ≡ None = boxed.agrees packet.proto packet.source fits ∙ absent in
    let free : owner c packet.proto at ≡ None = boxed_free c cells packet.proto at unnamed boxed in (
      rw (out, known, has, free) refl,
      rw (out, known, has, free)
          (boxed_put c cells next packet.proto packet.source at fits here other absent unnamed boxed),
    )
