-- What is known of the map and of the flights, through one entry.
use Rattle.std.proofs.Common.{◌≡◌, ◌⊎◌, inl, inr, ℕ, ◌<◌, ◌≤◌, nat_lt, Bool, true, false, cond, ◌==◌, Option, Some, None, List, [], ◌∷◌, ◌++◌, refl, ap, sym, ◌∙◌, subst, arith}
use Rattle.std.proofs.lemmas.Option.{same_Some}
use Rattle.std.proofs.lemmas.Bool.{eqb-true, and_parts}
use Rattle.slnf_base.specs.declared.addresses.Pair.{Pair}
use Rattle.slnf_base.specs.declared.packets.Proto.{Proto}
use Rattle.slnf_base.specs.declared.packets.Packet.{Packet}
use Rattle.slnf_access.specs.declared.requests.Held.{Held}
use Rattle.slnf_access.specs.declared.requests.Entry.{Entry}
use Rattle.slnf_access.specs.declared.requests.Request.{Request}
use Rattle.slnf_access.specs.declared.requests.Request.TheVariants.{Read, PutIfAbsent, ReplaceIf, DeleteIf}
use Rattle.slnf_access.specs.declared.requests.Reply.{Reply}
use Rattle.slnf_access.specs.declared.requests.Reply.TheVariants.{Done, Found, Absent}
use Rattle.slnf_access.specs.Map.{key_of, reply_to, cell_after, Cells}
use Rattle.slnf_access.specs.Machines.{Stand, Flies, Ends, stand_of_step}
use Rattle.slnf_keys.specs.declared.values.FlowTo.{FlowTo}
use Rattle.slnf_keys.specs.declared.values.Claim.{Claim}
use Rattle.slnf_base.specs.Ranges.{IsPair}
use Rattle.slnf_keys.specs.Values.{flow_to_of, claim_of}
use Rattle.slnf_run.specs.Scene.{is_of}
use Rattle.slnf_box.specs.Nat.{Nat}
use Rattle.slnf_nat.specs.Flights.{OutState, Look, Try, Confirm, Release, Last, InState, LookPort, LookFlow, SweepState, SweepPort, SweepFlow, Remove, NatFlight, Out, In, Sweep, first_of}
use Rattle.slnf_nat.specs.Machine.{port_key, tried, nat_asks, nat_goes, looked, released, claimed, entered, swept, names}
use Rattle.slnf_nat.specs.Kept.{IsStampOn, IsStampBy, IsCurrent, IsOwned, HasSeen, HoldsOut, HoldsSweep, Holds, HasStamps, IsLive, IsFlying}
use Rattle.slnf_nat.specs.Given.{IsNat, IsRanged}
use Rattle.slnf_nat.proofs.Lists.{some_entry-more, some_entry-last, some_entry-parts, some_entry-each, each-parts}
use Rattle.slnf_nat.proofs.Effects.{same_or_not, after, other_cell, own_cell}
use Rattle.slnf_nat.proofs.Carries.{Carries}
use Rattle.slnf_nat.proofs.States.{StandHolds, Outcome, running_now, look, last, trying, confirming, releasing, entering, sweeping_port, sweeping_flow, removing}
use Rattle.std.specs.List.{AllByRecursion}

-- what stands there after an access stood there before, or has the access's stamp as its version
kept_or_written : (request : Request) (stamp : ℕ) (cell : Option Held) (held : Held)
    → cell_after request stamp cell ≡ Some held → (cell ≡ Some held) ⊎ (held.version ≡ stamp)
kept_or_written (Read key) stamp cell held h = inl h
kept_or_written (PutIfAbsent key value) stamp None held h = inr (ap (λ (c : Held). c.version) (sym (same_Some _ held h)))
kept_or_written (PutIfAbsent key value) stamp (Some there) held h = inl h
kept_or_written (ReplaceIf key version value) stamp None held h = inl h
kept_or_written (ReplaceIf key version value) stamp (Some there) held h = go (there.version == version) h
  where
    go : (b : Bool) → Some (cond b (record { value = value; version = stamp }) there) ≡ Some held
        → (Some there ≡ Some held) ⊎ (held.version ≡ stamp)
    go true h = inr (ap (λ (c : Held). c.version) (sym (same_Some _ held h)))
    go false h = inl h
kept_or_written (DeleteIf key version) stamp None held h = inl h
kept_or_written (DeleteIf key version) stamp (Some there) held h = go (there.version == version) h
  where
    go : (b : Bool) → cond b None (Some there) ≡ Some held → (Some there ≡ Some held) ⊎ (held.version ≡ stamp)
    go true h = absurd (cc)
    go false h = inl h

-- an entry of an item, by its test
pub own_parts : (i k : ℕ) (e : Entry) → is_of i k e ≡ true → (e.incarnation ≡ i) × (e.item ≡ k)
own_parts i k e h = let parts = and_parts (e.incarnation == i) (e.item == k) h in (eqb-true _ _ parts.0, eqb-true _ _ parts.1)

module _ (before : List Entry) (e : Entry) (cells : Cells)
    (fresh : AllByRecursion (λ f. key_of f.request ≡ key_of e.request → f.stamp < e.stamp) before) where
  -- an earlier entry on the key has another stamp
  not_again : (key version i k : ℕ) → key_of e.request ≡ key → e.stamp ≡ version → IsStampBy before key version i k
      → ⊥
  not_again key version i k on at made =
      some_entry-each (λ f. (key_of f.request ≡ key) × (f.stamp ≡ version) × (f.incarnation ≡ i) × (f.item ≡ k))
      (λ f. key_of f.request ≡ key_of e.request → f.stamp < e.stamp) ⊥ before made fresh
      (λ f p less. let lower : f.stamp < e.stamp = less (p.0 ∙ sym on) in let same : f.stamp ≡ version = p.1 in omega arith)

  -- the map's versions, and one item for each entry
  pub stamped_step : HasStamps before cells → HasStamps (before ++ e ∷ []) (after cells e)
  stamped_step stamped = record { versions = versions; makers = makers }
    where
      versions : (key : ℕ) (held : Held) → after cells e key ≡ Some held
          → IsStampOn (before ++ e ∷ []) key held.version
      versions key held there = go (same_or_not key (key_of e.request))
        where
          more : cells key ≡ Some held → IsStampOn (before ++ e ∷ []) key held.version
          more was = some_entry-more (λ f. (key_of f.request ≡ key) × (f.stamp ≡ held.version)) before
              (e ∷ []) (stamped.versions key held was)

          by : key ≡ key_of e.request → (cells (key_of e.request) ≡ Some held) ⊎ (held.version ≡ e.stamp)
              → IsStampOn (before ++ e ∷ []) key held.version
          by own (inl was) = more (ap cells own ∙ was)
          by own (inr new) = some_entry-last (λ f. (key_of f.request ≡ key) × (f.stamp ≡ held.version)) before e
              (sym own, sym new)

          go : (key ≡ key_of e.request) ⊎ (key ≡ key_of e.request → ⊥) → IsStampOn (before ++ e ∷ []) key held.version
          go (inl own) = by own (kept_or_written e.request e.stamp
              (cells (key_of e.request)) held (sym (own_cell cells e) ∙ ap (after cells e) (sym own) ∙ there))
          go (inr apart) = more (sym (other_cell cells e key apart) ∙ there)

      makers : (key version i k j l : ℕ) → IsStampBy (before ++ e ∷ []) key version i k
          → IsStampBy (before ++ e ∷ []) key version j l → (i ≡ j) × (k ≡ l)
      makers key version i k j l one two =
          go (some_entry-parts
          (λ f. (key_of f.request ≡ key) × (f.stamp ≡ version) × (f.incarnation ≡ i) × (f.item ≡ k)) before e one)
          (some_entry-parts
          (λ f. (key_of f.request ≡ key) × (f.stamp ≡ version) × (f.incarnation ≡ j) × (f.item ≡ l)) before e two)
        where
          go : IsStampBy before key version i k
              ⊎ ((key_of e.request ≡ key) × (e.stamp ≡ version) × (e.incarnation ≡ i) × (e.item ≡ k))
              → IsStampBy before key version j l
              ⊎ ((key_of e.request ≡ key) × (e.stamp ≡ version) × (e.incarnation ≡ j) × (e.item ≡ l))
              → (i ≡ j) × (k ≡ l)
          go (inl a) (inl b) = stamped.makers key version i k j l a b
          go (inl a) (inr b) = absurd (not_again key version i k b.0 b.1 a)
          go (inr a) (inl b) = absurd (not_again key version j l a.0 a.1 b)
          go (inr a) (inr b) = (sym a.2 ∙ b.2, sym a.3 ∙ b.3)

-- What holds of another item's flight holds after the entry.
module _ (nat : Nat) (is_nat : IsNat nat) (base_at : ℕ → ℕ) (before : List Entry)
    (e : Entry) (cells next : Cells) (carries : Carries base_at before e cells next) where
  owned_after : (i k : ℕ) (packet : Packet) (number version : ℕ) → is_of i k e ≡ false
      → (IsCurrent base_at before i → IsOwned before cells i k packet.proto (tried nat packet number) version packet.source)
      → IsCurrent base_at (before ++ e ∷ []) i
      → IsOwned (before ++ e ∷ []) next i k packet.proto (tried nat packet number) version packet.source
  owned_after i k packet number version other owned running =
      let was : IsOwned before cells i k packet.proto (tried nat packet number) version packet.source =
      owned (each-parts (λ f. base_at f.incarnation ≤ i) before e running).0 in
      let now = carries.owned i k packet.proto (tried nat packet number) version packet.source other running
      (is_nat.candidate_fits packet.proto packet.source number) was in
      record {
        claimed = now.0;
        made = some_entry-more (λ f. (key_of f.request ≡ port_key packet.proto (tried nat packet number))
            × (f.stamp ≡ version) × (f.incarnation ≡ i) × (f.item ≡ k)) before (e ∷ []) was.made;
        unnamed = now.1;
      }

  out_after : (i k : ℕ) (packet : Packet) (state : OutState) → is_of i k e ≡ false
      → HoldsOut nat base_at before cells i k packet state
      → HoldsOut nat base_at (before ++ e ∷ []) next i k packet state
  out_after i k packet Look other h = tt
  out_after i k packet (Try number) other h = h
  out_after i k packet (Confirm number version) other h = (h.0, owned_after i k packet number version other h.1)
  out_after i k packet (Release number version port) other h = owned_after i k packet number version other h
  out_after i k packet Last other h = tt

  seen_after : (proto : Proto) (port : Pair) (base version : ℕ) → HasSeen base_at before proto port base version
      → HasSeen base_at (before ++ e ∷ []) proto port base version
  seen_after proto port base version seen = record {
    stamped = some_entry-more (λ f. (key_of f.request ≡ port_key proto port) × (f.stamp ≡ version)) before (e ∷ []) seen.stamped;
    begun = some_entry-more (λ f. base ≤ base_at f.incarnation) before (e ∷ []) seen.begun;
  }

  sweep_after : (proto : Proto) (port : Pair) (base : ℕ) (state : SweepState) → IsPair port
      → HoldsSweep base_at before cells proto port base state
      → HoldsSweep base_at (before ++ e ∷ []) next proto port base state
  sweep_after proto port base SweepPort fits h = tt
  sweep_after proto port base (SweepFlow inside version) fits h = (
    seen_after proto port base version h.0,
    λ held there since. h.1 held (carries.stays proto port version held fits h.0.stamped there since) since,
  )
  sweep_after proto port base (Remove version) fits h = (
    seen_after proto port base version h.0,
    λ held there since.
        let was = h.1 held (carries.stays proto port version held fits h.0.stamped there since) since in
        (was.0, carries.unnamed proto port base version held was.0.0 fits h.0 there since was.0.1 was.1),
  )

  pub holds_after : (i k : ℕ) (flight : NatFlight) → is_of i k e ≡ false → IsRanged nat base_at i flight
      → Holds nat base_at before cells i k flight → Holds nat base_at (before ++ e ∷ []) next i k flight
  holds_after i k (Out state incarnation packet) other ranged h = out_after i k packet state other h
  holds_after i k (In state packet) other ranged h = h
  holds_after i k (Sweep state proto port base) other ranged h = sweep_after proto port base state ranged.0 h

-- a flight keeps how it began
abbrev pub BeganSo : NatFlight → Stand NatFlight → Type 0
BeganSo first (Flies flight) = first_of flight ≡ first
BeganSo first (Ends end) = Unit {0}

looked_began : (first : NatFlight) (o : Option FlowTo) → BeganSo first (stand_of_step (looked o))
looked_began first None = tt
looked_began first (Some to) = tt

out_began : (nat : Nat) (i : ℕ) (packet : Packet) (state : OutState) (reply : Reply) → BeganSo (Out Look i packet)
    (nat_goes nat (Out state i packet) reply)
out_began nat i packet Look (Done stamp) = tt
out_began nat i packet Look (Found value stamp) = looked_began _ (flow_to_of value.0)
out_began nat i packet Look Absent = refl
out_began nat i packet (Try number) (Done stamp) = refl
out_began nat i packet (Try number) (Found value stamp) = refl
out_began nat i packet (Try number) Absent = tt
out_began nat i packet (Confirm number version) (Done stamp) = tt
out_began nat i packet (Confirm number version) (Found value stamp) = go (flow_to_of value.0)
  where
    go : (o : Option FlowTo) → BeganSo (Out Look i packet) (stand_of_step (released i packet number version o))
    go None = tt
    go (Some to) = refl
out_began nat i packet (Confirm number version) Absent = tt
out_began nat i packet (Release number version port) reply = tt
out_began nat i packet Last (Done stamp) = tt
out_began nat i packet Last (Found value stamp) = looked_began _ (flow_to_of value.0)
out_began nat i packet Last Absent = tt

in_began : (nat : Nat) (packet : Packet) (state : InState) (reply : Reply) → BeganSo (In LookPort packet)
    (nat_goes nat (In state packet) reply)
in_began nat packet LookPort (Done stamp) = tt
in_began nat packet LookPort (Found value stamp) = go (claim_of value.0)
  where
    go : (o : Option Claim) → BeganSo (In LookPort packet) (stand_of_step (claimed packet o))
    go None = tt
    go (Some claim) = refl
in_began nat packet LookPort Absent = tt
in_began nat packet (LookFlow inside) (Done stamp) = tt
in_began nat packet (LookFlow inside) (Found value stamp) = go (flow_to_of value.0)
  where
    go : (o : Option FlowTo) → BeganSo (In LookPort packet) (stand_of_step (entered packet inside o))
    go None = tt
    go (Some to) = tt
in_began nat packet (LookFlow inside) Absent = tt

sweep_began : (nat : Nat) (proto : Proto) (port : Pair) (base : ℕ) (state : SweepState) (reply : Reply)
    → BeganSo (Sweep SweepPort proto port base) (nat_goes nat (Sweep state proto port base) reply)
sweep_began nat proto port base SweepPort (Done stamp) = tt
sweep_began nat proto port base SweepPort (Found value stamp) = go (claim_of value.0)
  where
    go : (o : Option Claim) → BeganSo (Sweep SweepPort proto port base) (swept proto port base stamp o)
    go None = tt
    go (Some claim) = by (nat_lt claim.incarnation base)
      where
        by : (b : Bool) → BeganSo (Sweep SweepPort proto port base)
            (cond b (Flies (Sweep (SweepFlow claim.inside stamp) proto port base)) (Ends None))
        by true = refl
        by false = tt
sweep_began nat proto port base SweepPort Absent = tt
sweep_began nat proto port base (SweepFlow inside version) (Done stamp) = refl
sweep_began nat proto port base (SweepFlow inside version) (Found value stamp) = by (names port (flow_to_of value.0))
  where
    by : (b : Bool) → BeganSo (Sweep SweepPort proto port base)
        (cond b (Ends None) (Flies (Sweep (Remove version) proto port base)))
    by true = tt
    by false = refl
sweep_began nat proto port base (SweepFlow inside version) Absent = refl
sweep_began nat proto port base (Remove version) reply = tt

pub began_so : (nat : Nat) (flight : NatFlight) (reply : Reply) → BeganSo (first_of flight)
    (nat_goes nat flight reply)
began_so nat (Out state i packet) reply = out_began nat i packet state reply
began_so nat (In state packet) reply = in_began nat packet state reply
began_so nat (Sweep state proto port base) reply = sweep_began nat proto port base state reply

-- a flight has its ranges from how it began
pub ranged_by : (nat : Nat) (base_at : ℕ → ℕ) (i : ℕ) (flight : NatFlight) → IsRanged nat base_at i (first_of flight)
    → IsRanged nat base_at i flight
ranged_by nat base_at i (Out state incarnation packet) h = h
ranged_by nat base_at i (In state packet) h = h
ranged_by nat base_at i (Sweep state proto port base) h = h

-- What an entry of any flight leaves.
module _ (nat : Nat) (is_nat : IsNat nat) (base_at : ℕ → ℕ) (before : List Entry)
    (e : Entry) (cells : Cells) (stamped : HasStamps before cells) (live : IsLive nat cells)
    (fresh : AllByRecursion (λ f. key_of f.request ≡ key_of e.request → f.stamp < e.stamp) before)
    (epochs : AllByRecursion (λ f. base_at f.incarnation ≤ base_at e.incarnation) before) (based : base_at e.incarnation
    ≤ e.incarnation) (replied : e.reply ≡ reply_to e.request e.stamp (cells (key_of e.request))) where
  running : IsCurrent base_at before e.incarnation
  running = running_now nat is_nat base_at before e cells stamped live fresh epochs based replied

  out_outcome : (state : OutState) (i : ℕ) (packet : Packet) → e.request ≡ nat_asks nat (Out state i packet)
      → IsRanged nat base_at e.incarnation (Out state i packet)
      → HoldsOut nat base_at before cells e.incarnation e.item packet state
      → Outcome nat base_at before e cells (after cells e) (Out state i packet)
  out_outcome Look i packet asked ranged h =
      look nat is_nat base_at before e cells stamped live fresh epochs based replied i packet asked ranged
  out_outcome (Try number) i packet asked ranged h =
      trying nat is_nat base_at before e cells stamped live fresh epochs based replied number i packet asked ranged h
  out_outcome (Confirm number version) i packet asked ranged h = confirming nat is_nat base_at
      before e cells stamped live fresh epochs based replied number version i packet asked ranged h.0 (h.1 running)
  out_outcome (Release number version port) i packet asked ranged h = (releasing nat is_nat base_at
      before e cells stamped live fresh epochs based replied number version port i packet asked ranged (h running)).1
  out_outcome Last i packet asked ranged h =
      last nat is_nat base_at before e cells stamped live fresh epochs based replied i packet asked ranged

  sweep_outcome : (state : SweepState) (proto : Proto) (port : Pair) (base : ℕ)
      → e.request ≡ nat_asks nat (Sweep state proto port base)
      → IsRanged nat base_at e.incarnation (Sweep state proto port base)
      → HoldsSweep base_at before cells proto port base state → Outcome nat base_at before e cells (after cells e)
      (Sweep state proto port base)
  sweep_outcome SweepPort proto port base asked ranged h = sweeping_port
      nat is_nat base_at before e cells stamped live fresh epochs based replied proto port base asked ranged
  sweep_outcome (SweepFlow inside version) proto port base asked ranged h = sweeping_flow
      nat is_nat base_at before e cells stamped live fresh epochs based replied inside version proto port base asked h
  sweep_outcome (Remove version) proto port base asked ranged h = removing
      nat is_nat base_at before e cells stamped live fresh epochs based replied version proto port base asked ranged h

  pub outcome_of : (flight : NatFlight) → e.request ≡ nat_asks nat flight → IsRanged nat base_at e.incarnation flight
      → Holds nat base_at before cells e.incarnation e.item flight
      → Outcome nat base_at before e cells (after cells e) flight
  outcome_of (Out state i packet) asked ranged h = out_outcome state i packet asked ranged h
  outcome_of (In state packet) asked ranged h =
      entering nat is_nat base_at before e cells stamped live fresh epochs based replied state packet asked ranged h
  outcome_of (Sweep state proto port base) asked ranged h = sweep_outcome state proto port base asked ranged h

-- one flight is one
pub same_flight : {F : Type 0} (a b : F) → Flies a ≡ Flies b → a ≡ b
same_flight a b h = cc

-- All flights after the entry.
module _ (nat : Nat) (is_nat : IsNat nat) (base_at : ℕ → ℕ) (begins : ℕ → ℕ → Stand NatFlight)
    (before : List Entry) (e : Entry) (cells next : Cells)
    (stand then : ℕ → ℕ → Stand NatFlight) (flight : NatFlight) (stands : stand e.incarnation e.item ≡ Flies flight)
    (mine : then e.incarnation e.item ≡ nat_goes nat flight e.reply)
    (others : (i k : ℕ) → is_of i k e ≡ false → then i k ≡ stand i k)
    (ranges : (i k : ℕ) (first : NatFlight) → begins i k ≡ Flies first → IsRanged nat base_at i first) where
  pub flying_step : IsFlying nat base_at begins before cells stand → Outcome nat base_at before e cells next flight
      → IsFlying nat base_at begins (before ++ e ∷ []) next then
  flying_step flying outcome = record {
    begun = λ i k f at. (known i k f at).0;
    holds = λ i k f at. (known i k f at).1;
  }
    where
      at_own : (st : Stand NatFlight) → StandHolds nat base_at (before ++ e ∷ []) next e.incarnation e.item st
          → BeganSo (first_of flight) st → (f : NatFlight) → st ≡ Flies f
          → (begins e.incarnation e.item ≡ Flies (first_of f)) × Holds nat base_at (before ++ e ∷ []) next e.incarnation e.item f
      at_own (Flies g) holds began f at =
          let same : g ≡ f = same_flight g f at in (
            flying.begun e.incarnation e.item flight stands ∙ ap (λ first. Flies first) (sym began ∙ ap first_of same),
            subst (Holds nat base_at (before ++ e ∷ []) next e.incarnation e.item) same holds,
          )
      at_own (Ends end) holds began f at = absurd (cc)

      known : (i k : ℕ) (f : NatFlight) → then i k ≡ Flies f
          → (begins i k ≡ Flies (first_of f)) × Holds nat base_at (before ++ e ∷ []) next i k f
      known i k f at = go (is_of i k e) refl
        where
          go : (b : Bool) → is_of i k e ≡ b
              → (begins i k ≡ Flies (first_of f)) × Holds nat base_at (before ++ e ∷ []) next i k f
          go true own =
              let parts : (e.incarnation ≡ i) × (e.item ≡ k) = own_parts i k e own in
              let here : then e.incarnation e.item ≡ Flies f = ap (λ j. then j e.item) parts.0 ∙ ap (then i) parts.1 ∙ at in
              let r : (begins e.incarnation e.item ≡ Flies (first_of f)) × Holds nat base_at
              (before ++ e ∷ []) next e.incarnation e.item f =
              at_own (nat_goes nat flight e.reply) outcome.own (began_so nat flight e.reply) f (sym mine ∙ here) in
              subst (λ j. (begins j k ≡ Flies (first_of f)) × Holds nat base_at (before ++ e ∷ []) next j k f) parts.0
              (subst (λ l. (begins e.incarnation l ≡ Flies (first_of f))
              × Holds nat base_at (before ++ e ∷ []) next e.incarnation l f) parts.1 r)
          go false other =
              let was : stand i k ≡ Flies f = sym (others i k other) ∙ at in
              let began : begins i k ≡ Flies (first_of f) = flying.begun i k f was in (
                began,
                holds_after nat is_nat base_at before e cells next outcome.carries i k f other
                    (ranged_by nat base_at i f (ranges i k (first_of f) began)) (flying.holds i k f was),
              )
