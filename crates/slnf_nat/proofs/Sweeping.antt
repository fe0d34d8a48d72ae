-- What a sweep leaves: at a port that it has done, each claim of an incarnation below its base has its flow's record.
use Rattle.std.proofs.Common.{◌≡◌, ◌^◌, ◌⊎◌, inl, inr, ℕ, zero, suc, ◌<◌, ◌≤◌, nat_lt, Bool, true, false, cond, ◌==◌, Option, Some, None, List, [], ◌∷◌, ◌++◌, length, take, drop, refl, ap, sym, ◌∙◌, subst, arith}
use Rattle.std.proofs.lemmas.Option.{same_Some}
use Rattle.std.proofs.lemmas.Bool.{eq-eqb, ltb-false}
use Rattle.slnf_base.specs.declared.addresses.Pair.{Pair}
use Rattle.slnf_base.specs.declared.packets.Proto.{Proto}
use Rattle.slnf_base.specs.declared.packets.Verdict.{Verdict}
use Rattle.slnf_access.specs.declared.requests.Value.{Value}
use Rattle.slnf_access.specs.declared.requests.Held.{Held}
use Rattle.slnf_access.specs.declared.requests.Entry.{Entry}
use Rattle.slnf_access.specs.declared.requests.Request.TheVariants.{PutIfAbsent, DeleteIf}
use Rattle.slnf_access.specs.declared.requests.Reply.{Reply}
use Rattle.slnf_access.specs.declared.requests.Reply.TheVariants.{Found, Absent}
use Rattle.slnf_access.specs.Map.{key_of, reply_to, cell_after, Cells, empty, map_after}
use Rattle.slnf_access.specs.Machines.{Stand, Flies, Ends}
use Rattle.slnf_access.proofs.Laws.{cell_of-append}
use Rattle.slnf_keys.specs.declared.values.FlowTo.{FlowTo}
use Rattle.slnf_keys.specs.declared.values.Claim.{Claim}
use Rattle.slnf_base.specs.Ranges.{IsPair}
use Rattle.slnf_keys.specs.Values.{claim_number, flow_to_of, claim_of}
use Rattle.slnf_keys.proofs.Laws.{claim-coded}
use Rattle.slnf_run.specs.Scene.{is_of, stand_of}
use Rattle.slnf_run.proofs.Splits.{IsSplit, split_at}
use Rattle.slnf_box.specs.Nat.{Nat}
use Rattle.slnf_nat.specs.Flights.{Look, Try, Confirm, Release, Last, LookPort, LookFlow, SweepState, SweepPort, SweepFlow, Remove, NatFlight, Out, In, Sweep, first_of}
use Rattle.slnf_nat.specs.Machine.{flow_key, port_key, tried, nat_asks, nat_goes, swept, names}
use Rattle.slnf_nat.specs.StoredFlows.{flow_in, flow_at, outside_of}
use Rattle.slnf_nat.specs.NatScene.{nat_scene}
use Rattle.slnf_nat.specs.Kept.{SomeEntry, IsOldClaim, HoldsSweep}
use Rattle.slnf_nat.specs.Given.{IsNat, IsRanged, IsNatList}
use Rattle.slnf_nat.proofs.Lists.{some_entry-more, some_entry-last, some_entry-each}
use Rattle.slnf_nat.proofs.Keys.{flow_port}
use Rattle.slnf_nat.proofs.Effects.{same_or_not, after, other_cell, own_cell, read_effect, read_reply, delete_none, delete_other, delete_done}
use Rattle.slnf_nat.proofs.Boxing.{same_pair}
use Rattle.slnf_nat.proofs.Flying.{own_parts, same_flight}
use Rattle.slnf_nat.proofs.Nexts.{IsNextOf, next_of, next_stands, others_stand, flow_stays}
use Rattle.slnf_nat.proofs.Explained.{flow_there}
use Rattle.slnf_nat.proofs.LiveFlows.{kept_before}
use Rattle.std.specs.List.{AllByRecursion}

-- a claim at the port that isn't the one with this version isn't of an incarnation below the base
abbrev pub IsNewer : Cells → Proto → Pair → ℕ → ℕ → Type 0
IsNewer cells proto port base version =
    (held : Held) (claim : Claim) → cells (port_key proto port) ≡ Some held
    → (held.version ≡ version → ⊥) → claim_of held.value.0 ≡ Some claim → base ≤ claim.incarnation

-- each claim at the port of an incarnation below the base has its flow's record, which names the port
abbrev pub IsClear : Cells → Proto → Pair → ℕ → Type 0
IsClear cells proto port base =
    (held : Held) (claim : Claim) → cells (port_key proto port) ≡ Some held
    → claim_of held.value.0 ≡ Some claim → claim.incarnation < base → flow_at cells proto claim.inside ≡ Some port

-- the epoch with this base has begun
abbrev pub HasBegun : (ℕ → ℕ) → List Entry → ℕ → Type 0
HasBegun base_at es base = SomeEntry (λ f. base ≤ base_at f.incarnation) es

-- What a sweep has done so far, where its item stands.
abbrev pub Clears : (ℕ → ℕ) → List Entry → Cells → Proto → Pair → ℕ → Stand NatFlight → Type 0
Clears base_at es cells proto port base (Flies (Out state i packet)) = ⊥
Clears base_at es cells proto port base (Flies (In state packet)) = ⊥
Clears base_at es cells proto port base (Flies (Sweep SweepPort q p b)) = (q ≡ proto) × (p ≡ port) × (b ≡ base)
Clears base_at es cells proto port base (Flies (Sweep (SweepFlow inside version) q p b)) =
    ((q ≡ proto) × (p ≡ port) × (b ≡ base)) × HasBegun base_at es base × IsNewer cells proto port base version
Clears base_at es cells proto port base (Flies (Sweep (Remove version) q p b)) =
    ((q ≡ proto) × (p ≡ port) × (b ≡ base)) × HasBegun base_at es base × IsNewer cells proto port base version
Clears base_at es cells proto port base (Ends end) = HasBegun base_at es base × IsClear cells proto port base

-- what a put leaves where nothing was
pub written : (key : ℕ) (value : Value) (stamp : ℕ) (cell : Option Held) (held : Held)
    → cell_after (PutIfAbsent (record { 0 = key }) value) stamp cell ≡ Some held
    → (cell ≡ Some held) ⊎ (held.value ≡ value)
written key value stamp None held h = inr (ap (λ (c : Held). c.value) (sym (same_Some _ held h)))
written key value stamp (Some there) held h = inl h

pub gone_or_there : (key version : ℕ) (stamp : ℕ) (cell : Option Held) (held : Held)
    → cell_after (DeleteIf (record { 0 = key }) version) stamp cell ≡ Some held → cell ≡ Some held
gone_or_there key version stamp None held h = h
gone_or_there key version stamp (Some there) held h = go (there.version == version) h
  where
    go : (b : Bool) → cond b None (Some there) ≡ Some held → Some there ≡ Some held
    go true h = absurd (cc)
    go false h = h

module _ (nat : Nat) (is_nat : IsNat nat) (base_at : ℕ → ℕ) (e : Entry) (cells : Cells) where
  -- what a request leaves at a port's key was there, or is a claim of the item's own incarnation
  by_request : (flight : NatFlight) (proto : Proto) (port : Pair) (held : Held)
      → IsRanged nat base_at e.incarnation flight → IsPair port → port_key proto port ≡ key_of (nat_asks nat flight)
      → cell_after (nat_asks nat flight) e.stamp (cells (key_of (nat_asks nat flight))) ≡ Some held
      → (cells (key_of (nat_asks nat flight)) ≡ Some held)
      ⊎ ((g : Pair) × (claim_of held.value.0 ≡ Some (record { incarnation = e.incarnation; inside = g })))
  by_request (Out Look i packet) proto port held ranged fits key h = inl h
  by_request (Out (Try number) i packet) proto port held ranged fits key h =
      elim (written (port_key packet.proto (tried nat packet number))
      (record { 0 = claim_number (record { incarnation = i; inside = packet.source }) }) e.stamp _ held h) [
        | inl was ↦ inl was
        | inr new ↦ inr (
          packet.source,
          ap (λ (v : Value). claim_of v.0) new ∙ claim-coded.reads
              (record { incarnation = i; inside = packet.source }) (
                subst (λ n. n < 2 ^ 32) (sym ranged.0) ranged.1,
                ranged.2,
              ) ∙ ap (λ n. Some (record { incarnation = n; inside = packet.source })) ranged.0,
        )
      ]
  by_request (Out (Confirm number version) i packet) proto port held ranged fits key h =
      absurd (flow_port packet.proto proto packet.source port ranged.2 fits (sym key))
  by_request (Out (Release number version to) i packet) proto port held ranged fits key h =
      inl (gone_or_there (port_key packet.proto (tried nat packet number)) version e.stamp _ held h)
  by_request (Out Last i packet) proto port held ranged fits key h = inl h
  by_request (In LookPort packet) proto port held ranged fits key h = inl h
  by_request (In (LookFlow g) packet) proto port held ranged fits key h = inl h
  by_request (Sweep SweepPort q p b) proto port held ranged fits key h = inl h
  by_request (Sweep (SweepFlow g version) q p b) proto port held ranged fits key h = inl h
  by_request (Sweep (Remove version) q p b) proto port held ranged fits key h =
      inl (gone_or_there (port_key q p) version e.stamp _ held h)

  port_after : (flight : NatFlight) (proto : Proto) (port : Pair) (held : Held) → e.request ≡ nat_asks nat flight
      → IsRanged nat base_at e.incarnation flight → IsPair port → after cells e (port_key proto port) ≡ Some held
      → (cells (port_key proto port) ≡ Some held)
      ⊎ ((g : Pair) × (claim_of held.value.0 ≡ Some (record { incarnation = e.incarnation; inside = g })))
  port_after flight proto port held asked ranged fits there = go (same_or_not (port_key proto port) (key_of e.request))
    where
      go : (port_key proto port ≡ key_of e.request) ⊎ (port_key proto port ≡ key_of e.request → ⊥)
          → (cells (port_key proto port) ≡ Some held)
          ⊎ ((g : Pair) × (claim_of held.value.0 ≡ Some (record { incarnation = e.incarnation; inside = g })))
      go (inr apart) = inl (sym (other_cell cells e (port_key proto port) apart) ∙ there)
      go (inl own) =
          let key : port_key proto port ≡ key_of (nat_asks nat flight) = own ∙ ap key_of asked in
          let left : cell_after (nat_asks nat flight) e.stamp (cells (key_of (nat_asks nat flight))) ≡ Some held =
          ap (λ r. cell_after r e.stamp (cells (key_of r))) (sym asked)
          ∙ sym (own_cell cells e) ∙ ap (after cells e) (sym own) ∙ there in
          elim (by_request flight proto port held ranged fits key left) [
            | inl was ↦ inl (ap cells key ∙ was)
            | inr new ↦ inr new
          ]

-- One entry of another item.
module _ (nat : Nat) (is_nat : IsNat nat) (base_at : ℕ → ℕ) (before : List Entry) (e : Entry)
    (cells next : Cells) (epochs : AllByRecursion (λ f. base_at f.incarnation ≤ base_at e.incarnation) before)
    (based : base_at e.incarnation ≤ e.incarnation) (ports : (proto : Proto) (port : Pair) (held : Held)
    → IsPair port → next (port_key proto port) ≡ Some held → (cells (port_key proto port) ≡ Some held)
    ⊎ ((g : Pair) × (claim_of held.value.0 ≡ Some (record { incarnation = e.incarnation; inside = g }))))
    (flows : (proto : Proto) (inside port : Pair) → IsPair inside
    → flow_at cells proto inside ≡ Some port → flow_at next proto inside ≡ Some port) where
  more : (base : ℕ) → HasBegun base_at before base → HasBegun base_at (before ++ e ∷ []) base
  more base h = some_entry-more (λ f. base ≤ base_at f.incarnation) before (e ∷ []) h

  -- a new claim isn't below a base that has begun
  not_below : (base : ℕ) (claim : Claim) (held : Held) (g : Pair) → HasBegun base_at before base
      → claim_of held.value.0 ≡ Some claim
      → claim_of held.value.0 ≡ Some (record { incarnation = e.incarnation; inside = g }) → base ≤ claim.incarnation
  not_below base claim held g begun is new =
      let same : claim.incarnation ≡ e.incarnation = ap (λ (c : Claim). c.incarnation) (same_Some claim _ (sym is ∙ new)) in
      some_entry-each (λ f. base ≤ base_at f.incarnation) (λ f. base_at f.incarnation ≤ base_at e.incarnation)
      (base ≤ claim.incarnation) before begun epochs (λ f a b. omega arith)

  newer_after : (proto : Proto) (port : Pair) (base version : ℕ) → IsPair port → HasBegun base_at before base
      → IsNewer cells proto port base version → IsNewer next proto port base version
  newer_after proto port base version fits begun newer held claim there differs is = go (ports proto port held fits there)
    where
      go : (cells (port_key proto port) ≡ Some held)
          ⊎ ((g : Pair) × (claim_of held.value.0 ≡ Some (record { incarnation = e.incarnation; inside = g })))
          → base ≤ claim.incarnation
      go (inl was) = newer held claim was differs is
      go (inr new) = not_below base claim held new.0 begun is new.1

  clear_after : (proto : Proto) (port : Pair) (base : ℕ) → IsPair port → HasBegun base_at before base
      → IsClear cells proto port base → IsClear next proto port base
  clear_after proto port base fits begun clear held claim there is less = go (ports proto port held fits there)
    where
      go : (cells (port_key proto port) ≡ Some held)
          ⊎ ((g : Pair) × (claim_of held.value.0 ≡ Some (record { incarnation = e.incarnation; inside = g })))
          → flow_at next proto claim.inside ≡ Some port
      go (inl was) = flows proto claim.inside port (claim-coded.has held.value.0 claim is).1.1 (clear held claim was is less)
      go (inr new) = let high : base ≤ claim.incarnation = not_below base claim held new.0 begun is new.1 in absurd (omega arith)

  pub clears_after : (proto : Proto) (port : Pair) (base : ℕ) (st : Stand NatFlight) → IsPair port
      → Clears base_at before cells proto port base st → Clears base_at (before ++ e ∷ []) next proto port base st
  clears_after proto port base (Flies (Out state i packet)) fits h = h
  clears_after proto port base (Flies (In state packet)) fits h = h
  clears_after proto port base (Flies (Sweep SweepPort q p b)) fits h = h
  clears_after proto port base (Flies (Sweep (SweepFlow inside version) q p b)) fits h =
      (h.0, more base h.1, newer_after proto port base version fits h.1 h.2)
  clears_after proto port base (Flies (Sweep (Remove version) q p b)) fits h =
      (h.0, more base h.1, newer_after proto port base version fits h.1 h.2)
  clears_after proto port base (Ends end) fits h = (more base h.0, clear_after proto port base fits h.0 h.1)

-- An entry of the sweep's own item.
module _ (nat : Nat) (base_at : ℕ → ℕ) (before : List Entry)
    (e : Entry) (cells : Cells) (proto : Proto) (port : Pair) (base : ℕ) (at_base : base ≡ base_at e.incarnation)
    (replied : e.reply ≡ reply_to e.request e.stamp (cells (key_of e.request))) where
  begun_now : HasBegun base_at (before ++ e ∷ []) base
  begun_now = some_entry-last (λ f. base ≤ base_at f.incarnation) before e (omega arith)

  -- it stands so after a reply
  abbrev Now : Cells → Stand NatFlight → Type 0
  Now next st = Clears base_at (before ++ e ∷ []) next proto port base st

  by_reply : (flight : NatFlight) (reply : Reply) → e.reply ≡ reply → after cells e ≡ cells
      → Now cells (nat_goes nat flight reply) → Now (after cells e) (nat_goes nat flight e.reply)
  by_reply flight reply is same now = subst (λ m. Now m (nat_goes nat flight e.reply))
      (sym same) (subst (λ r. Now cells (nat_goes nat flight r)) (sym is) now)

  clear_none : cells (port_key proto port) ≡ None → IsClear cells proto port base
  clear_none none held claim there is less = absurd (cc)

  own_port : e.request ≡ nat_asks nat (Sweep SweepPort proto port base) → Now (after cells e)
      (nat_goes nat (Sweep SweepPort proto port base) e.reply)
  own_port asked = go (cells (port_key proto port)) refl
    where
      one : (held there : Held) → cells (port_key proto port) ≡ Some held → cells (port_key proto port) ≡ Some there
          → there ≡ held
      one held there is at = same_Some there held (sym at ∙ is)

      found : (held : Held) → cells (port_key proto port) ≡ Some held → (o : Option Claim)
          → claim_of held.value.0 ≡ o → Now cells (swept proto port base held.version o)
      found held is None w = (
        begun_now,
        λ there claim at read less. let both : claim_of held.value.0 ≡ Some claim =
            ap (λ (h : Held). claim_of h.value.0) (sym (one held there is at)) ∙ read in absurd (cc),
      )
      found held is (Some own) w = by (nat_lt own.incarnation base) refl
        where
          by : (b : Bool) → nat_lt own.incarnation base ≡ b
              → Now cells (cond b (Flies (Sweep (SweepFlow own.inside held.version) proto port base)) (Ends None))
          by true less = (
            (refl, refl, refl),
            begun_now,
            λ there claim at differs read. absurd (differs (ap (λ (h : Held). h.version) (one held there is at))),
          )
          by false less = (
            begun_now,
            λ there claim at read below.
                let same : claim ≡ own =
                same_Some claim own (sym read ∙ ap (λ (h : Held). claim_of h.value.0) (one held there is at) ∙ w) in
                let incarnation : claim.incarnation ≡ own.incarnation = ap (λ (c : Claim). c.incarnation) same in
                let high : base ≤ own.incarnation = ltb-false own.incarnation base less in
                absurd (omega arith),
          )

      go : (cell : Option Held) → cells (port_key proto port) ≡ cell → Now (after cells e)
          (nat_goes nat (Sweep SweepPort proto port base) e.reply)
      go None is = by_reply (Sweep SweepPort proto port base) Absent
          (read_reply cells e _ None asked replied is) (read_effect cells e _ asked) (begun_now, clear_none is)
      go (Some held) is = by_reply (Sweep SweepPort proto port base)
          (Found held.value held.version) (read_reply cells e _ (Some held) asked replied is)
          (read_effect cells e _ asked) (found held is (claim_of held.value.0) refl)

  -- with the flow's record the port is clear
  own_flow : (inside : Pair) (version : ℕ)
      → e.request ≡ nat_asks nat (Sweep (SweepFlow inside version) proto port base)
      → HoldsSweep base_at before cells proto port base (SweepFlow inside version)
      → IsNewer cells proto port base version → Now (after cells e)
      (nat_goes nat (Sweep (SweepFlow inside version) proto port base) e.reply)
  own_flow inside version asked holds newer = go (cells (flow_key proto inside)) refl
    where
      clear : flow_at cells proto inside ≡ Some port → IsClear cells proto port base
      clear named held claim there is less = by (same_or_not held.version version)
        where
          by : (held.version ≡ version) ⊎ (held.version ≡ version → ⊥) → flow_at cells proto claim.inside ≡ Some port
          by (inl same) =
              let below : IsOldClaim base held inside = holds.1 held there same in
              let one : claim ≡ (let c : Claim = record { incarnation = below.0; inside = inside } in c) =
              same_Some claim _ (sym is ∙ below.2) in
              ap (flow_at cells proto) (ap (λ (c : Claim). c.inside) one) ∙ named
          by (inr differs) = let high : base ≤ claim.incarnation = newer held claim there differs is in absurd (omega arith)

      named_by : (o : Option FlowTo) → names port o ≡ true → outside_of o ≡ Some port
      named_by None w = absurd (cc)
      named_by (Some to) w = ap (λ (p : Pair). Some p) (same_pair to.outside port w)

      found : (held : Held) → cells (flow_key proto inside) ≡ Some held → (b : Bool)
          → names port (flow_to_of held.value.0) ≡ b
          → Now cells (cond b (Ends None) (Flies (Sweep (Remove version) proto port base)))
      found held is true w = (begun_now, clear (ap flow_in is ∙ named_by (flow_to_of held.value.0) w))
      found held is false w = ((refl, refl, refl), begun_now, newer)

      go : (cell : Option Held) → cells (flow_key proto inside) ≡ cell → Now (after cells e)
          (nat_goes nat (Sweep (SweepFlow inside version) proto port base) e.reply)
      go None is = by_reply (Sweep (SweepFlow inside version) proto port base) Absent
          (read_reply cells e _ None asked replied is)
          (read_effect cells e _ asked) ((refl, refl, refl), begun_now, newer)
      go (Some held) is = by_reply (Sweep (SweepFlow inside version) proto port base)
          (Found held.value held.version) (read_reply cells e _ (Some held) asked replied is)
          (read_effect cells e _ asked) (found held is (names port (flow_to_of held.value.0)) refl)

  -- after the removal nothing below the base is there
  own_remove : (version : ℕ) → e.request ≡ nat_asks nat (Sweep (Remove version) proto port base)
      → IsNewer cells proto port base version → Now (after cells e)
      (nat_goes nat (Sweep (Remove version) proto port base) e.reply)
  own_remove version asked newer = go (cells (port_key proto port)) refl
    where
      found : (held : Held) → cells (port_key proto port) ≡ Some held → (b : Bool) → (held.version == version) ≡ b
          → Now (after cells e) (Ends None)
      found held is true same = (
        begun_now,
        λ there claim at read less. let none : after cells e (port_key proto port) ≡ None =
            (delete_done cells e _ version held asked is same).here in absurd (cc),
      )
      found held is false differs =
          subst (λ m. Now m (Ends None)) (sym (delete_other cells e _ version held asked is differs)) (
            begun_now,
            λ there claim at read less.
                let one : there ≡ held = same_Some there held (sym at ∙ is) in
                let high : base ≤ claim.incarnation = newer there claim at (λ h. let t : (held.version == version)
                ≡ true = eq-eqb _ _ (ap (λ (x : Held). x.version) (sym one) ∙ h) in cc) read in
                absurd (omega arith),
          )

      go : (cell : Option Held) → cells (port_key proto port) ≡ cell → Now (after cells e) (Ends None)
      go None is = subst (λ m. Now m (Ends None)) (sym (delete_none cells e _ version asked is)) (begun_now, clear_none is)
      go (Some held) is = found held is (held.version == version) refl

-- a flight that began as a sweep's
pub sweep_began : (flight : NatFlight) (proto : Proto) (port : Pair) (base : ℕ)
    → first_of flight ≡ Sweep SweepPort proto port base
    → (state : SweepState) × (flight ≡ Sweep state proto port base)
sweep_began (Out state i packet) proto port base h = absurd (cc)
sweep_began (In state packet) proto port base h = absurd (cc)
sweep_began (Sweep state q p b) proto port base h = (state, cc)

module _ (nat : Nat) (is_nat : IsNat nat) (base_at : ℕ → ℕ) (begins : ℕ → ℕ → Stand NatFlight)
    (es : List Entry) (given : IsNatList nat base_at begins es) where
  -- what all sweeps have done
  abbrev pub AllClear : List Entry → Type 0
  AllClear before =
      (i k : ℕ) (proto : Proto) (port : Pair) (base : ℕ) → begins i k ≡ Flies (Sweep SweepPort proto port base)
      → Clears base_at before (map_after empty before) proto port base (stand_of (nat_scene nat begins) i k before)

  first : AllClear []
  first i k proto port base began = subst (Clears base_at [] empty proto port base) (sym began) (refl, refl, refl)

  own_step : (before later : List Entry) (e : Entry) → es ≡ before ++ e ∷ later → AllClear before
      → (state : SweepState) (proto : Proto) (port : Pair) (base : ℕ)
      → IsNextOf nat base_at begins before e (Sweep state proto port base) → Clears base_at (before ++ e ∷ [])
      (after (map_after empty before) e) proto port base (nat_goes nat (Sweep state proto port base) e.reply)
  own_step before later e split all SweepPort proto port base next =
      own_port nat base_at before e (map_after empty before) proto port base next.ranged.1 next.replied next.asked
  own_step before later e split all (SweepFlow inside version) proto port base next =
      let was : Clears base_at before (map_after empty before) proto port base
      (Flies (Sweep (SweepFlow inside version) proto port base)) =
      subst (Clears base_at before (map_after empty before) proto port base) next.stands
      (all e.incarnation e.item proto port base next.began) in
      own_flow nat base_at before e (map_after empty before) proto port base next.ranged.1 next.replied inside version next.asked
      ((kept_before nat is_nat base_at begins es given before later e split).flying.holds e.incarnation e.item
      (Sweep (SweepFlow inside version) proto port base) next.stands) was.2
  own_step before later e split all (Remove version) proto port base next =
      let was : Clears base_at before (map_after empty before) proto port base
      (Flies (Sweep (Remove version) proto port base)) = subst (Clears base_at before (map_after empty before)
      proto port base) next.stands (all e.incarnation e.item proto port base next.began) in
      own_remove nat base_at before e (map_after empty before) proto port base next.ranged.1 next.replied version next.asked was.2

  step : (before later : List Entry) (e : Entry) → es ≡ before ++ e ∷ later → AllClear before
      → AllClear (before ++ e ∷ [])
  step before later e split all i k proto port base began =
      subst (λ m. Clears base_at (before ++ e ∷ []) m proto port base
      (stand_of (nat_scene nat begins) i k (before ++ e ∷ []))) (sym push) (go (is_of i k e) refl)
    where
      push : map_after empty (before ++ e ∷ []) ≡ after (map_after empty before) e
      push = λ j key. cell_of-append key None before (e ∷ []) j

      next : (flight : NatFlight) × IsNextOf nat base_at begins before e flight
      next = next_of nat is_nat base_at begins es given before later e split

      flows : (q : Proto) (inside to : Pair) → IsPair inside → flow_at (map_after empty before) q inside ≡ Some to
          → flow_at (after (map_after empty before) e) q inside ≡ Some to
      flows q inside to fits there =
          let r = flow_there (map_after empty before (flow_key q inside)) to there in
          let stay : map_after empty (before ++ e ∷ []) (flow_key q inside) ≡ Some r.0 =
          flow_stays nat is_nat base_at begins es given before (e ∷ []) later split q inside r.0 fits r.1 in
          ap (λ (m : Cells). flow_at m q inside) (sym push) ∙ ap flow_in stay ∙ r.2

      own : (e.incarnation ≡ i) → (e.item ≡ k) → Clears base_at (before ++ e ∷ [])
          (after (map_after empty before) e) proto port base (stand_of (nat_scene nat begins) i k (before ++ e ∷ []))
      own same_i same_k =
          let mine : begins e.incarnation e.item ≡ Flies (Sweep SweepPort proto port base) =
          ap (λ j. begins j e.item) same_i ∙ ap (begins i) same_k ∙ began in
          let is : (state : SweepState) × (next.0 ≡ Sweep state proto port base) =
          sweep_began next.0 proto port base (same_flight (first_of next.0) _ (sym next.1.began ∙ mine)) in
          let here : IsNextOf nat base_at begins before e (Sweep is.0 proto port base) =
          subst (IsNextOf nat base_at begins before e) is.1 next.1 in
          let done = own_step before later e split all is.0 proto port base here in
          let stands : stand_of (nat_scene nat begins) i k
          (before ++ e ∷ []) ≡ nat_goes nat (Sweep is.0 proto port base) e.reply =
          ap (λ j. stand_of (nat_scene nat begins) j k (before ++ e ∷ [])) (sym same_i)
          ∙ ap (λ l. stand_of (nat_scene nat begins) e.incarnation l (before ++ e ∷ [])) (sym same_k)
          ∙ next_stands nat is_nat base_at begins es given before e (Sweep is.0 proto port base) here in
          subst (Clears base_at (before ++ e ∷ []) (after (map_after empty before) e) proto port base) (sym stands) done

      go : (b : Bool) → is_of i k e ≡ b → Clears base_at (before ++ e ∷ [])
          (after (map_after empty before) e) proto port base (stand_of (nat_scene nat begins) i k (before ++ e ∷ []))
      go true w = let parts = own_parts i k e w in own parts.0 parts.1
      go false w =
          subst (Clears base_at (before ++ e ∷ []) (after (map_after empty before) e) proto port base)
          (sym (others_stand nat is_nat base_at begins es given before e i k w))
          (clears_after nat is_nat base_at before e (map_after empty before)
          (after (map_after empty before) e) (given.epochs before later e split) (given.bases e.incarnation)
          (λ q p held fits there. port_after nat is_nat base_at e
          (map_after empty before) next.0 q p held next.1.asked next.1.ranged fits there)
          flows proto port base _ (given.ranges i k (Sweep SweepPort proto port base) began).0 (all i k proto port base began))

  pub all_clear : (t : ℕ) → t ≤ length es → AllClear (take t es)
  all_clear zero h = first
  all_clear (suc t) h =
      let r : (e : Entry) × IsSplit es t e = split_at es t h in
      subst AllClear (sym r.1.front) (step (take t es) (drop (suc t) es) r.0 r.1.whole (all_clear t (omega arith)))

  -- After a sweep has done a port, each claim at it of an incarnation below the base has its flow's record, which names the port.
  pub swept_clear : (t i k : ℕ) (proto : Proto) (port : Pair) (base : ℕ) (end : Option Verdict) → t ≤ length es
      → begins i k ≡ Flies (Sweep SweepPort proto port base)
      → stand_of (nat_scene nat begins) i k (take t es) ≡ Ends end
      → IsClear (map_after empty (take t es)) proto port base
  swept_clear t i k proto port base end h began ends =
      (subst (Clears base_at (take t es) (map_after empty (take t es)) proto port base) ends
      (all_clear t h i k proto port base began)).1
