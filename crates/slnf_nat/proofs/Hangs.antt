-- Each claim has its flow's record, or an item of its own incarnation that hasn't ended.
use Rattle.std.proofs.Common.{◌≡◌, ◌^◌, ◌⊎◌, inl, inr, ℕ, zero, suc, ◌<◌, ◌≤◌, Bool, true, false, Option, Some, None, List, [], ◌∷◌, ◌++◌, length, take, drop, refl, ap, sym, ◌∙◌, subst, arith}
use Rattle.std.proofs.lemmas.Bool.{eq-eqb}
use Rattle.std.proofs.lemmas.Option.{same_Some}
use Rattle.slnf_base.specs.declared.addresses.Pair.{Pair}
use Rattle.slnf_base.specs.declared.packets.Proto.{Proto}
use Rattle.slnf_access.specs.declared.requests.Value.{Value}
use Rattle.slnf_access.specs.declared.requests.Held.{Held}
use Rattle.slnf_access.specs.declared.requests.Entry.{Entry}
use Rattle.slnf_access.specs.declared.requests.Request.TheVariants.{PutIfAbsent}
use Rattle.slnf_access.specs.declared.requests.Reply.TheVariants.{Done}
use Rattle.slnf_access.specs.Map.{key_of, reply_to, cell_after, Cells, empty, map_after}
use Rattle.slnf_access.specs.Machines.{Stand, Flies, stand_of_step}
use Rattle.slnf_access.proofs.Laws.{cell_of-append}
use Rattle.slnf_keys.specs.declared.values.Claim.{Claim}
use Rattle.slnf_keys.specs.declared.values.FlowTo.{FlowTo}
use Rattle.slnf_base.specs.Ranges.{IsPair}
use Rattle.slnf_keys.specs.Values.{claim_number, claim_of, flow_to_of}
use Rattle.slnf_keys.proofs.Laws.{claim-coded, flow_to-coded}
use Rattle.slnf_run.specs.Scene.{is_of, stand_of}
use Rattle.slnf_run.proofs.Splits.{IsSplit, split_at}
use Rattle.slnf_box.specs.Nat.{Nat}
use Rattle.slnf_nat.specs.Flights.{Look, Try, Confirm, Release, Last, LookPort, LookFlow, SweepPort, SweepFlow, Remove, NatFlight, Out, In, Sweep}
use Rattle.slnf_nat.specs.Machine.{flow_key, port_key, tried, nat_asks, nat_goes, released}
use Rattle.slnf_nat.specs.StoredFlows.{flow_in, flow_at, outside_of}
use Rattle.slnf_nat.specs.NatScene.{nat_scene}
use Rattle.slnf_nat.specs.Kept.{IsLive}
use Rattle.slnf_nat.specs.Given.{IsNat, IsRanged, IsNatList}
use Rattle.slnf_nat.specs.Leaks.{Hangs}
use Rattle.slnf_nat.proofs.Keys.{flow_port, port_key_same}
use Rattle.slnf_nat.proofs.Effects.{same_or_not, after, other_cell, own_cell, put_reply, put_done, delete_done}
use Rattle.slnf_nat.proofs.Flying.{own_parts}
use Rattle.slnf_nat.proofs.Nexts.{IsNextOf, next_of, next_stands, others_stand, flow_stays}
use Rattle.slnf_nat.proofs.Explained.{flow_there}
use Rattle.slnf_nat.proofs.LiveFlows.{kept_before}
use Rattle.slnf_nat.proofs.Sweeping.{gone_or_there}

-- what a put leaves was there, or is new, and then the reply is Done
put_new : (key : ℕ) (value : Value) (stamp : ℕ) (cell : Option Held) (held : Held)
    → cell_after (PutIfAbsent (record { 0 = key }) value) stamp cell ≡ Some held
    → (cell ≡ Some held) ⊎ ((held.value ≡ value) × (held.version ≡ stamp)
    × (reply_to (PutIfAbsent (record { 0 = key }) value) stamp cell ≡ Done stamp))
put_new key value stamp None held h = let same = same_Some _ held h in
    inr (ap (λ (c : Held). c.value) (sym same), ap (λ (c : Held). c.version) (sym same), refl)
put_new key value stamp (Some there) held h = inl h

module _ (nat : Nat) (is_nat : IsNat nat) (base_at : ℕ → ℕ) (e : Entry) (cells : Cells) where
  -- what a request leaves at a port's key was there, or is a new claim of the item's own incarnation, and the item hangs
  abbrev pub Left : NatFlight → Proto → Pair → Option Held → Held → Type 0
  Left flight proto port cell held =
      (cell ≡ Some held)
      ⊎ ((g : Pair) × (claim_of held.value.0 ≡ Some (record { incarnation = e.incarnation; inside = g }))
      × Hangs nat proto port g held.version (nat_goes nat flight e.reply))

  by_request : (flight : NatFlight) (proto : Proto) (port : Pair) (held : Held)
      → IsRanged nat base_at e.incarnation flight → IsPair port
      → e.reply ≡ reply_to (nat_asks nat flight) e.stamp (cells (key_of (nat_asks nat flight)))
      → port_key proto port ≡ key_of (nat_asks nat flight)
      → cell_after (nat_asks nat flight) e.stamp (cells (key_of (nat_asks nat flight))) ≡ Some held
      → Left flight proto port (cells (key_of (nat_asks nat flight))) held
  by_request (Out Look i packet) proto port held ranged fits replied key h = inl h
  by_request (Out (Try number) i packet) proto port held ranged fits replied key h =
      elim (put_new (port_key packet.proto (tried nat packet number))
      (record { 0 = claim_number (record { incarnation = i; inside = packet.source }) }) e.stamp _ held h) [
        | inl was ↦ inl was
        | inr new ↦
            let same = port_key_same proto packet.proto port
            (tried nat packet number) fits (is_nat.candidate_fits packet.proto packet.source number) key in
            inr (
              packet.source,
              ap (λ (v : Value). claim_of v.0) new.0
                  ∙ claim-coded.reads (record { incarnation = i; inside = packet.source })
                  (subst (λ n. n < 2 ^ 32) (sym ranged.0) ranged.1, ranged.2)
                  ∙ ap (λ n. Some (record { incarnation = n; inside = packet.source })) ranged.0,
              subst (λ r. Hangs nat proto port packet.source held.version (nat_goes nat (Out (Try number) i packet) r))
                  (sym (replied ∙ new.2)) (sym same.0, refl, sym same.1, sym new.1),
            )
      ]
  by_request (Out (Confirm number version) i packet) proto port held ranged fits replied key h =
      absurd (flow_port packet.proto proto packet.source port ranged.2 fits (sym key))
  by_request (Out (Release number version to) i packet) proto port held ranged fits replied key h =
      inl (gone_or_there (port_key packet.proto (tried nat packet number)) version e.stamp _ held h)
  by_request (Out Last i packet) proto port held ranged fits replied key h = inl h
  by_request (In LookPort packet) proto port held ranged fits replied key h = inl h
  by_request (In (LookFlow g) packet) proto port held ranged fits replied key h = inl h
  by_request (Sweep SweepPort q p b) proto port held ranged fits replied key h = inl h
  by_request (Sweep (SweepFlow g version) q p b) proto port held ranged fits replied key h = inl h
  by_request (Sweep (Remove version) q p b) proto port held ranged fits replied key h =
      inl (gone_or_there (port_key q p) version e.stamp _ held h)

  pub left_after : (flight : NatFlight) (proto : Proto) (port : Pair) (held : Held) → e.request ≡ nat_asks nat flight
      → e.reply ≡ reply_to e.request e.stamp (cells (key_of e.request)) → IsRanged nat base_at e.incarnation flight
      → IsPair port → after cells e (port_key proto port) ≡ Some held
      → Left flight proto port (cells (port_key proto port)) held
  left_after flight proto port held asked replied ranged fits there = go (same_or_not (port_key proto port) (key_of e.request))
    where
      go : (port_key proto port ≡ key_of e.request) ⊎ (port_key proto port ≡ key_of e.request → ⊥)
          → Left flight proto port (cells (port_key proto port)) held
      go (inr apart) = inl (sym (other_cell cells e (port_key proto port) apart) ∙ there)
      go (inl own) =
          let key : port_key proto port ≡ key_of (nat_asks nat flight) = own ∙ ap key_of asked in
          let left : cell_after (nat_asks nat flight) e.stamp (cells (key_of (nat_asks nat flight))) ≡ Some held =
          ap (λ r. cell_after r e.stamp (cells (key_of r))) (sym asked)
          ∙ sym (own_cell cells e) ∙ ap (after cells e) (sym own) ∙ there in
          subst (λ cell. Left flight proto port cell held) (sym (ap cells key)) (by_request flight
          proto port held ranged fits (replied ∙ ap (λ r. reply_to r e.stamp (cells (key_of r))) asked) key left)

  -- An entry of the item that hangs: the claim gets its flow's record, or is gone, or the item hangs on.
  own_step : (live : IsLive nat cells) (flight : NatFlight) (proto : Proto) (port inside : Pair) (held : Held)
      → e.request ≡ nat_asks nat flight → e.reply ≡ reply_to e.request e.stamp (cells (key_of e.request))
      → IsRanged nat base_at e.incarnation flight → cells (port_key proto port) ≡ Some held
      → after cells e (port_key proto port) ≡ Some held → Hangs nat proto port inside held.version (Flies flight)
      → (flow_at (after cells e) proto inside ≡ Some port)
      ⊎ Hangs nat proto port inside held.version (nat_goes nat flight e.reply)
  own_step live (Out Look i packet) proto port inside held asked replied ranged was there h = absurd h
  own_step live (Out (Try number) i packet) proto port inside held asked replied ranged was there h = absurd h
  own_step live (Out (Confirm number version) i packet) proto port inside held asked replied ranged was there h =
      go (cells (flow_key packet.proto packet.source)) refl
    where
      record_of : FlowTo
      record_of = record { outside = tried nat packet number }

      by : (o : Option FlowTo) (found : Held) → cells (flow_key packet.proto packet.source) ≡ Some found
          → flow_to_of found.value.0 ≡ o
          → Hangs nat proto port inside held.version (stand_of_step (released i packet number version o))
      by None found at w =
          let none : cells (flow_key packet.proto packet.source) ≡ None =
          live.whole packet.proto packet.source ranged.2 (ap flow_in at ∙ ap outside_of w) in
          absurd (cc)
      by (Some to) found at w = h

      go : (cell : Option Held) → cells (flow_key packet.proto packet.source) ≡ cell
          → (flow_at (after cells e) proto inside ≡ Some port)
          ⊎ Hangs nat proto port inside held.version (nat_goes nat (Out (Confirm number version) i packet) e.reply)
      go None none =
          let put = put_done cells e _ _ asked none in
          let here : flow_at (after cells e) packet.proto packet.source ≡ Some (tried nat packet number) =
          ap flow_in put.here ∙ ap outside_of
          (flow_to-coded.reads record_of (is_nat.candidate_fits packet.proto packet.source number)) in
          inl (ap (λ q. flow_at (after cells e) q inside) (sym h.0)
          ∙ ap (flow_at (after cells e) packet.proto) (sym h.1) ∙ here ∙ ap (λ p. Some p) h.2)
      go (Some found) at =
          inr (subst
          (λ r. Hangs nat proto port inside held.version (nat_goes nat (Out (Confirm number version) i packet) r))
          (sym (put_reply cells e _ _ (Some found) asked replied at)) (by (flow_to_of found.value.0) found at refl))
  own_step live (Out (Release number version to) i packet) proto port inside held asked replied ranged was there h =
      let key : port_key packet.proto (tried nat packet number) ≡ port_key proto port =
      ap (λ q. port_key q (tried nat packet number)) h.0 ∙ ap (port_key proto) h.2 in
      let gone : after cells e (port_key packet.proto (tried nat packet number)) ≡ None = (delete_done
      cells e _ version held asked (ap cells key ∙ was) (eq-eqb held.version version (sym h.3))).here in
      let none : after cells e (port_key proto port) ≡ None = ap (after cells e) (sym key) ∙ gone in
      absurd (cc)
  own_step live (Out Last i packet) proto port inside held asked replied ranged was there h = absurd h
  own_step live (In state packet) proto port inside held asked replied ranged was there h = absurd h
  own_step live (Sweep state q p b) proto port inside held asked replied ranged was there h = absurd h

module _ (nat : Nat) (is_nat : IsNat nat) (base_at : ℕ → ℕ) (begins : ℕ → ℕ → Stand NatFlight)
    (es : List Entry) (given : IsNatList nat base_at begins es) where
  -- each claim has its flow's record or hangs
  abbrev Accounts : List Entry → Cells → List Entry → Type 0
  Accounts before cells upto =
      (proto : Proto) (port : Pair) (claim : Claim) (held : Held)
      → IsPair port → cells (port_key proto port) ≡ Some held → claim_of held.value.0 ≡ Some claim →
      (flow_at cells proto claim.inside ≡ Some port) ⊎ ((k : ℕ)
      × Hangs nat proto port claim.inside held.version (stand_of (nat_scene nat begins) claim.incarnation k upto))

  abbrev pub AllAccounted : List Entry → Type 0
  AllAccounted before = Accounts before (map_after empty before) before

  step : (before later : List Entry) (e : Entry) → es ≡ before ++ e ∷ later → AllAccounted before
      → AllAccounted (before ++ e ∷ [])
  step before later e split all = subst (λ m. Accounts before m (before ++ e ∷ [])) (sym push) next_all
    where
      cells : Cells
      cells = map_after empty before

      push : map_after empty (before ++ e ∷ []) ≡ after (map_after empty before) e
      push = λ j key. cell_of-append key None before (e ∷ []) j

      next : (flight : NatFlight) × IsNextOf nat base_at begins before e flight
      next = next_of nat is_nat base_at begins es given before later e split

      stands_now : stand_of (nat_scene nat begins) e.incarnation e.item (before ++ e ∷ []) ≡ nat_goes nat next.0 e.reply
      stands_now = next_stands nat is_nat base_at begins es given before e next.0 next.1

      flows : (q : Proto) (inside to : Pair) → IsPair inside → flow_at cells q inside ≡ Some to
          → flow_at (after cells e) q inside ≡ Some to
      flows q inside to fits there =
          let r = flow_there (cells (flow_key q inside)) to there in
          let stay : map_after empty (before ++ e ∷ []) (flow_key q inside) ≡ Some r.0 =
          flow_stays nat is_nat base_at begins es given before (e ∷ []) later split q inside r.0 fits r.1 in
          ap (λ (m : Cells). flow_at m q inside) (sym push) ∙ ap flow_in stay ∙ r.2

      next_all : Accounts before (after cells e) (before ++ e ∷ [])
      next_all proto port claim held fits there reads = go (left_after
          nat is_nat base_at e cells next.0 proto port held next.1.asked next.1.replied next.1.ranged fits there)
        where
          Now : Type 0
          Now = (flow_at (after cells e) proto claim.inside ≡ Some port) ⊎ ((k : ℕ) × Hangs nat proto
              port claim.inside held.version (stand_of (nat_scene nat begins) claim.incarnation k (before ++ e ∷ [])))

          hanging : cells (port_key proto port) ≡ Some held → (k : ℕ)
              → Hangs nat proto port claim.inside held.version (stand_of (nat_scene nat begins) claim.incarnation k before)
              → Now
          hanging was k h = by (is_of claim.incarnation k e) refl
            where
              own : e.incarnation ≡ claim.incarnation → e.item ≡ k → Now
              own same_i same_k =
                  let before_is : stand_of (nat_scene nat begins) claim.incarnation k before ≡ Flies next.0 =
                  ap (λ j. stand_of (nat_scene nat begins) j k before) (sym same_i)
                  ∙ ap (λ l. stand_of (nat_scene nat begins) e.incarnation l before) (sym same_k) ∙ next.1.stands in
                  let after_is : stand_of (nat_scene nat begins) claim.incarnation k
                  (before ++ e ∷ []) ≡ nat_goes nat next.0 e.reply =
                  ap (λ j. stand_of (nat_scene nat begins) j k (before ++ e ∷ [])) (sym same_i)
                  ∙ ap (λ l. stand_of (nat_scene nat begins) e.incarnation l (before ++ e ∷ [])) (sym same_k)
                  ∙ stands_now in
                  elim (own_step nat is_nat base_at e cells (kept_before nat is_nat base_at begins es
                  given before later e split).live next.0 proto port claim.inside held next.1.asked next.1.replied
                  next.1.ranged was there (subst (Hangs nat proto port claim.inside held.version) before_is h)) [
                    | inl live ↦ inl live
                    | inr on ↦ inr (k, subst (Hangs nat proto port claim.inside held.version) (sym after_is) on)
                  ]

              by : (b : Bool) → is_of claim.incarnation k e ≡ b → Now
              by true w = let parts = own_parts claim.incarnation k e w in own parts.0 parts.1
              by false w = inr (
                k,
                subst (Hangs nat proto port claim.inside held.version)
                    (sym (others_stand nat is_nat base_at begins es given before e claim.incarnation k w)) h,
              )

          go : Left nat is_nat base_at e cells next.0 proto port (cells (port_key proto port)) held → Now
          go (inl was) = elim (all proto port claim held fits was reads) [
            | inl live ↦ inl (flows proto claim.inside port (claim-coded.has held.value.0 claim reads).1.1 live)
            | inr hangs ↦ hanging was hangs.0 hangs.1
          ]
          go (inr new) =
              let same : (let c : Claim = record { incarnation = e.incarnation; inside = new.0 } in c) ≡ claim =
              same_Some _ claim (sym new.1 ∙ reads) in
              let hangs : Hangs nat proto port new.0 held.version (stand_of (nat_scene nat begins) e.incarnation e.item
              (before ++ e ∷ [])) = subst (Hangs nat proto port new.0 held.version) (sym stands_now) new.2 in
              inr (
                e.item,
                subst (λ (c : Claim). Hangs nat proto port c.inside held.version
                    (stand_of (nat_scene nat begins) c.incarnation e.item (before ++ e ∷ []))) same hangs,
              )

  -- After each prefix each claim has its flow's record, which names its port, or an item of its incarnation hangs on it.
  pub accounted : (t : ℕ) → t ≤ length es → AllAccounted (take t es)
  accounted zero h = λ proto port claim held fits there reads. absurd (nothing held there)
    where
      nothing : (held : Held) → None ≡ Some held → ⊥
      nothing held q = cc
  accounted (suc t) h =
      let r : (e : Entry) × IsSplit es t e = split_at es t h in
      subst AllAccounted (sym r.1.front) (step (take t es) (drop (suc t) es) r.0 r.1.whole (accounted t (omega arith)))
