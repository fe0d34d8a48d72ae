-- Nothing leaks.
use Rattle.std.proofs.Common.{◌≡◌, ◌⊎◌, inl, inr, ℕ, ◌<◌, ◌≤◌, nat_lt, Bool, true, false, cond, ◌==◌, ◌&&◌, Option, Some, None, List, [], ◌∷◌, ◌++◌, length, take, refl, ap, sym, ◌∙◌, subst, arith}
use Rattle.std.proofs.lemmas.Bool.{eqb-true, ltb-false, ltb-true}
use Rattle.std.proofs.lemmas.Option.{same_Some}
use Rattle.slnf_base.specs.declared.addresses.Pair.{Pair}
use Rattle.slnf_base.specs.declared.packets.Proto.{Proto}
use Rattle.slnf_access.specs.declared.requests.Held.{Held}
use Rattle.slnf_access.specs.declared.requests.Entry.{Entry}
use Rattle.slnf_access.specs.Map.{Cells, empty, map_after}
use Rattle.slnf_access.specs.Machines.{Stand, Flies, Ends, HasEnded, stand_after}
use Rattle.slnf_access.proofs.Laws.{cell_of-append}
use Rattle.slnf_keys.specs.declared.values.Claim.{Claim}
use Rattle.slnf_base.specs.Ranges.{IsPair}
use Rattle.slnf_keys.specs.Values.{claim_of}
use Rattle.slnf_keys.proofs.Laws.{claim-coded}
use Rattle.slnf_run.specs.Scene.{own_of, stand_of}
use Rattle.slnf_box.specs.Nat.{Nat}
use Rattle.slnf_nat.specs.Flights.{Look, Try, Confirm, Release, Last, SweepState, SweepPort, SweepFlow, Remove, NatFlight, Out, In, Sweep, first_of}
use Rattle.slnf_nat.specs.Machine.{flow_key, port_key, nat_machine}
use Rattle.slnf_nat.specs.StoredFlows.{flow_at}
use Rattle.slnf_nat.specs.NatScene.{nat_scene}
use Rattle.slnf_nat.specs.Kept.{SomeEntry, HoldsSweep, IsLive, claim_in}
use Rattle.slnf_nat.specs.Given.{IsNat, IsNatList}
use Rattle.slnf_nat.specs.Leaks.{HasSwept, Hangs, IsSettled, IsOutward, IsSweepAlone, HasClaim, IsTidy, IsBacked, IsOneToOne, IsSweptAway, IsCareful}
use Rattle.slnf_nat.proofs.Lists.{some_entry-each}
use Rattle.slnf_nat.proofs.Effects.{same_or_not, after, read_effect, delete_none, delete_other, delete_done}
use Rattle.slnf_nat.proofs.Flying.{same_flight}
use Rattle.slnf_nat.proofs.Nexts.{IsNextOf, next_of}
use Rattle.slnf_nat.proofs.Explained.{nat_keeps}
use Rattle.slnf_nat.proofs.LiveFlows.{kept_before}
use Rattle.slnf_nat.specs.Laws.{HasSource}
use Rattle.slnf_nat.proofs.Claims.{claims_made}
use Rattle.slnf_nat.proofs.Sweeping.{swept_clear, sweep_began}
use Rattle.slnf_nat.proofs.Hangs.{accounted}

-- an item that hangs on a port has it as a candidate
hangs_on : (nat : Nat) → IsNat nat → (proto : Proto) (port inside : Pair) (since : ℕ) (st : Stand NatFlight)
    → Hangs nat proto port inside since st → nat.has port ≡ true
hangs_on nat is_nat proto port inside since (Flies (Out Look i packet)) h = absurd h
hangs_on nat is_nat proto port inside since (Flies (Out (Try number) i packet)) h = absurd h
hangs_on nat is_nat proto port inside since (Flies (Out (Confirm number version) i packet)) h =
    ap nat.has (sym h.2) ∙ is_nat.candidate_has packet.proto packet.source number
hangs_on nat is_nat proto port inside since (Flies (Out (Release number version to) i packet)) h =
    ap nat.has (sym h.2) ∙ is_nat.candidate_has packet.proto packet.source number
hangs_on nat is_nat proto port inside since (Flies (Out Last i packet)) h = absurd h
hangs_on nat is_nat proto port inside since (Flies (In state packet)) h = absurd h
hangs_on nat is_nat proto port inside since (Flies (Sweep state q p base)) h = absurd h
hangs_on nat is_nat proto port inside since (Ends end) h = absurd h

-- an item doesn't hang at first
pub not_at_first : (nat : Nat) (proto : Proto) (port inside : Pair) (since : ℕ) (st : Stand NatFlight)
    → ((flight : NatFlight) → st ≡ Flies flight → first_of flight ≡ flight) → Hangs nat proto port inside since st → ⊥
not_at_first nat proto port inside since (Flies (Out Look i packet)) firsts h = h
not_at_first nat proto port inside since (Flies (Out (Try number) i packet)) firsts h = h
not_at_first nat proto port inside since (Flies (Out (Confirm number version) i packet)) firsts h =
    let q : Out Look i packet ≡ Out (Confirm number version) i packet = firsts _ refl in
    cc
not_at_first nat proto port inside since (Flies (Out (Release number version to) i packet)) firsts h =
    let q : Out Look i packet ≡ Out (Release number version to) i packet = firsts _ refl in
    cc
not_at_first nat proto port inside since (Flies (Out Last i packet)) firsts h = h
not_at_first nat proto port inside since (Flies (In state packet)) firsts h = h
not_at_first nat proto port inside since (Flies (Sweep state q p base)) firsts h = h
not_at_first nat proto port inside since (Ends end) firsts h = h

-- an item that hangs began on its way out
hangs_going : (nat : Nat) (proto : Proto) (port inside : Pair) (since : ℕ) (flight : NatFlight)
    → Hangs nat proto port inside since (Flies flight) → IsOutward (Flies (first_of flight))
hangs_going nat proto port inside since (Out state i packet) h = tt
hangs_going nat proto port inside since (In state packet) h = h
hangs_going nat proto port inside since (Sweep state q p base) h = h

-- an item has an entry or none
pub own_or_none : (i k : ℕ) (es : List Entry)
    → (own_of i k es ≡ []) ⊎ SomeEntry (λ f. (f.incarnation ≡ i) × (f.item ≡ k)) es
own_or_none i k [] = inl refl
own_or_none i k (e ∷ es) = go (e.incarnation == i) refl (e.item == k) refl (own_or_none i k es)
  where
    go : (b : Bool) → (e.incarnation == i) ≡ b → (d : Bool) → (e.item == k) ≡ d
        → (own_of i k es ≡ []) ⊎ SomeEntry (λ f. (f.incarnation ≡ i) × (f.item ≡ k)) es
        → (cond (b && d) (e ∷ own_of i k es) (own_of i k es) ≡ []) ⊎ SomeEntry (λ f. (f.incarnation ≡ i) × (f.item ≡ k))
        (e ∷ es)
    go true w true v rest = inr (inl (eqb-true _ _ w, eqb-true _ _ v))
    go true w false v (inl none) = inl none
    go true w false v (inr has) = inr (inr has)
    go false w d v (inl none) = inl none
    go false w d v (inr has) = inr (inr has)

module _ (nat : Nat) (is_nat : IsNat nat) (base_at : ℕ → ℕ) (begins : ℕ → ℕ → Stand NatFlight)
    (es : List Entry) (given : IsNatList nat base_at begins es) where
  -- the map after the first t entries
  abbrev at : ℕ → Cells
  at t = map_after empty (take t es)

  push : (before : List Entry) (e : Entry) → map_after empty (before ++ e ∷ []) ≡ after (map_after empty before) e
  push before e = λ j key. cell_of-append key None before (e ∷ []) j

  -- A claim is on a port of the pool.
  pub on_pool : (t : ℕ) → t ≤ length es → (proto : Proto) (port : Pair) (claim : Claim) → IsPair port
      → HasClaim (at t) proto port claim → nat.has port ≡ true
  on_pool t h proto port claim fits is =
      elim (accounted nat is_nat base_at begins es given t h proto port claim is.held fits is.there is.reads) [
        | inl named ↦
            let inside_fits : IsPair claim.inside = (claim-coded.has is.held.value.0 claim is.reads).1.1 in
            let c = (nat_keeps nat is_nat base_at begins es given t h).live.candidates
            proto claim.inside port inside_fits named in
            ap nat.has (sym c.2) ∙ is_nat.candidate_has proto claim.inside c.0
        | inr hangs ↦ hangs_on nat is_nat proto port claim.inside is.held.version
            (stand_of (nat_scene nat begins) claim.incarnation hangs.0 (take t es)) hangs.1
      ]

  -- After all ports of the pool are swept, each claim of an incarnation below the base has its flow's record, which
  -- names the port.
  pub tidy : (t base : ℕ) → t ≤ length es → HasSwept nat begins (take t es) base → IsTidy nat (at t) base
  tidy t base h swept proto port claim fits is less =
      let has : nat.has port ≡ true = on_pool t h proto port claim fits is in
      let made : HasSource begins proto claim.inside =
      claims_made nat is_nat base_at begins es given t h proto port claim is.held fits is.there is.reads in
      let r = swept proto port fits has (made.0, made.1, made.2, made.3, made.4, made.5) in (
        has,
        (claim-coded.has is.held.value.0 claim is.reads).1.1,
        go r.0 r.1 r.2 r.3 r.4 (stand_of (nat_scene nat begins) r.0 r.1 (take t es)) refl r.5,
      )
    where
      go : (i k own : ℕ) → base ≤ own → begins i k ≡ Flies (Sweep SweepPort proto port own) → (st : Stand NatFlight)
          → stand_of (nat_scene nat begins) i k (take t es) ≡ st → HasEnded st
          → flow_at (at t) proto claim.inside ≡ Some port
      go i k own le began (Flies flight) w ended = absurd ended
      go i k own le began (Ends end) w ended =
          swept_clear nat is_nat base_at begins es
          given t i k proto port own end h began w is.held claim is.there is.reads (omega arith)

  -- At every t each live flow's port has a claim with that flow's inside pair.
  pub backed : (t : ℕ) → t ≤ length es → IsBacked nat (at t)
  backed t h proto inside held fits there = go (flow_at (at t) proto inside) refl
    where
      live : IsLive nat (at t)
      live = (nat_keeps nat is_nat base_at begins es given t h).live

      go : (o : Option Pair) → flow_at (at t) proto inside ≡ o
          → (port : Pair) × (j : ℕ) × (flow_at (at t) proto inside ≡ Some port) × IsPair port
          × (nat.has port ≡ true) × HasClaim (at t) proto port (record { incarnation = j; inside = inside })
      go None w = let none : at t (flow_key proto inside) ≡ None = live.whole proto inside fits w in absurd (cc)
      go (Some port) w =
          let c = live.candidates proto inside port fits w in
          let r = live.claims proto inside port fits w in (
            port,
            r.1,
            w,
            subst IsPair c.2 (is_nat.candidate_fits proto inside c.0),
            ap nat.has (sym c.2)
                ∙ is_nat.candidate_has proto inside c.0,
            record { held = r.2.held; there = r.2.there; reads = r.2.claim },
          )

  -- An epoch without an entry of a packet on its way out settles.
  pub alone_settles : (t base : ℕ) → t ≤ length es → IsSweepAlone begins base (take t es)
      → IsSettled nat begins base (take t es)
  alone_settles t base h alone i k proto port inside since high hangs = go (own_or_none i k (take t es))
    where
      by : SomeEntry (λ f. (f.incarnation ≡ i) × (f.item ≡ k)) (take t es) → (st : Stand NatFlight)
          → stand_of (nat_scene nat begins) i k (take t es) ≡ st → Hangs nat proto port inside since st → ⊥
      by has (Ends end) w on = on
      by has (Flies flight) w on =
          let began : begins i k ≡ Flies (first_of flight) =
          (nat_keeps nat is_nat base_at begins es given t h).flying.begun i k flight w in
          let going : IsOutward (begins i k) = subst IsOutward (sym began) (hangs_going nat proto port inside since flight on) in
          some_entry-each (λ f. (f.incarnation ≡ i) × (f.item ≡ k))
          (λ f. base ≤ f.incarnation → IsOutward (begins f.incarnation f.item) → ⊥) ⊥ (take t es) has alone
          (λ f own none. none (subst (λ n. base ≤ n) (sym own.0) high)
          (subst IsOutward (ap (λ n. begins n k) (sym own.0) ∙ ap (begins f.incarnation) (sym own.1)) going))

      go : (own_of i k (take t es) ≡ []) ⊎ SomeEntry (λ f. (f.incarnation ≡ i) × (f.item ≡ k)) (take t es) → ⊥
      go (inl none) =
          not_at_first nat proto port inside since (begins i k) (given.firsts i k)
          (subst (Hangs nat proto port inside since) (ap (stand_after (nat_machine nat) (begins i k)) none) hangs)
      go (inr has) = by has (stand_of (nat_scene nat begins) i k (take t es)) refl hangs

  -- After a sweep, where no item of an incarnation at or above the base hangs, claims and live flows correspond one to one.
  pub one_to_one : (t base : ℕ) → t ≤ length es → HasSwept nat begins (take t es) base
      → IsSettled nat begins base (take t es) → IsOneToOne nat (at t)
  one_to_one t base h swept settled = record {
    flow = λ proto port held fits there. flow_by proto port held fits there (claim_of held.value.0) refl;
    claim = backed t h;
    one = λ proto port other a b fits_port fits_other is_a is_b same.
        same_Some port other (sym (named proto port a fits_port is_a)
        ∙ ap (flow_at (at t) proto) same ∙ named proto other b fits_other is_b);
  }
    where
      named : (proto : Proto) (port : Pair) (claim : Claim) → IsPair port → HasClaim (at t) proto port claim
          → flow_at (at t) proto claim.inside ≡ Some port
      named proto port claim fits is = go (nat_lt claim.incarnation base) refl
        where
          go : (b : Bool) → nat_lt claim.incarnation base ≡ b → flow_at (at t) proto claim.inside ≡ Some port
          go true w = (tidy t base h swept proto port claim fits is (ltb-true claim.incarnation base w)).2
          go false w = elim (accounted nat is_nat base_at begins es given t h proto port claim is.held fits is.there is.reads) [
            | inl live ↦ live
            | inr hangs ↦ absurd (settled claim.incarnation hangs.0 proto port claim.inside is.held.version
                (ltb-false claim.incarnation base w) hangs.1)
          ]

      flow_by : (proto : Proto) (port : Pair) (held : Held) → IsPair port → at t (port_key proto port) ≡ Some held
          → (o : Option Claim) → claim_of held.value.0 ≡ o
          → (claim : Claim) × HasClaim (at t) proto port claim
          × IsPair claim.inside × (flow_at (at t) proto claim.inside ≡ Some port)
      flow_by proto port held fits there None w =
          let none : at t (port_key proto port) ≡ None = (nat_keeps
          nat is_nat base_at begins es given t h).live.ports_whole proto port fits (ap claim_in there ∙ w) in
          absurd (cc)
      flow_by proto port held fits there (Some claim) w =
          let is : HasClaim (at t) proto port claim = record { held = held; there = there; reads = w } in
          (claim, is, (claim-coded.has held.value.0 claim w).1.1, named proto port claim fits is)

  -- A sweep takes away no claim but its own port's, of an incarnation below its base, where no live flow names the port.
  pub careful : (before later : List Entry) (e : Entry) (proto : Proto) (port : Pair) (base : ℕ)
      → es ≡ before ++ e ∷ later → begins e.incarnation e.item ≡ Flies (Sweep SweepPort proto port base)
      → IsCareful (map_after empty before) (map_after empty (before ++ e ∷ [])) proto port base
  careful before later e proto port base split began =
      let is : (state : SweepState) × (next.0 ≡ Sweep state proto port base) =
      sweep_began next.0 proto port base (same_flight (first_of next.0) _ (sym next.1.began ∙ began)) in
      subst (λ m. IsCareful cells m proto port base)
      (sym (push before e)) (by is.0 (subst (IsNextOf nat base_at begins before e) is.1 next.1))
    where
      cells : Cells
      cells = map_after empty before

      next : (flight : NatFlight) × IsNextOf nat base_at begins before e flight
      next = next_of nat is_nat base_at begins es given before later e split

      same_map : after cells e ≡ cells → IsCareful cells (after cells e) proto port base
      same_map same key = inl (ap (λ (m : Cells). m key) same)

      by : (state : SweepState) → IsNextOf nat base_at begins before e (Sweep state proto port base)
          → IsCareful cells (after cells e) proto port base
      by SweepPort there = same_map (read_effect cells e _ there.asked)
      by (SweepFlow inside version) there = same_map (read_effect cells e _ there.asked)
      by (Remove version) there = go (cells (port_key proto port)) refl
        where
          holds : HoldsSweep base_at before cells proto port base (Remove version)
          holds = (kept_before nat is_nat base_at begins es given before later e split).flying.holds
              e.incarnation e.item (Sweep (Remove version) proto port base) there.stands

          taken : (held : Held) → cells (port_key proto port) ≡ Some held → (held.version == version) ≡ true
              → IsSweptAway cells (after cells e) proto port base
          taken held is same =
              let r = holds.1 held is (eqb-true held.version version same) in
              record {
                held = held;
                there = is;
                gone = (delete_done cells e _ version held there.asked is same).here;
                inside = r.0.0;
                below = r.0.1;
                unnamed = r.1;
              }

          found : (held : Held) → cells (port_key proto port) ≡ Some held → (b : Bool)
              → (held.version == version) ≡ b → IsCareful cells (after cells e) proto port base
          found held is false differs = same_map (delete_other cells e _ version held there.asked is differs)
          found held is true same = λ key. elim (same_or_not key (port_key proto port)) [
            | inl own ↦ inr (own, taken held is same)
            | inr apart ↦ inl ((delete_done cells e _ version held there.asked is same).other key apart)
          ]

          go : (cell : Option Held) → cells (port_key proto port) ≡ cell
              → IsCareful cells (after cells e) proto port base
          go None is = same_map (delete_none cells e _ version there.asked is)
          go (Some held) is = found held is (held.version == version) refl

  -- So a claim of an incarnation at or above the base stays at a sweep's entry.
  pub high_stays : (before later : List Entry) (e : Entry) (proto : Proto) (port : Pair) (base : ℕ)
      → es ≡ before ++ e ∷ later → begins e.incarnation e.item ≡ Flies (Sweep SweepPort proto port base)
      → (q : Proto) (p : Pair) (claim : Claim) → HasClaim (map_after empty before) q p claim
      → base ≤ claim.incarnation → map_after empty (before ++ e ∷ [])
      (port_key q p) ≡ map_after empty before (port_key q p)
  high_stays before later e proto port base split began q p claim is high =
      go (careful before later e proto port base split began (port_key q p))
    where
      go : (map_after empty (before ++ e ∷ []) (port_key q p) ≡ map_after empty before (port_key q p))
          ⊎ ((port_key q p ≡ port_key proto port)
          × IsSweptAway (map_after empty before) (map_after empty (before ++ e ∷ [])) proto port base)
          → map_after empty (before ++ e ∷ []) (port_key q p) ≡ map_after empty before (port_key q p)
      go (inl same) = same
      go (inr taken) =
          let held : is.held ≡ taken.1.held =
          same_Some _ _ (sym is.there ∙ ap (map_after empty before) taken.0 ∙ taken.1.there) in
          let one : claim ≡ (let c : Claim = record { incarnation = taken.1.below.0; inside = taken.1.inside } in c) =
          same_Some claim _ (sym is.reads ∙ ap (λ (h : Held). claim_of h.value.0) held ∙ taken.1.below.2) in
          let incarnation : claim.incarnation ≡ taken.1.below.0 = ap (λ (c : Claim). c.incarnation) one in
          let less : taken.1.below.0 < base = taken.1.below.1 in
          absurd (omega arith)

  -- In particular one of an incarnation of the sweep's own epoch.
  pub own_stays : (before later : List Entry) (e : Entry) (proto : Proto) (port : Pair) (base : ℕ)
      → es ≡ before ++ e ∷ later → begins e.incarnation e.item ≡ Flies (Sweep SweepPort proto port base)
      → (q : Proto) (p : Pair) (claim : Claim) → HasClaim (map_after empty before) q p claim
      → base_at claim.incarnation ≡ base_at e.incarnation → map_after empty (before ++ e ∷ [])
      (port_key q p) ≡ map_after empty before (port_key q p)
  own_stays before later e proto port base split began q p claim is own =
      let at_base : base ≡ base_at e.incarnation =
      (given.ranges e.incarnation e.item (Sweep SweepPort proto port base) began).1 in
      let below : base_at claim.incarnation ≤ claim.incarnation = given.bases claim.incarnation in
      high_stays before later e proto port base split began q p claim is (omega arith)
