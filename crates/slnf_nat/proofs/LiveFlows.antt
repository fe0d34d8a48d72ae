-- Live flows have their outside pairs for themselves and keep them; releases are done, and no reply is ill.
use Rattle.std.proofs.Common.{◌≡◌, ℕ, ◌≤◌, Some, None, List, [], ◌∷◌, ◌++◌, length, take, ap, sym, ◌∙◌, subst, arith, length-append}
use Rattle.std.proofs.Math.Seq.{take-append_seam}
use Rattle.std.proofs.lemmas.Option.{same_Some}
use Rattle.slnf_base.specs.declared.addresses.Pair.{Pair}
use Rattle.slnf_base.specs.declared.packets.Proto.{Proto}
use Rattle.slnf_access.specs.declared.requests.Value.{Value}
use Rattle.slnf_access.specs.declared.requests.Held.{Held}
use Rattle.slnf_access.specs.declared.requests.Entry.{Entry}
use Rattle.slnf_access.specs.declared.requests.Reply.TheVariants.{Done}
use Rattle.slnf_access.specs.Map.{key_of, Cells, empty, map_after}
use Rattle.slnf_access.specs.Machines.{Stand}
use Rattle.slnf_access.proofs.Versions.{found_there}
use Rattle.slnf_keys.specs.declared.values.Claim.{Claim}
use Rattle.slnf_base.specs.Ranges.{IsPair}
use Rattle.slnf_keys.specs.Values.{flow_to_of, claim_of}
use Rattle.slnf_run.specs.Boxes.{content_after}
use Rattle.slnf_box.specs.Nat.{Nat}
use Rattle.slnf_box.specs.NatBox.{nat_box}
use Rattle.slnf_nat.specs.Flights.{Release, NatFlight, Out}
use Rattle.slnf_nat.specs.Machine.{flow_key, port_key, nat_asks}
use Rattle.slnf_nat.specs.StoredFlows.{flow_in, flow_at, outside_of}
use Rattle.slnf_nat.specs.NatScene.{nat_scene}
use Rattle.slnf_nat.specs.Kept.{claim_in, IsLive}
use Rattle.slnf_nat.specs.Laws.{FlowsApart, PairsStay, ReleasesDone, FlowsWell, ClaimsWell}
use Rattle.slnf_nat.specs.Given.{IsNat, IsRanged, IsNatList}
use Rattle.slnf_nat.proofs.Lists.{rising_before}
use Rattle.slnf_nat.proofs.States.{releasing, running_now}
use Rattle.slnf_nat.proofs.Flying.{same_flight}
use Rattle.slnf_nat.proofs.Nexts.{IsNextOf, next_of, flow_stays}
use Rattle.slnf_nat.proofs.Explained.{Inv, nat_keeps, flow_there}

-- two live flows of one protocol with one outside pair are one
pub live_distinct : (nat : Nat) (cells : Cells) (proto : Proto) (a b port : Pair) → IsLive nat cells → IsPair a
    → IsPair b → flow_at cells proto a ≡ Some port → flow_at cells proto b ≡ Some port → a ≡ b
live_distinct nat cells proto a b port live fits_a fits_b one two =
    let r = live.claims proto a port fits_a one in
    let q = live.claims proto b port fits_b two in
    let held : r.2.held ≡ q.2.held = same_Some _ _ (sym r.2.there ∙ q.2.there) in
    let claims : record { incarnation = r.1; inside = a } ≡ (let c : Claim = record { incarnation = q.1; inside = b } in
    c) = same_Some _ _ (sym r.2.claim ∙ ap (λ (h : Held). claim_of h.value.0) held ∙ q.2.claim) in
    ap (λ (c : Claim). c.inside) claims

module _ (nat : Nat) (is_nat : IsNat nat) (base_at : ℕ → ℕ) (begins : ℕ → ℕ → Stand NatFlight)
    (es : List Entry) (given : IsNatList nat base_at begins es) where
  -- the invariant before each entry
  pub kept_before : (before later : List Entry) (e : Entry) → es ≡ before ++ e ∷ later
      → Inv nat is_nat base_at begins es given before (content_after (nat_scene nat begins) (nat_box nat) es (length before))
  kept_before before later e split =
      let size : length before ≤ length es = rw split (simp length-append (omega arith)) in
      let front : take (length before) es ≡ before = ap (take (length before)) split ∙ take-append_seam before (e ∷ later) in
      subst (λ l. Inv nat is_nat base_at begins es given l
      (content_after (nat_scene nat begins) (nat_box nat) es (length before))) front
      (nat_keeps nat is_nat base_at begins es given (length before) size)

  -- The reply to a release is Done.
  pub release_done : ReleasesDone nat begins es
  release_done before later e number version i port packet split stands =
      let r : (flight : NatFlight) × IsNextOf nat base_at begins before e flight =
      next_of nat is_nat base_at begins es given before later e split in
      let is : r.0 ≡ Out (Release number version port) i packet = same_flight r.0 _ (sym r.1.stands ∙ stands) in
      let kept = kept_before before later e split in
      let fresh = rising_before es before later e given.rising split in
      let epochs = given.epochs before later e split in
      let based = given.bases e.incarnation in
      let ranged : IsRanged nat base_at e.incarnation (Out (Release number version port) i packet) =
      subst (IsRanged nat base_at e.incarnation) is r.1.ranged in
      (releasing nat is_nat base_at before e (map_after empty before) kept.stamped
      kept.live fresh epochs based r.1.replied number version port i packet (r.1.asked ∙ ap (nat_asks nat) is) ranged
      (kept.flying.holds e.incarnation e.item (Out (Release number version port) i packet) stands (running_now nat
      is_nat base_at before e (map_after empty before) kept.stamped kept.live fresh epochs based r.1.replied))).0

  -- After each prefix no two live flows of a protocol have one outside pair.
  pub flows_apart : FlowsApart es
  flows_apart t proto a b port size fits_a fits_b one two =
      live_distinct nat (map_after empty (take t es)) proto a b port
      (nat_keeps nat is_nat base_at begins es given t size).live fits_a fits_b one two

  -- A flow that is live keeps its record, and so its outside pair, from entry to entry.
  pub pairs_stay : PairsStay es
  pairs_stay before later e proto inside outside next split fits there now =
      let r = flow_there (map_after empty before (flow_key proto inside)) outside there in
      let stays : flow_at (map_after empty (before ++ e ∷ [])) proto inside ≡ Some outside =
      ap flow_in (flow_stays nat is_nat base_at begins es given before (e ∷ []) later split proto inside r.0 fits r.1) ∙ r.2 in
      same_Some next outside (sym now ∙ stays)

  -- No reply is ill: what is found at a flow's key is a flow's record, and what is found at a port's key is a claim.
  pub flows_well : FlowsWell es
  flows_well before later e value version proto inside split reply key fits ill =
      let next : (flight : NatFlight) × IsNextOf nat base_at begins before e flight =
      next_of nat is_nat base_at begins es given before later e split in
      let r = found_there e.request e.stamp (map_after empty before (key_of e.request)) value version
      (sym next.1.replied ∙ reply) in
      let there : map_after empty before (flow_key proto inside) ≡ Some r.0 = ap (map_after empty before) (sym key) ∙ r.1 in
      let none : flow_at (map_after empty before) proto inside ≡ None =
      ap flow_in there ∙ ap (λ (v : Value). outside_of (flow_to_of v.0)) r.2 ∙ ap outside_of ill in
      let gone : map_after empty before (flow_key proto inside) ≡ None =
      (kept_before before later e split).live.whole proto inside fits none in
      nothing r.0 (sym gone ∙ there)
    where
      nothing : (held : Held) → None ≡ Some held → ⊥
      nothing held h = cc

  pub claims_well : ClaimsWell es
  claims_well before later e value version proto port split reply key fits ill =
      let next : (flight : NatFlight) × IsNextOf nat base_at begins before e flight =
      next_of nat is_nat base_at begins es given before later e split in
      let r = found_there e.request e.stamp (map_after empty before (key_of e.request)) value version
      (sym next.1.replied ∙ reply) in
      let there : map_after empty before (port_key proto port) ≡ Some r.0 = ap (map_after empty before) (sym key) ∙ r.1 in
      let none : claim_in (map_after empty before (port_key proto port)) ≡ None =
      ap claim_in there ∙ ap (λ (v : Value). claim_of v.0) r.2 ∙ ill in
      let gone : map_after empty before (port_key proto port) ≡ None =
      (kept_before before later e split).live.ports_whole proto port fits none in
      nothing r.0 (sym gone ∙ there)
    where
      nothing : (held : Held) → None ≡ Some held → ⊥
      nothing held h = cc
