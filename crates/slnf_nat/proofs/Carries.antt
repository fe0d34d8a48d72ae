-- What each effect on the map leaves of what is known.
use Rattle.std.proofs.Common.{◌≡◌, ◌⊎◌, inl, inr, ℕ, ◌<◌, ◌≤◌, true, false, Some, None, List, [], ◌∷◌, ◌++◌, refl, ap, sym, ◌∙◌, subst, arith}
use Rattle.std.proofs.lemmas.Option.{same_Some}
use Rattle.std.proofs.lemmas.Bool.{eq-eqb}
use Rattle.slnf_base.specs.declared.addresses.Pair.{Pair}
use Rattle.slnf_base.specs.declared.packets.Proto.{Proto}
use Rattle.slnf_access.specs.declared.requests.Value.{Value}
use Rattle.slnf_access.specs.declared.requests.Held.{Held}
use Rattle.slnf_access.specs.declared.requests.Entry.{Entry}
use Rattle.slnf_access.specs.Map.{key_of, Cells}
use Rattle.slnf_keys.specs.declared.values.Claim.{Claim}
use Rattle.slnf_base.specs.Ranges.{IsPair}
use Rattle.slnf_keys.specs.Values.{flow_to_of, claim_of}
use Rattle.slnf_run.specs.Scene.{is_of}
use Rattle.slnf_box.specs.Nat.{Nat}
use Rattle.slnf_nat.specs.Machine.{flow_key, port_key}
use Rattle.slnf_nat.specs.StoredFlows.{flow_in, flow_at, outside_of}
use Rattle.slnf_nat.specs.Kept.{IsStampOn, IsStampBy, IsCurrent, IsClaimed, IsUnnamed, IsOwned, IsOldClaim, HasSeen, HasStamps, claim_in, IsLive}
use Rattle.slnf_nat.proofs.Lists.{some_entry-each}
use Rattle.slnf_nat.proofs.Keys.{flow_key_same, port_key_same, flow_port}
use Rattle.slnf_nat.proofs.Effects.{same_or_not, IsPut, IsGone, put_keeps}
use Rattle.std.specs.List.{AllByRecursion}

-- what an entry of one item leaves of what other items know
pub record Carries (base_at : ℕ → ℕ) (before : List Entry) (e : Entry) (cells next : Cells) : Type 0 where
  pub owned : (i k : ℕ) (proto : Proto) (port : Pair) (version : ℕ) (inside : Pair) → is_of i k e ≡ false
      → IsCurrent base_at (before ++ e ∷ []) i → IsPair port → IsOwned before cells i k proto port version inside
      → IsClaimed next proto port version i inside × IsUnnamed next proto port
  pub stays : (proto : Proto) (port : Pair) (version : ℕ) (held : Held) → IsPair port
      → IsStampOn before (port_key proto port) version → next (port_key proto port) ≡ Some held
      → held.version ≡ version → cells (port_key proto port) ≡ Some held
  pub unnamed : (proto : Proto) (port : Pair) (base version : ℕ) (held : Held) (inside : Pair) → IsPair port
      → HasSeen base_at before proto port base version → next (port_key proto port) ≡ Some held
      → held.version ≡ version → IsOldClaim base held inside → IsUnnamed cells proto port → IsUnnamed next proto port

-- the effect leaves all flows
abbrev pub FlowsStay : Cells → Cells → Type 0
FlowsStay cells next = (proto : Proto) (inside : Pair)
    → IsPair inside → next (flow_key proto inside) ≡ cells (flow_key proto inside)

flow_stays : (cells next : Cells) (proto : Proto) (inside : Pair) → FlowsStay cells next → IsPair inside
    → flow_at next proto inside ≡ flow_at cells proto inside
flow_stays cells next proto inside stay fits = ap flow_in (stay proto inside fits)

pub unnamed_stays : (cells next : Cells) (proto : Proto) (port : Pair) → FlowsStay cells next
    → IsUnnamed cells proto port → IsUnnamed next proto port
unnamed_stays cells next proto port stay unnamed =
    λ inside fits named. unnamed inside fits (sym (flow_stays cells next proto inside stay fits) ∙ named)

-- No effect.
pub quiet_carries : (base_at : ℕ → ℕ) (before : List Entry) (e : Entry) (cells : Cells)
    → Carries base_at before e cells cells
quiet_carries base_at before e cells = record {
  owned = λ i k proto port version inside other running fits owned. (owned.claimed, owned.unnamed);
  stays = λ proto port version held fits stamped there since. there;
  unnamed = λ proto port base version held inside fits seen there since below unnamed. unnamed;
}

-- a claim stays in a map that has what was there
pub claim_stays : (cells next : Cells) (proto : Proto) (port : Pair) (version i : ℕ) (inside : Pair)
    → ((held : Held) → cells (port_key proto port) ≡ Some held → next (port_key proto port) ≡ Some held)
    → IsClaimed cells proto port version i inside → IsClaimed next proto port version i inside
claim_stays cells next proto port version i inside stay claimed = record {
  held = claimed.held;
  there = stay claimed.held claimed.there;
  since = claimed.since;
  claim = claimed.claim;
}

-- live flows stay where flows and the claims of their ports do
pub live_stays : (nat : Nat) (cells next : Cells) → FlowsStay cells next
    → ((proto : Proto) (port : Pair) → IsPair port
    → claim_in (next (port_key proto port)) ≡ None → next (port_key proto port) ≡ None)
    → ((proto : Proto) (inside port : Pair) (version i : ℕ) → IsPair inside → flow_at cells proto inside ≡ Some port
    → IsClaimed cells proto port version i inside → IsClaimed next proto port version i inside)
    → IsLive nat cells → IsLive nat next
live_stays nat cells next stay ports claims live = record {
  ports_whole = ports;
  whole = λ proto inside fits none. stay proto inside fits
      ∙ live.whole proto inside fits (sym (flow_stays cells next proto inside stay fits) ∙ none);
  candidates = λ proto inside port fits there.
      live.candidates proto inside port fits (sym (flow_stays cells next proto inside stay fits) ∙ there);
  claims = λ proto inside port fits there.
      let was : flow_at cells proto inside ≡ Some port = sym (flow_stays cells next proto inside stay fits) ∙ there in
      let r : (version j : ℕ) × IsClaimed cells proto port version j inside = live.claims proto inside port fits was in
      (r.0, r.1, claims proto inside port r.0 r.1 fits was r.2);
}

-- A claim that was put.
module _ (cells next : Cells) (own : Proto) (at : Pair)
    (value : Value) (stamp : ℕ) (put : IsPut cells next (port_key own at) value stamp)
    (at_fits : IsPair at) (mark : Claim) (reads : claim_of value.0 ≡ Some mark) where
  pub claimed_flows : FlowsStay cells next
  claimed_flows proto inside fits = put.other (flow_key proto inside) (λ h. flow_port proto own inside at fits at_fits h)

  pub claimed_live : (nat : Nat) → IsLive nat cells → IsLive nat next
  claimed_live nat live =
      live_stays nat cells next claimed_flows ports
      (λ proto inside port version i fits there claimed. claim_stays cells next proto port version i inside
      (λ held is. put_keeps cells next (port_key own at) value stamp (port_key proto port) held put is) claimed) live
    where
      ports : (proto : Proto) (port : Pair) → IsPair port → claim_in (next (port_key proto port)) ≡ None
          → next (port_key proto port) ≡ None
      ports proto port fits none = go (same_or_not (port_key proto port) (port_key own at))
        where
          go : (port_key proto port ≡ port_key own at) ⊎ (port_key proto port ≡ port_key own at → ⊥)
              → next (port_key proto port) ≡ None
          go (inl same) =
              let some : claim_in (next (port_key proto port)) ≡ Some mark = ap claim_in (ap next same ∙ put.here) ∙ reads in
              absurd (cc)
          go (inr apart) = put.other (port_key proto port) apart
              ∙ live.ports_whole proto port fits (ap claim_in (sym (put.other (port_key proto port) apart)) ∙ none)

  pub claimed_carries : (base_at : ℕ → ℕ) (before : List Entry) (e : Entry)
      → AllByRecursion (λ f. key_of f.request ≡ port_key own at → f.stamp < stamp) before
      → Carries base_at before e cells next
  claimed_carries base_at before e fresh = record {
    owned = λ i k proto port version inside other running fits owned. (
      claim_stays cells next proto port version i inside
          (λ held is. put_keeps cells next (port_key own at) value stamp (port_key proto port) held put is) owned.claimed,
      unnamed_stays cells next proto port claimed_flows owned.unnamed,
    );
    stays = stays;
    unnamed = λ proto port base version held inside fits seen there since below unnamed.
        unnamed_stays cells next proto port claimed_flows unnamed;
  }
    where
      stays : (proto : Proto) (port : Pair) (version : ℕ) (held : Held) → IsPair port
          → IsStampOn before (port_key proto port) version → next (port_key proto port) ≡ Some held
          → held.version ≡ version → cells (port_key proto port) ≡ Some held
      stays proto port version held fits stamped there since = go (same_or_not (port_key proto port) (port_key own at))
        where
          go : (port_key proto port ≡ port_key own at) ⊎ (port_key proto port ≡ port_key own at → ⊥)
              → cells (port_key proto port) ≡ Some held
          go (inl same) =
              let new : record { value = value; version = stamp } ≡ held =
              same_Some _ held (sym put.here ∙ ap next (sym same) ∙ there) in
              let is : stamp ≡ version = ap (λ (h : Held). h.version) new ∙ since in
              absurd (some_entry-each (λ f. (key_of f.request ≡ port_key proto port) × (f.stamp ≡ version))
              (λ f. key_of f.request ≡ port_key own at → f.stamp < stamp) ⊥ before stamped fresh
              (λ f on less. let lower : f.stamp < stamp = less (on.0 ∙ same) in
              let at_version : f.stamp ≡ version = on.1 in
              omega arith))
          go (inr apart) = sym (put.other (port_key proto port) apart) ∙ there

-- A flow's record that was put, by the flight that has the claim of its port.
module _ (nat : Nat) (cells next : Cells) (before : List Entry) (own : Proto) (mine at : Pair) (number : ℕ)
    (value : Value) (stamp version : ℕ) (e : Entry) (put : IsPut cells next (flow_key own mine) value stamp)
    (reads : flow_to_of value.0 ≡ Some (record { outside = at })) (mine_fits : IsPair mine)
    (at_fits : IsPair at) (owned : IsOwned before cells e.incarnation e.item own at version mine) where
  -- a port has what it had
  pub port_stays : (proto : Proto) (port : Pair) → IsPair port
      → next (port_key proto port) ≡ cells (port_key proto port)
  port_stays proto port fits = put.other (port_key proto port) (λ h. flow_port own proto mine port mine_fits fits (sym h))

  -- the new flow
  pub recorded_here : flow_at next own mine ≡ Some at
  recorded_here = ap flow_in put.here ∙ ap outside_of reads

  -- each other flow is what it was
  pub recorded_other : (proto : Proto) (inside : Pair) → IsPair inside
      → ((proto ≡ own) × (inside ≡ mine)) ⊎ (next (flow_key proto inside) ≡ cells (flow_key proto inside))
  recorded_other proto inside fits = go (same_or_not (flow_key proto inside) (flow_key own mine))
    where
      go : (flow_key proto inside ≡ flow_key own mine) ⊎ (flow_key proto inside ≡ flow_key own mine → ⊥)
          → ((proto ≡ own) × (inside ≡ mine)) ⊎ (next (flow_key proto inside) ≡ cells (flow_key proto inside))
      go (inl same) = inl (flow_key_same proto own inside mine fits mine_fits same)
      go (inr apart) = inr (put.other (flow_key proto inside) apart)

  -- a flow that is there now is the new one, or was there
  pub recorded_named : (proto : Proto) (inside port : Pair) → IsPair inside → flow_at next proto inside ≡ Some port
      → ((proto ≡ own) × (inside ≡ mine) × (port ≡ at)) ⊎ (flow_at cells proto inside ≡ Some port)
  recorded_named proto inside port fits named = go (recorded_other proto inside fits)
    where
      go : ((proto ≡ own) × (inside ≡ mine)) ⊎ (next (flow_key proto inside) ≡ cells (flow_key proto inside))
          → ((proto ≡ own) × (inside ≡ mine) × (port ≡ at)) ⊎ (flow_at cells proto inside ≡ Some port)
      go (inl same) =
          let here : flow_at next proto inside ≡ Some at =
          ap (λ q. flow_at next q inside) same.0 ∙ ap (flow_at next own) same.1 ∙ recorded_here in
          inl (same.0, same.1, same_Some port at (sym named ∙ here))
      go (inr other) = inr (sym (ap flow_in other) ∙ named)

  pub recorded_live : number < nat.ports → nat.candidate own mine number ≡ at → IsLive nat cells → IsLive nat next
  recorded_live low is live = record {
    whole = whole;
    ports_whole = λ proto port fits none. port_stays proto port fits
        ∙ live.ports_whole proto port fits (ap claim_in (sym (port_stays proto port fits)) ∙ none);
    candidates = candidates;
    claims = claims;
  }
    where
      whole : (proto : Proto) (inside : Pair) → IsPair inside → flow_at next proto inside ≡ None
          → next (flow_key proto inside) ≡ None
      whole proto inside fits none = go (recorded_other proto inside fits)
        where
          go : ((proto ≡ own) × (inside ≡ mine)) ⊎ (next (flow_key proto inside) ≡ cells (flow_key proto inside))
              → next (flow_key proto inside) ≡ None
          go (inl same) =
              let here : flow_at next proto inside ≡ Some at =
              ap (λ q. flow_at next q inside) same.0 ∙ ap (flow_at next own) same.1 ∙ recorded_here in
              absurd (cc)
          go (inr other) = other ∙ live.whole proto inside fits (sym (ap flow_in other) ∙ none)

      candidates : (proto : Proto) (inside port : Pair) → IsPair inside → flow_at next proto inside ≡ Some port
          → (n : ℕ) × (n < nat.ports) × (nat.candidate proto inside n ≡ port)
      candidates proto inside port fits named = go (recorded_named proto inside port fits named)
        where
          go : ((proto ≡ own) × (inside ≡ mine) × (port ≡ at)) ⊎ (flow_at cells proto inside ≡ Some port)
              → (n : ℕ) × (n < nat.ports) × (nat.candidate proto inside n ≡ port)
          go (inl same) = (
            number,
            low,
            ap (λ q. nat.candidate q inside number) same.0
                ∙ ap (λ g. nat.candidate own g number) same.1 ∙ is ∙ sym same.2,
          )
          go (inr was) = live.candidates proto inside port fits was

      stay : (proto : Proto) (port : Pair) (held : Held) → cells (port_key proto port) ≡ Some held
          → next (port_key proto port) ≡ Some held
      stay proto port held there = put_keeps cells next (flow_key own mine) value stamp (port_key proto port) held put there

      claims : (proto : Proto) (inside port : Pair) → IsPair inside → flow_at next proto inside ≡ Some port
          → (v j : ℕ) × IsClaimed next proto port v j inside
      claims proto inside port fits named = go (recorded_named proto inside port fits named)
        where
          go : ((proto ≡ own) × (inside ≡ mine) × (port ≡ at)) ⊎ (flow_at cells proto inside ≡ Some port)
              → (v j : ℕ) × IsClaimed next proto port v j inside
          go (inl same) =
              let here : IsClaimed next own at version e.incarnation mine =
              claim_stays cells next own at version e.incarnation mine (stay own at) owned.claimed in
              (version, e.incarnation, rw (same.0, same.1, same.2) here)
          go (inr was) =
              let r : (v j : ℕ) × IsClaimed cells proto port v j inside = live.claims proto inside port fits was in
              (r.0, r.1, claim_stays cells next proto port r.0 r.1 inside (stay proto port) r.2)

  -- two claims of one port are one
  pub recorded_carries : (base_at : ℕ → ℕ) → HasStamps before cells
      → AllByRecursion (λ f. base_at f.incarnation ≤ base_at e.incarnation) before
      → base_at e.incarnation ≤ e.incarnation → Carries base_at before e cells next
  recorded_carries base_at stamped epochs based = record {
    owned = λ i k proto port v inside other running fits theirs. (
      claim_stays cells next proto port v i inside (λ held there.
          put_keeps cells next (flow_key own mine) value stamp (port_key proto port) held put there) theirs.claimed,
      λ g g_fits named. no_other i k proto port v inside other fits theirs g g_fits (recorded_named proto g port g_fits named),
    );
    stays = λ proto port v held fits seen there since. sym (port_stays proto port fits) ∙ there;
    unnamed = λ proto port base v held inside fits seen there since below unnamed.
        λ g g_fits named. not_swept proto port base v held inside fits seen
        (sym (port_stays proto port fits) ∙ there) below unnamed g g_fits (recorded_named proto g port g_fits named);
  }
    where
      no_other : (i k : ℕ) (proto : Proto) (port : Pair) (v : ℕ) (inside : Pair) → is_of i k e ≡ false → IsPair port
          → IsOwned before cells i k proto port v inside → (g : Pair) → IsPair g
          → ((proto ≡ own) × (g ≡ mine) × (port ≡ at)) ⊎ (flow_at cells proto g ≡ Some port) → ⊥
      no_other i k proto port v inside other fits theirs g g_fits (inl same) =
          let there : cells (port_key own at) ≡ Some theirs.claimed.held = ap (λ q. cells (port_key q at)) (sym same.0)
          ∙ ap (λ p. cells (port_key proto p)) (sym same.2) ∙ theirs.claimed.there in
          let one : theirs.claimed.held ≡ owned.claimed.held = same_Some _ _ (sym there ∙ owned.claimed.there) in
          let versions : v ≡ version = sym theirs.claimed.since ∙ ap (λ (h : Held). h.version) one ∙ owned.claimed.since in
          let made : IsStampBy before (port_key own at) version i k = subst (λ q. IsStampBy before
          (port_key q at) version i k) same.0 (subst (λ p. IsStampBy before (port_key proto p) version i k) same.2
          (subst (λ u. IsStampBy before (port_key proto port) u i k) versions theirs.made)) in
          let both : (i ≡ e.incarnation) × (k ≡ e.item) =
          stamped.makers (port_key own at) version i k e.incarnation e.item made owned.made in
          let mine : is_of i k e ≡ true = rw (eq-eqb e.incarnation i (sym both.0), eq-eqb e.item k (sym both.1)) refl in
          cc
      no_other i k proto port v inside other fits theirs g g_fits (inr was) = theirs.unnamed g g_fits was

      not_swept : (proto : Proto) (port : Pair) (base v : ℕ) (held : Held) (inside : Pair) → IsPair port
          → HasSeen base_at before proto port base v → cells (port_key proto port) ≡ Some held
          → IsOldClaim base held inside → IsUnnamed cells proto port → (g : Pair) → IsPair g
          → ((proto ≡ own) × (g ≡ mine) × (port ≡ at)) ⊎ (flow_at cells proto g ≡ Some port) → ⊥
      not_swept proto port base v held inside fits seen there below unnamed g g_fits (inl same) =
          let here : cells (port_key own at) ≡ Some held =
          ap (λ q. cells (port_key q at)) (sym same.0) ∙ ap (λ p. cells (port_key proto p)) (sym same.2) ∙ there in
          let one : held ≡ owned.claimed.held = same_Some _ _ (sym here ∙ owned.claimed.there) in
          let claims : record { incarnation = below.0; inside = inside }
          ≡ (let c : Claim = record { incarnation = e.incarnation; inside = mine } in c) =
          same_Some _ _ (sym below.2 ∙ ap (λ (h : Held). claim_of h.value.0) one ∙ owned.claimed.claim) in
          let j : below.0 ≡ e.incarnation = ap (λ (c : Claim). c.incarnation) claims in
          let less : below.0 < base = below.1 in
          some_entry-each (λ f. base ≤ base_at f.incarnation)
          (λ f. base_at f.incarnation ≤ base_at e.incarnation) ⊥ before seen.begun epochs (λ f a b. omega arith)
      not_swept proto port base v held inside fits seen there below unnamed g g_fits (inr was) = unnamed g g_fits was

-- A claim that was removed, whose pair no live flow has.
module _ (cells next : Cells) (own : Proto) (at : Pair) (gone : IsGone cells next (port_key own at)) (at_fits : IsPair at) where
  pub freed_flows : FlowsStay cells next
  freed_flows proto inside fits = gone.other (flow_key proto inside) (λ h. flow_port proto own inside at fits at_fits h)

  -- what a port has now it had
  freed_stays : (proto : Proto) (port : Pair) (held : Held) → next (port_key proto port) ≡ Some held
      → cells (port_key proto port) ≡ Some held
  freed_stays proto port held there = go (same_or_not (port_key proto port) (port_key own at))
    where
      go : (port_key proto port ≡ port_key own at) ⊎ (port_key proto port ≡ port_key own at → ⊥)
          → cells (port_key proto port) ≡ Some held
      go (inl same) = let none : next (port_key proto port) ≡ None = ap next same ∙ gone.here in absurd (cc)
      go (inr apart) = sym (gone.other (port_key proto port) apart) ∙ there

  -- a port is the one that was freed, or has what it had
  freed_other : (proto : Proto) (port : Pair) → IsPair port
      → ((proto ≡ own) × (port ≡ at)) ⊎ (next (port_key proto port) ≡ cells (port_key proto port))
  freed_other proto port fits = go (same_or_not (port_key proto port) (port_key own at))
    where
      go : (port_key proto port ≡ port_key own at) ⊎ (port_key proto port ≡ port_key own at → ⊥)
          → ((proto ≡ own) × (port ≡ at)) ⊎ (next (port_key proto port) ≡ cells (port_key proto port))
      go (inl same) = inl (port_key_same proto own port at fits at_fits same)
      go (inr apart) = inr (gone.other (port_key proto port) apart)

  pub freed_live : (nat : Nat)
      → ((proto : Proto) (inside : Pair) (number : ℕ) → IsPair (nat.candidate proto inside number))
      → IsUnnamed cells own at → IsLive nat cells → IsLive nat next
  freed_live nat candidate_fits unnamed live = live_stays nat cells next freed_flows ports claims live
    where
      ports : (proto : Proto) (port : Pair) → IsPair port → claim_in (next (port_key proto port)) ≡ None
          → next (port_key proto port) ≡ None
      ports proto port fits none = go (same_or_not (port_key proto port) (port_key own at))
        where
          go : (port_key proto port ≡ port_key own at) ⊎ (port_key proto port ≡ port_key own at → ⊥)
              → next (port_key proto port) ≡ None
          go (inl same) = ap next same ∙ gone.here
          go (inr apart) = gone.other (port_key proto port) apart
              ∙ live.ports_whole proto port fits (ap claim_in (sym (gone.other (port_key proto port) apart)) ∙ none)

      claims : (proto : Proto) (inside port : Pair) (version i : ℕ) → IsPair inside
          → flow_at cells proto inside ≡ Some port → IsClaimed cells proto port version i inside
          → IsClaimed next proto port version i inside
      claims proto inside port version i fits there claimed = go (freed_other proto port port_fits)
        where
          port_fits : IsPair port
          port_fits = let r : (n : ℕ) × (n < nat.ports) × (nat.candidate proto inside n ≡ port) =
              live.candidates proto inside port fits there in subst IsPair r.2 (candidate_fits proto inside r.0)

          go : ((proto ≡ own) × (port ≡ at)) ⊎ (next (port_key proto port) ≡ cells (port_key proto port))
              → IsClaimed next proto port version i inside
          go (inl same) =
              let named : flow_at cells own inside ≡ Some at =
              ap (λ q. flow_at cells q inside) (sym same.0) ∙ there ∙ ap (λ (p : Pair). Some p) same.1 in
              absurd (unnamed inside fits named)
          go (inr other) = claim_stays cells next proto port version i inside (λ held is. other ∙ is) claimed

  pub freed_carries : (base_at : ℕ → ℕ) (before : List Entry) (e : Entry)
      → ((i k version : ℕ) (inside : Pair) → is_of i k e ≡ false
      → IsCurrent base_at (before ++ e ∷ []) i → IsOwned before cells i k own at version inside → ⊥)
      → Carries base_at before e cells next
  freed_carries base_at before e sole = record {
    owned = λ i k proto port version inside other running fits owned. (
      claims i k proto port version inside other
          running owned (freed_other proto port fits),
      unnamed_stays cells next proto port freed_flows owned.unnamed,
    );
    stays = λ proto port version held fits stamped there since. freed_stays proto port held there;
    unnamed = λ proto port base version held inside fits seen there since below unnamed.
        unnamed_stays cells next proto port freed_flows unnamed;
  }
    where
      claims : (i k : ℕ) (proto : Proto) (port : Pair) (version : ℕ) (inside : Pair) → is_of i k e ≡ false
          → IsCurrent base_at (before ++ e ∷ []) i → IsOwned before cells i k proto port version inside
          → ((proto ≡ own) × (port ≡ at)) ⊎ (next (port_key proto port) ≡ cells (port_key proto port))
          → IsClaimed next proto port version i inside
      claims i k proto port version inside other running owned (inl same) =
          absurd (sole i k version inside other running (subst (λ q. IsOwned before cells i k q at version inside)
          same.0 (subst (λ p. IsOwned before cells i k proto p version inside) same.1 owned)))
      claims i k proto port version inside other running owned (inr stay) =
          claim_stays cells next proto port version i inside (λ held is. stay ∙ is) owned.claimed
