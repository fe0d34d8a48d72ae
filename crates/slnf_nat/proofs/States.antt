-- What holds after an entry of a flight in each state.
use Rattle.std.proofs.Common.{◌≡◌, ℕ, ◌+◌, ◌<◌, ◌≤◌, ◌^◌, nat_lt, ltb-true, Bool, true, false, cond, ◌==◌, Option, Some, None, List, [], ◌∷◌, ◌++◌, refl, ap, sym, ◌∙◌, subst, arith}
use Rattle.std.proofs.lemmas.Option.{same_Some}
use Rattle.std.proofs.lemmas.Bool.{eq-eqb, eqb-true}
use Rattle.slnf_base.specs.declared.addresses.Pair.{Pair}
use Rattle.slnf_base.specs.declared.packets.Proto.{Proto}
use Rattle.slnf_base.specs.declared.packets.Packet.{Packet}
use Rattle.slnf_base.specs.declared.packets.Change.TheVariants.{Dest}
use Rattle.slnf_base.specs.declared.packets.Reason.TheVariants.{NoFlow}
use Rattle.slnf_base.specs.declared.packets.Verdict.TheVariants.{Emit, Dropped}
use Rattle.slnf_base.specs.Equal.{is_same_pair}
use Rattle.slnf_access.specs.declared.requests.Value.{Value}
use Rattle.slnf_access.specs.declared.requests.Held.{Held}
use Rattle.slnf_access.specs.declared.requests.Entry.{Entry}
use Rattle.slnf_access.specs.declared.requests.Reply.{Reply}
use Rattle.slnf_access.specs.declared.requests.Reply.TheVariants.{Done, Found, Absent}
use Rattle.slnf_access.specs.Map.{key_of, reply_to, Cells}
use Rattle.slnf_access.specs.Machines.{Stand, Flies, Ends, decided_at, stand_of_step}
use Rattle.slnf_run.specs.Visits.{newly}
use Rattle.slnf_keys.specs.declared.values.FlowTo.{FlowTo}
use Rattle.slnf_keys.specs.declared.values.Claim.{Claim}
use Rattle.slnf_base.specs.Ranges.{IsPair}
use Rattle.slnf_keys.specs.Values.{flow_to_number, flow_to_of, claim_number, claim_of}
use Rattle.slnf_keys.proofs.Laws.{flow_to-coded, claim-coded}
use Rattle.slnf_run.specs.Scene.{is_of}
use Rattle.slnf_box.specs.Nat.{Nat}
use Rattle.slnf_box.specs.NatBox.{Flow}
use Rattle.slnf_nat.specs.Flights.{OutState, Look, Try, Confirm, Release, Last, InState, LookPort, LookFlow, SweepPort, SweepFlow, Remove, NatFlight, Out, In, Sweep}
use Rattle.slnf_nat.specs.Machine.{flow_key, port_key, tried, nat_asks, nat_goes, nat_machine, decided_out, looked, released, claimed, entered, swept, names}
use Rattle.slnf_nat.specs.StoredFlows.{flow_in, flow_at, outside_of}
use Rattle.slnf_nat.specs.Kept.{IsStampBy, IsCurrent, IsClaimed, IsUnnamed, IsOwned, IsOldClaim, HasSeen, HoldsOut, HoldsIn, HoldsSweep, Holds, HasStamps, IsLive, IsBoxed}
use Rattle.slnf_nat.specs.Given.{IsNat, IsRanged}
use Rattle.slnf_nat.proofs.Lists.{some_entry-more, some_entry-last, each-parts}
use Rattle.slnf_nat.proofs.Effects.{after, IsPut, IsGone, read_effect, read_reply, put_reply, put_found, put_done, delete_reply, delete_none, delete_other, delete_done}
use Rattle.slnf_nat.proofs.Boxing.{Boxes, choice_for, decides, pair_same, same_pair, boxed_same, boxed_known, boxed_new, boxed_none, boxed_in}
use Rattle.slnf_nat.proofs.Carries.{Carries, recorded_here, recorded_other, unnamed_stays, quiet_carries, claimed_flows, claimed_live, claimed_carries, recorded_live, recorded_carries, freed_flows, freed_live, freed_carries}
use Rattle.std.specs.List.{AllByRecursion}

-- what holds of an item where it stands
abbrev pub StandHolds : Nat → (ℕ → ℕ) → List Entry → Cells → ℕ → ℕ → Stand NatFlight → Type 0
StandHolds nat base_at es cells i k (Flies flight) = Holds nat base_at es cells i k flight
StandHolds nat base_at es cells i k (Ends end) = Unit {0}

-- What an entry of a flight leaves.
pub record Outcome (nat : Nat) (base_at : ℕ → ℕ) (before : List Entry)
    (e : Entry) (cells next : Cells) (flight : NatFlight) : Type 0 where
  pub live : IsLive nat next
  pub carries : Carries base_at before e cells next
  pub own : StandHolds nat base_at (before ++ e ∷ []) next e.incarnation e.item (nat_goes nat flight e.reply)
  pub boxes : (c : List Flow) → IsBoxed c cells → Boxes nat c flight next (choice_for flight e.request e.reply)
      (decides nat flight e.reply)

module _ (nat : Nat) (is_nat : IsNat nat) (base_at : ℕ → ℕ) (before : List Entry)
    (e : Entry) (cells : Cells) (stamped : HasStamps before cells) (live : IsLive nat cells)
    (fresh : AllByRecursion (λ f. key_of f.request ≡ key_of e.request → f.stamp < e.stamp) before)
    (epochs : AllByRecursion (λ f. base_at f.incarnation ≤ base_at e.incarnation) before) (based : base_at e.incarnation
    ≤ e.incarnation) (replied : e.reply ≡ reply_to e.request e.stamp (cells (key_of e.request))) where
  -- the item's own epoch is the last so far
  running_each : (es : List Entry) → AllByRecursion (λ f. base_at f.incarnation ≤ base_at e.incarnation) es
      → AllByRecursion (λ f. base_at f.incarnation ≤ e.incarnation) es
  running_each [] h = tt
  running_each (f ∷ es) h = let a : base_at f.incarnation ≤ base_at e.incarnation = h.0 in (omega arith, running_each es h.1)

  pub running_now : IsCurrent base_at before e.incarnation
  running_now = running_each before epochs

  -- an outcome by its reply
  outcome : (next : Cells) (flight : NatFlight) (reply : Reply) → e.request ≡ nat_asks nat flight → e.reply ≡ reply
      → IsLive nat next → Carries base_at before e cells next
      → StandHolds nat base_at (before ++ e ∷ []) next e.incarnation e.item (nat_goes nat flight reply)
      → ((c : List Flow) → IsBoxed c cells
      → Boxes nat c flight next (choice_for flight (nat_asks nat flight) reply) (decides nat flight reply))
      → Outcome nat base_at before e cells next flight
  outcome next flight reply asked is then carries own boxes = record {
    live = then;
    carries = carries;
    own = subst (λ r. StandHolds nat base_at (before ++ e ∷ []) next e.incarnation e.item (nat_goes nat flight r)) (sym is) own;
    boxes = λ c boxed.
        subst (λ q. Boxes nat c flight next (choice_for flight q e.reply) (decides nat flight e.reply)) (sym asked)
        (subst (λ r. Boxes nat c flight next (choice_for flight (nat_asks nat flight) r) (decides nat flight r))
        (sym is) (boxes c boxed));
  }

  -- an outcome without an effect
  quiet : (flight : NatFlight) (reply : Reply) → e.request ≡ nat_asks nat flight → e.reply ≡ reply
      → after cells e ≡ cells
      → StandHolds nat base_at (before ++ e ∷ []) cells e.incarnation e.item (nat_goes nat flight reply)
      → ((c : List Flow) → IsBoxed c cells
      → Boxes nat c flight cells (choice_for flight (nat_asks nat flight) reply) (decides nat flight reply))
      → Outcome nat base_at before e cells (after cells e) flight
  quiet flight reply asked is same own boxes =
      subst (λ next. Outcome nat base_at before e cells next flight)
      (sym same) (outcome cells flight reply asked is live (quiet_carries base_at before e cells) own boxes)

  looked_holds : (o : Option FlowTo)
      → StandHolds nat base_at (before ++ e ∷ []) cells e.incarnation e.item (stand_of_step (looked o))
  looked_holds None = tt
  looked_holds (Some to) = tt

  -- the box knows the flow of a record that is there
  looked_boxes : (state : OutState) (i : ℕ) (packet : Packet) (choice : Option Pair) (held : Held)
      → IsRanged nat base_at e.incarnation (Out state i packet)
      → cells (flow_key packet.proto packet.source) ≡ Some held → (o : Option FlowTo) → flow_to_of held.value.0 ≡ o
      → (c : List Flow) → IsBoxed c cells
      → Boxes nat c (Out state i packet) cells choice (decided_at (nat_machine nat) (stand_of_step (looked o)))
  looked_boxes state i packet choice held ranged is None w c boxed =
      let none : flow_at cells packet.proto packet.source ≡ None = ap flow_in is ∙ ap outside_of w in
      let gone : cells (flow_key packet.proto packet.source) ≡ None = live.whole packet.proto packet.source ranged.2 none in
      absurd (cc)
  looked_boxes state i packet choice held ranged is (Some to) w c boxed =
      boxed_known nat c cells packet choice to.outside ranged.3 ranged.2 (ap flow_in is ∙ ap outside_of w) boxed

  -- a packet on its way out, in Look
  pub look : (i : ℕ) (packet : Packet) → e.request ≡ nat_asks nat (Out Look i packet)
      → IsRanged nat base_at e.incarnation (Out Look i packet) → Outcome nat base_at before e cells (after cells e)
      (Out Look i packet)
  look i packet asked ranged = go (cells (flow_key packet.proto packet.source)) refl
    where
      go : (cell : Option Held) → cells (flow_key packet.proto packet.source) ≡ cell
          → Outcome nat base_at before e cells (after cells e) (Out Look i packet)
      go None is = quiet (Out Look i packet) Absent asked
          (read_reply cells e _ None asked replied is) (read_effect cells e _ asked) is_nat.some (λ c boxed. boxed)
      go (Some held) is = quiet (Out Look i packet)
          (Found held.value held.version) asked (read_reply cells e _ (Some held) asked replied is)
          (read_effect cells e _ asked) (looked_holds (flow_to_of held.value.0))
          (looked_boxes Look i packet None held ranged is (flow_to_of held.value.0) refl)

  -- in Last
  pub last : (i : ℕ) (packet : Packet) → e.request ≡ nat_asks nat (Out Last i packet)
      → IsRanged nat base_at e.incarnation (Out Last i packet) → Outcome nat base_at before e cells (after cells e)
      (Out Last i packet)
  last i packet asked ranged = go (cells (flow_key packet.proto packet.source)) refl
    where
      go : (cell : Option Held) → cells (flow_key packet.proto packet.source) ≡ cell
          → Outcome nat base_at before e cells (after cells e) (Out Last i packet)
      go None is = quiet (Out Last i packet) Absent asked
          (read_reply cells e _ None asked replied is) (read_effect cells e _ asked) tt
          (λ c boxed. boxed_none nat c cells packet ranged.3 ranged.2 (ap flow_in is) boxed)
      go (Some held) is = quiet (Out Last i packet)
          (Found held.value held.version) asked (read_reply cells e _ (Some held) asked replied is)
          (read_effect cells e _ asked) (looked_holds (flow_to_of held.value.0))
          (looked_boxes Last i packet None held ranged is (flow_to_of held.value.0) refl)

  -- in Try
  pub trying : (number i : ℕ) (packet : Packet) → e.request ≡ nat_asks nat (Out (Try number) i packet)
      → IsRanged nat base_at e.incarnation (Out (Try number) i packet) → number < nat.ports
      → Outcome nat base_at before e cells (after cells e) (Out (Try number) i packet)
  trying number i packet asked ranged low = go (cells key) refl
    where
      key : ℕ
      key = port_key packet.proto (tried nat packet number)

      value : Value
      value = record { 0 = claim_number (record { incarnation = i; inside = packet.source }) }

      fits : IsPair (tried nat packet number)
      fits = is_nat.candidate_fits packet.proto packet.source number

      mark : Claim
      mark = record { incarnation = i; inside = packet.source }

      reads : claim_of value.0 ≡ Some mark
      reads = claim-coded.reads (record { incarnation = i; inside = packet.source })
          (subst (λ n. n < 2 ^ 32) (sym ranged.0) ranged.1, ranged.2)

      taken : (b : Bool) → nat_lt (number + 1) nat.ports ≡ b
          → HoldsOut nat base_at (before ++ e ∷ []) cells e.incarnation e.item packet (cond b (Try (number + 1)) Last)
      taken true w = ltb-true _ _ w
      taken false w = tt

      undecided : (c : List Flow) (b : Bool) → IsBoxed c cells
          → Boxes nat c (Out (Try number) i packet) cells None (newly None (decided_out (cond b (Try (number + 1)) Last)))
      undecided c true boxed = boxed
      undecided c false boxed = boxed

      owned : IsPut cells (after cells e) key value e.stamp → IsOwned (before ++ e ∷ [])
          (after cells e) e.incarnation e.item packet.proto (tried nat packet number) e.stamp packet.source
      owned put = record {
        claimed = record {
          held = record { value = value; version = e.stamp };
          there = put.here;
          since = refl;
          claim = reads ∙ ap (λ n. Some (record { incarnation = n; inside = packet.source })) ranged.0;
        };
        made = some_entry-last (λ f. (key_of f.request ≡ key) × (f.stamp ≡ e.stamp)
            × (f.incarnation ≡ e.incarnation) × (f.item ≡ e.item)) before e (ap key_of asked, refl, refl, refl);
        unnamed = unnamed_stays cells (after cells e) packet.proto (tried nat packet number) (claimed_flows cells
            (after cells e) packet.proto (tried nat packet number) value e.stamp put fits mark reads) free;
      }
        where
          free : IsUnnamed cells packet.proto (tried nat packet number)
          free inside inside_fits named =
              let r = live.claims packet.proto inside (tried nat packet number) inside_fits named in
              let none : cells key ≡ None = put.absent in
              let some : cells key ≡ Some r.2.held = r.2.there in
              cc

      go : (cell : Option Held) → cells key ≡ cell → Outcome nat base_at before e cells (after cells e)
          (Out (Try number) i packet)
      go None is =
          let put : IsPut cells (after cells e) key value e.stamp = put_done cells e _ _ asked is in
          outcome (after cells e) (Out (Try number) i packet) (Done e.stamp) asked (put_reply cells e _ _ None asked replied is)
          (claimed_live cells (after cells e) packet.proto (tried nat packet number) value e.stamp put fits mark reads nat live)
          (claimed_carries cells (after cells e) packet.proto
          (tried nat packet number) value e.stamp put fits mark reads base_at before e (subst
          (λ n. AllByRecursion (λ f. key_of f.request ≡ n → f.stamp < e.stamp) before) (ap key_of asked) fresh))
          (low, λ running. owned put)
          (λ c boxed. boxed_same c cells (after cells e) (claimed_flows cells
          (after cells e) packet.proto (tried nat packet number) value e.stamp put fits mark reads) boxed)
      go (Some held) is =
          quiet (Out (Try number) i packet) (Found held.value held.version) asked
          (put_reply cells e _ _ (Some held) asked replied is) (put_found cells e _ _ held asked is)
          (taken (nat_lt (number + 1) nat.ports) refl)
          (λ c boxed. undecided c (nat_lt (number + 1) nat.ports) boxed)

  -- what a flight owns it owns after one more entry that leaves the map
  owned_more : (packet : Packet) (port : Pair) (version : ℕ)
      → IsOwned before cells e.incarnation e.item packet.proto port version packet.source
      → IsOwned (before ++ e ∷ []) cells e.incarnation e.item packet.proto port version packet.source
  owned_more packet port version owned = record {
    claimed = owned.claimed;
    made = some_entry-more (λ f. (key_of f.request ≡ port_key packet.proto port)
        × (f.stamp ≡ version) × (f.incarnation ≡ e.incarnation) × (f.item ≡ e.item)) before (e ∷ []) owned.made;
    unnamed = owned.unnamed;
  }

  -- in Confirm
  pub confirming : (number version i : ℕ) (packet : Packet)
      → e.request ≡ nat_asks nat (Out (Confirm number version) i packet)
      → IsRanged nat base_at e.incarnation (Out (Confirm number version) i packet) → number < nat.ports
      → IsOwned before cells e.incarnation e.item packet.proto (tried nat packet number) version packet.source
      → Outcome nat base_at before e cells (after cells e) (Out (Confirm number version) i packet)
  confirming number version i packet asked ranged low owned = go (cells key) refl
    where
      key : ℕ
      key = flow_key packet.proto packet.source

      at : Pair
      at = tried nat packet number

      value : Value
      value = record { 0 = flow_to_number (record { outside = at }) }

      fits : IsPair at
      fits = is_nat.candidate_fits packet.proto packet.source number

      reads : flow_to_of value.0 ≡ Some (record { outside = at })
      reads = flow_to-coded.reads (record { outside = at }) fits

      found : (o : Option FlowTo)
          → StandHolds nat base_at (before ++ e ∷ []) cells e.incarnation e.item
          (stand_of_step (released i packet number version o))
      found None = tt
      found (Some to) = λ running. owned_more packet at version owned

      known : (held : Held) → cells key ≡ Some held → (o : Option FlowTo) → flow_to_of held.value.0 ≡ o
          → (c : List Flow) → IsBoxed c cells
          → Boxes nat c (Out (Confirm number version) i packet) cells None
          (decided_at (nat_machine nat) (stand_of_step (released i packet number version o)))
      known held is None w c boxed =
          let none : flow_at cells packet.proto packet.source ≡ None = ap flow_in is ∙ ap outside_of w in
          let gone : cells key ≡ None = live.whole packet.proto packet.source ranged.2 none in
          absurd (cc)
      known held is (Some to) w c boxed =
          boxed_known nat c cells packet None to.outside ranged.3 ranged.2 (ap flow_in is ∙ ap outside_of w) boxed

      chosen : choice_for (Out (Confirm number version) i packet)
          (nat_asks nat (Out (Confirm number version) i packet)) (Done e.stamp) ≡ Some at
      chosen = ap (λ b. cond b (outside_of (flow_to_of value.0)) None) (eq-eqb key key refl) ∙ ap outside_of reads

      new : IsPut cells (after cells e) key value e.stamp → (c : List Flow) → IsBoxed c cells
          → Boxes nat c (Out (Confirm number version) i packet) (after cells e)
          (choice_for (Out (Confirm number version) i packet)
          (nat_asks nat (Out (Confirm number version) i packet)) (Done e.stamp))
          (decides nat (Out (Confirm number version) i packet) (Done e.stamp))
      new put c boxed =
          subst (λ o. Boxes nat c (Out (Confirm number version) i packet)
          (after cells e) o (decides nat (Out (Confirm number version) i packet) (Done e.stamp))) (sym chosen)
          (boxed_new nat c cells (after cells e) packet at ranged.3
          (is_nat.candidate_allowed packet.proto packet.source number) ranged.2
          (recorded_here nat cells (after cells e)
          before packet.proto packet.source at number value e.stamp version e put reads ranged.2 fits owned)
          (recorded_other nat cells (after cells e)
          before packet.proto packet.source at number value e.stamp version e put reads ranged.2 fits owned)
          (ap flow_in put.absent) owned.unnamed boxed)

      go : (cell : Option Held) → cells key ≡ cell → Outcome nat base_at before e cells (after cells e)
          (Out (Confirm number version) i packet)
      go None is =
          let put : IsPut cells (after cells e) key value e.stamp = put_done cells e _ _ asked is in
          outcome (after cells e) (Out (Confirm number version) i packet)
          (Done e.stamp) asked (put_reply cells e _ _ None asked replied is)
          (recorded_live nat cells (after cells e) before
          packet.proto packet.source at number value e.stamp version e put reads ranged.2 fits owned low refl live)
          (recorded_carries nat cells (after cells e) before packet.proto
          packet.source at number value e.stamp version e put reads ranged.2 fits owned base_at stamped epochs based)
          tt
          (new put)
      go (Some held) is =
          quiet (Out (Confirm number version) i packet) (Found held.value held.version) asked
          (put_reply cells e _ _ (Some held) asked replied is) (put_found cells e _ _ held asked is)
          (found (flow_to_of held.value.0))
          (known held is (flow_to_of held.value.0) refl)

  -- in Release: the claim stands with its version, and so the reply is Done
  pub releasing : (number version : ℕ) (port : Pair) (i : ℕ) (packet : Packet)
      → e.request ≡ nat_asks nat (Out (Release number version port) i packet)
      → IsRanged nat base_at e.incarnation (Out (Release number version port) i packet)
      → IsOwned before cells e.incarnation e.item packet.proto (tried nat packet number) version packet.source
      → (e.reply ≡ Done e.stamp) × Outcome nat base_at before e cells (after cells e)
      (Out (Release number version port) i packet)
  releasing number version port i packet asked ranged owned = (
    reply_is,
    outcome (after cells e) (Out (Release number version port) i packet) (Done e.stamp) asked reply_is
        (freed_live cells (after cells e) packet.proto at gone fits nat is_nat.candidate_fits owned.unnamed live)
        (freed_carries cells (after cells e) packet.proto at gone fits base_at before e sole)
        tt
        (λ c boxed. boxed_same c cells (after cells e) (freed_flows cells (after cells e) packet.proto at gone fits) boxed),
  )
    where
      at : Pair
      at = tried nat packet number

      key : ℕ
      key = port_key packet.proto at

      fits : IsPair at
      fits = is_nat.candidate_fits packet.proto packet.source number

      same : (owned.claimed.held.version == version) ≡ true
      same = eq-eqb _ _ owned.claimed.since

      gone : IsGone cells (after cells e) key
      gone = delete_done cells e _ version owned.claimed.held asked owned.claimed.there same

      reply_is : e.reply ≡ Done e.stamp
      reply_is =
          delete_reply cells e _ version (Some owned.claimed.held) asked replied owned.claimed.there
          ∙ ap (λ b. cond b (Done e.stamp) (Found owned.claimed.held.value owned.claimed.held.version)) same

      sole : (j l v : ℕ) (inside : Pair) → is_of j l e ≡ false → IsCurrent base_at (before ++ e ∷ []) j
          → IsOwned before cells j l packet.proto at v inside → ⊥
      sole j l v inside other running theirs =
          let one : theirs.claimed.held ≡ owned.claimed.held = same_Some _ _ (sym theirs.claimed.there ∙ owned.claimed.there) in
          let versions : v ≡ version = sym theirs.claimed.since ∙ ap (λ (h : Held). h.version) one ∙ owned.claimed.since in
          let both : (j ≡ e.incarnation) × (l ≡ e.item) = stamped.makers key version j l e.incarnation e.item
          (subst (λ u. IsStampBy before key u j l) versions theirs.made) owned.made in
          let mine : is_of j l e ≡ true = rw (eq-eqb e.incarnation j (sym both.0), eq-eqb e.item l (sym both.1)) refl in
          cc

  -- a packet on its way in
  entered_holds : (packet : Packet) (inside : Pair) (o : Option FlowTo)
      → StandHolds nat base_at (before ++ e ∷ []) cells e.incarnation e.item (stand_of_step (entered packet inside o))
  entered_holds packet inside None = tt
  entered_holds packet inside (Some to) = tt

  claimed_holds : (packet : Packet) (value : Value) (o : Option Claim) → claim_of value.0 ≡ o
      → StandHolds nat base_at (before ++ e ∷ []) cells e.incarnation e.item (stand_of_step (claimed packet o))
  claimed_holds packet value None w = tt
  claimed_holds packet value (Some claim) w = (claim-coded.has value.0 claim w).1.1

  claimed_boxes : (packet : Packet) (choice : Option Pair) (o : Option Claim) (c : List Flow) → IsBoxed c cells
      → Boxes nat c (In LookPort packet) cells choice (decided_at (nat_machine nat) (stand_of_step (claimed packet o)))
  claimed_boxes packet choice None c boxed = boxed
  claimed_boxes packet choice (Some claim) c boxed = boxed

  entered_boxes : (packet : Packet) (inside : Pair) (held : Held)
      → IsRanged nat base_at e.incarnation (In (LookFlow inside) packet) → IsPair inside
      → cells (flow_key packet.proto inside) ≡ Some held → (o : Option FlowTo) → flow_to_of held.value.0 ≡ o
      → (c : List Flow) → IsBoxed c cells
      → Boxes nat c (In (LookFlow inside) packet) cells None
      (decided_at (nat_machine nat) (stand_of_step (entered packet inside o)))
  entered_boxes packet inside held ranged fits is None w c boxed = boxed
  entered_boxes packet inside held ranged fits is (Some to) w c boxed = go (is_same_pair to.outside packet.dest) refl
    where
      go : (b : Bool) → is_same_pair to.outside packet.dest ≡ b
          → Boxes nat c (In (LookFlow inside) packet) cells None (Some (cond b (Emit (Dest inside)) (Dropped NoFlow)))
      go true same = boxed_in nat c cells packet None inside ranged.1 ranged.2 fits
          (ap flow_in is ∙ ap outside_of w ∙ ap (λ (p : Pair). Some p) (same_pair to.outside packet.dest same)) boxed
      go false differs = boxed

  pub entering : (state : InState) (packet : Packet) → e.request ≡ nat_asks nat (In state packet)
      → IsRanged nat base_at e.incarnation (In state packet) → HoldsIn state
      → Outcome nat base_at before e cells (after cells e) (In state packet)
  entering LookPort packet asked ranged holds = go (cells (port_key packet.proto packet.dest)) refl
    where
      go : (cell : Option Held) → cells (port_key packet.proto packet.dest) ≡ cell
          → Outcome nat base_at before e cells (after cells e) (In LookPort packet)
      go None is = quiet (In LookPort packet) Absent asked
          (read_reply cells e _ None asked replied is) (read_effect cells e _ asked) tt (λ c boxed. boxed)
      go (Some held) is =
          quiet (In LookPort packet) (Found held.value held.version) asked
          (read_reply cells e _ (Some held) asked replied is) (read_effect cells e _ asked)
          (claimed_holds packet held.value (claim_of held.value.0) refl)
          (claimed_boxes packet None (claim_of held.value.0))
  entering (LookFlow inside) packet asked ranged holds = go (cells (flow_key packet.proto inside)) refl
    where
      go : (cell : Option Held) → cells (flow_key packet.proto inside) ≡ cell
          → Outcome nat base_at before e cells (after cells e) (In (LookFlow inside) packet)
      go None is = quiet (In (LookFlow inside) packet) Absent asked
          (read_reply cells e _ None asked replied is) (read_effect cells e _ asked) tt (λ c boxed. boxed)
      go (Some held) is =
          quiet (In (LookFlow inside) packet) (Found held.value held.version) asked
          (read_reply cells e _ (Some held) asked replied is) (read_effect cells e _ asked)
          (entered_holds packet inside (flow_to_of held.value.0))
          (entered_boxes packet inside held ranged holds is (flow_to_of held.value.0) refl)

  -- what a sweep has seen it has seen after one more entry
  seen_more : (proto : Proto) (port : Pair) (base version : ℕ) → HasSeen base_at before proto port base version
      → HasSeen base_at (before ++ e ∷ []) proto port base version
  seen_more proto port base version seen = record {
    stamped = some_entry-more (λ f. (key_of f.request ≡ port_key proto port) × (f.stamp ≡ version)) before (e ∷ []) seen.stamped;
    begun = some_entry-more (λ f. base ≤ base_at f.incarnation) before (e ∷ []) seen.begun;
  }

  -- a sweep that looks for a claim
  pub sweeping_port : (proto : Proto) (port : Pair) (base : ℕ)
      → e.request ≡ nat_asks nat (Sweep SweepPort proto port base)
      → IsRanged nat base_at e.incarnation (Sweep SweepPort proto port base)
      → Outcome nat base_at before e cells (after cells e) (Sweep SweepPort proto port base)
  sweeping_port proto port base asked ranged = go (cells (port_key proto port)) refl
    where
      seen : (held : Held) → cells (port_key proto port) ≡ Some held
          → HasSeen base_at (before ++ e ∷ []) proto port base held.version
      seen held is = record {
        stamped = some_entry-more (λ f. (key_of f.request ≡ port_key proto port) × (f.stamp ≡ held.version)) before
            (e ∷ []) (stamped.versions (port_key proto port) held is);
        begun = some_entry-last (λ f. base ≤ base_at f.incarnation) before e
            (let same : base ≡ base_at e.incarnation = ranged.1 in omega arith);
      }

      found : (held : Held) → cells (port_key proto port) ≡ Some held → (o : Option Claim)
          → claim_of held.value.0 ≡ o
          → StandHolds nat base_at (before ++ e ∷ []) cells e.incarnation e.item (swept proto port base held.version o)
      found held is None w = tt
      found held is (Some claim) w = below (nat_lt claim.incarnation base) refl
        where
          below : (b : Bool) → nat_lt claim.incarnation base ≡ b
              → StandHolds nat base_at (before ++ e ∷ []) cells e.incarnation e.item
              (cond b (Flies (Sweep (SweepFlow claim.inside held.version) proto port base)) (Ends None))
          below true less = (
            seen held is,
            λ there at since.
                let one : there ≡ held = same_Some _ _ (sym at ∙ is) in
                (claim.incarnation, ltb-true _ _ less, ap (λ (h : Held). claim_of h.value.0) one ∙ w),
          )
          below false less = tt

      swept_boxes : (held : Held) (o : Option Claim) (c : List Flow) → IsBoxed c cells
          → Boxes nat c (Sweep SweepPort proto port base) cells None
          (decided_at (nat_machine nat) (swept proto port base held.version o))
      swept_boxes held None c boxed = boxed
      swept_boxes held (Some claim) c boxed = go (nat_lt claim.incarnation base)
        where
          go : (b : Bool)
              → Boxes nat c (Sweep SweepPort proto port base) cells None (decided_at (nat_machine nat)
              (cond b (Flies (Sweep (SweepFlow claim.inside held.version) proto port base)) (Ends None)))
          go true = boxed
          go false = boxed

      go : (cell : Option Held) → cells (port_key proto port) ≡ cell
          → Outcome nat base_at before e cells (after cells e) (Sweep SweepPort proto port base)
      go None is = quiet (Sweep SweepPort proto port base) Absent asked
          (read_reply cells e _ None asked replied is) (read_effect cells e _ asked) tt (λ c boxed. boxed)
      go (Some held) is =
          quiet (Sweep SweepPort proto port base) (Found held.value held.version) asked
          (read_reply cells e _ (Some held) asked replied is) (read_effect cells e _ asked)
          (found held is (claim_of held.value.0) refl)
          (swept_boxes held (claim_of held.value.0))

  -- a sweep that looks for the claim's flow
  pub sweeping_flow : (inside : Pair) (version : ℕ) (proto : Proto) (port : Pair) (base : ℕ)
      → e.request ≡ nat_asks nat (Sweep (SweepFlow inside version) proto port base)
      → HoldsSweep base_at before cells proto port base (SweepFlow inside version)
      → Outcome nat base_at before e cells (after cells e) (Sweep (SweepFlow inside version) proto port base)
  sweeping_flow inside version proto port base asked holds = go (cells (flow_key proto inside)) refl
    where
      -- without the flow's record no live flow has the port while the claim stands
      loose : (flow_at cells proto inside ≡ Some port → ⊥)
          → HoldsSweep base_at (before ++ e ∷ []) cells proto port base (Remove version)
      loose none = (
        seen_more proto port base version holds.0,
        λ held at since.
            let below : IsOldClaim base held inside = holds.1 held at since in (
              (inside, below),
              λ g fits named.
                  let r : (v j : ℕ) × IsClaimed cells proto port v j g = live.claims proto g port fits named in
                  let one : held ≡ r.2.held = same_Some _ _ (sym at ∙ r.2.there) in
                  let claims : record { incarnation = below.0; inside = inside }
                  ≡ (let c : Claim = record { incarnation = r.1; inside = g } in c) =
                  same_Some _ _ (sym below.2 ∙ ap (λ (h : Held). claim_of h.value.0) one ∙ r.2.claim) in
                  none (ap (flow_at cells proto) (ap (λ (c : Claim). c.inside) claims) ∙ named),
            ),
      )

      -- a record that doesn't name the port
      unnamed : (o : Option FlowTo) → names port o ≡ false → outside_of o ≡ Some port → ⊥
      unnamed None w h = cc
      unnamed (Some to) w h = let same : is_same_pair to.outside port ≡ true = pair_same to.outside port (same_Some _ _ h) in cc

      found : (held : Held) → cells (flow_key proto inside) ≡ Some held → (b : Bool)
          → names port (flow_to_of held.value.0) ≡ b
          → StandHolds nat base_at (before ++ e ∷ []) cells e.incarnation e.item
          (cond b (Ends None) (Flies (Sweep (Remove version) proto port base)))
      found held is true w = tt
      found held is false w = loose (λ named. unnamed (flow_to_of held.value.0) w (sym (ap flow_in is) ∙ named))

      found_boxes : (c : List Flow) (b : Bool) → IsBoxed c cells
          → Boxes nat c (Sweep (SweepFlow inside version) proto port base) cells None
          (decided_at (nat_machine nat) (cond b (Ends None) (Flies (Sweep (Remove version) proto port base))))
      found_boxes c true boxed = boxed
      found_boxes c false boxed = boxed

      go : (cell : Option Held) → cells (flow_key proto inside) ≡ cell
          → Outcome nat base_at before e cells (after cells e) (Sweep (SweepFlow inside version) proto port base)
      go None is =
          quiet (Sweep (SweepFlow inside version) proto port base) Absent asked
          (read_reply cells e _ None asked replied is) (read_effect cells e _ asked)
          (loose (λ named. let none : flow_at cells proto inside ≡ None = ap flow_in is in cc))
          (λ c boxed. boxed)
      go (Some held) is =
          quiet (Sweep (SweepFlow inside version) proto port base) (Found held.value held.version) asked
          (read_reply cells e _ (Some held) asked replied is) (read_effect cells e _ asked)
          (found held is (names port (flow_to_of held.value.0)) refl)
          (λ c boxed. found_boxes c (names port (flow_to_of held.value.0)) boxed)

  -- a sweep that removes the claim
  pub removing : (version : ℕ) (proto : Proto) (port : Pair) (base : ℕ)
      → e.request ≡ nat_asks nat (Sweep (Remove version) proto port base)
      → IsRanged nat base_at e.incarnation (Sweep (Remove version) proto port base)
      → HoldsSweep base_at before cells proto port base (Remove version)
      → Outcome nat base_at before e cells (after cells e) (Sweep (Remove version) proto port base)
  removing version proto port base asked ranged holds = go (cells key) refl
    where
      key : ℕ
      key = port_key proto port

      sole : (held : Held) → cells key ≡ Some held → held.version ≡ version → (j l v : ℕ) (inside : Pair)
          → is_of j l e ≡ false → IsCurrent base_at (before ++ e ∷ []) j
          → IsOwned before cells j l proto port v inside → ⊥
      sole held at since j l v inside other running theirs =
          let loose = holds.1 held at since in
          let one : held ≡ theirs.claimed.held = same_Some _ _ (sym at ∙ theirs.claimed.there) in
          let claims : record { incarnation = loose.0.1.0; inside = loose.0.0 }
          ≡ (let c : Claim = record { incarnation = j; inside = inside } in c) =
          same_Some _ _ (sym loose.0.1.2 ∙ ap (λ (h : Held). claim_of h.value.0) one ∙ theirs.claimed.claim) in
          let same : loose.0.1.0 ≡ j = ap (λ (c : Claim). c.incarnation) claims in
          let less : loose.0.1.0 < base = loose.0.1.1 in
          let epoch : base ≡ base_at e.incarnation = ranged.1 in
          let above : base_at e.incarnation ≤ j = (each-parts (λ f. base_at f.incarnation ≤ j) before e running).1 in
          omega arith

      found : (held : Held) → cells key ≡ Some held → (b : Bool) → (held.version == version) ≡ b
          → Outcome nat base_at before e cells (after cells e) (Sweep (Remove version) proto port base)
      found held at true same =
          let gone : IsGone cells (after cells e) key = delete_done cells e _ version held asked at same in
          let since : held.version ≡ version = eqb-true _ _ same in
          outcome (after cells e) (Sweep (Remove version) proto port base) e.reply asked refl
          (freed_live cells (after cells e) proto port gone ranged.0 nat is_nat.candidate_fits (holds.1 held at since).1 live)
          (freed_carries cells (after cells e) proto port gone ranged.0 base_at before e (sole held at since))
          tt
          (λ c boxed. boxed_same c cells (after cells e) (freed_flows cells (after cells e) proto port gone ranged.0) boxed)
      found held at false differs = quiet (Sweep (Remove version) proto port base) e.reply asked refl
          (delete_other cells e _ version held asked at differs) tt (λ c boxed. boxed)

      go : (cell : Option Held) → cells key ≡ cell → Outcome nat base_at before e cells (after cells e)
          (Sweep (Remove version) proto port base)
      go None is = quiet (Sweep (Remove version) proto port base) e.reply asked refl
          (delete_none cells e _ version asked is) tt (λ c boxed. boxed)
      go (Some held) is = found held is (held.version == version) refl
