-- One NAT box explains a legal list of the NAT's and its sweep's paths.
use Rattle.std.proofs.Common.{◌≡◌, ◌⊎◌, inl, inr, ℕ, suc, ◌<◌, ◌≤◌, Bool, true, false, cond, ◌&&◌, Option, Some, None, List, [], ◌∷◌, ◌++◌, length, take, drop, slice_get, refl, ap, sym, ◌∙◌, subst, arith}
use Rattle.std.proofs.Math.Seq.{take-append_seam}
use Rattle.std.proofs.lemmas.Bool.{eq-eqb, and_parts, cases_order}
use Rattle.std.proofs.lemmas.Option.{slice_get_within, same_Some}
use Rattle.slnf_base.specs.declared.addresses.Pair.{Pair}
use Rattle.slnf_base.specs.declared.packets.Packet.{Packet}
use Rattle.slnf_base.specs.declared.packets.Change.{Change}
use Rattle.slnf_base.specs.declared.packets.Change.TheVariants.{Dest}
use Rattle.slnf_base.specs.declared.packets.Reason.TheVariants.{NoFlow}
use Rattle.slnf_base.specs.declared.packets.Verdict.{Verdict}
use Rattle.slnf_base.specs.declared.packets.Verdict.TheVariants.{Emit, Dropped}
use Rattle.slnf_access.specs.declared.requests.Held.{Held}
use Rattle.slnf_access.specs.declared.requests.Entry.{Entry}
use Rattle.slnf_access.specs.declared.requests.Reply.{Reply}
use Rattle.slnf_access.specs.declared.requests.Reply.TheVariants.{Done, Found, Absent}
use Rattle.slnf_access.specs.Map.{Cells, empty, map_after}
use Rattle.slnf_access.specs.Machines.{Stand, Flies, Ends, stand_step, stand_after, decided_at, stand_of_step}
use Rattle.slnf_access.proofs.Laws.{cell_of-append}
use Rattle.slnf_keys.specs.declared.values.FlowTo.{FlowTo}
use Rattle.slnf_base.specs.Ranges.{IsPair}
use Rattle.slnf_keys.specs.Values.{flow_to_of}
use Rattle.slnf_run.specs.Scene.{own_of, stand_of}
use Rattle.slnf_run.specs.Visits.{Decision, Visit, newly, decision_of, decision_at, visit_by, visits_of}
use Rattle.slnf_run.specs.Boxes.{Fits, Agrees, content_through, content_after, IsExplained}
use Rattle.slnf_run.proofs.Splits.{IsSplit, split_at, slice_get-split}
use Rattle.slnf_run.proofs.DecidedOnce.{IsDecision, stand_of-append, take_further, decided_behind}
use Rattle.slnf_run.proofs.OneVisit.{IsVisit, is_visit, own_visit, one_visit}
use Rattle.slnf_run.proofs.Explaining as explaining
use Rattle.slnf_box.specs.Nat.{Nat}
use Rattle.slnf_box.specs.NatBox.{Flow, NatArrival, pair_of, owner, nat_verdict, nat_next, nat_box}
use Rattle.slnf_nat.specs.Flights.{LookPort, LookFlow, NatFlight, Out, In, Sweep, first_of}
use Rattle.slnf_nat.specs.Machine.{flow_key, nat_asks, nat_goes, nat_decided, nat_machine, claimed, entered}
use Rattle.slnf_nat.specs.StoredFlows.{flow_in, flow_at, outside_of, IsSameFlows}
use Rattle.slnf_nat.specs.NatScene.{is_no_flow, is_in, put_on, nat_arrival, nat_scene}
use Rattle.slnf_nat.specs.Kept.{Holds, IsBoxed, IsNatKept}
use Rattle.slnf_nat.specs.Given.{IsNat, IsRanged, IsNatList}
use Rattle.slnf_nat.proofs.Effects.{after, read_reply}
use Rattle.slnf_nat.proofs.Boxing.{Boxes, BoxesBy, choice_for, decides, pair_same}
use Rattle.slnf_nat.proofs.Lists.{rising_before}
use Rattle.slnf_nat.proofs.States.{Outcome}
use Rattle.slnf_nat.proofs.Flying.{stamped_step, outcome_of, flying_step, same_flight}
use Rattle.slnf_nat.proofs.Visiting.{agree_all}
use Rattle.slnf_nat.proofs.Firsts.{none_before, nat_steady, nat_own_places, in_began, packet_began, in_first, verdict_no_flow}
use Rattle.slnf_nat.proofs.Nexts.{IsNextOf, ended_stays, next_of, next_stands, others_stand, decided_here, flow_stays}
use Rattle.slnf_run.specs.Looks.{first_of as first_own, first_of_own as first_with}

-- the map after one more entry
map_push : (es : List Entry) (e : Entry) → map_after empty (es ++ e ∷ []) ≡ after (map_after empty es) e
map_push es e = λ i key. cell_of-append key None es (e ∷ []) i

-- what a cell with an outside pair has
pub flow_there : (cell : Option Held) (port : Pair) → flow_in cell ≡ Some port
    → (held : Held) × (cell ≡ Some held) × (outside_of (flow_to_of held.value.0) ≡ Some port)
flow_there None port h = absurd (cc)
flow_there (Some held) port h = (held, refl, h)

record_there : (o : Option FlowTo) (port : Pair) → outside_of o ≡ Some port
    → (to : FlowTo) × (o ≡ Some to) × (to.outside ≡ port)
record_there None port h = absurd (cc)
record_there (Some to) port h = (to, refl, same_Some to.outside port h)

emits_drops : (change : Change) → Some (Emit change) ≡ Some (Dropped NoFlow) → ⊥
emits_drops change h = cc

-- a packet that looks for the claim's flow and isn't decided has made no access since
still_looks : (nat : Nat) (packet : Packet) (inside : Pair) (xs : List Entry) → decided_at (nat_machine nat)
    (stand_after (nat_machine nat) (Flies (In (LookFlow inside) packet)) xs) ≡ None → stand_after (nat_machine nat)
    (Flies (In (LookFlow inside) packet)) xs ≡ Flies (In (LookFlow inside) packet)
still_looks nat packet inside [] h = refl
still_looks nat packet inside (x ∷ xs) h = absurd (go x.reply h)
  where
    end : (v : Verdict) → decided_at (nat_machine nat) (stand_after (nat_machine nat) (Ends (Some v)) xs) ≡ None → ⊥
    end v h = let e : decided_at (nat_machine nat) (stand_after (nat_machine nat) (Ends (Some v)) xs) ≡ Some v =
        ap (decided_at (nat_machine nat)) (ended_stays nat (Some v) xs) in cc

    by : (o : Option FlowTo) → decided_at (nat_machine nat)
        (stand_after (nat_machine nat) (stand_of_step (entered packet inside o)) xs) ≡ None → ⊥
    by None h = end _ h
    by (Some to) h = end _ h

    go : (reply : Reply) → decided_at (nat_machine nat)
        (stand_after (nat_machine nat) (nat_goes nat (In (LookFlow inside) packet) reply) xs) ≡ None → ⊥
    go (Done stamp) h = end _ h
    go (Found value stamp) h = by (flow_to_of value.0) h
    go Absent h = end _ h

module _ (nat : Nat) (is_nat : IsNat nat) (base_at : ℕ → ℕ) (begins : ℕ → ℕ → Stand NatFlight)
    (es : List Entry) (given : IsNatList nat base_at begins es) where
  -- the invariant
  abbrev pub Inv : List Entry → List Flow → Type 0
  Inv before c = IsNatKept nat base_at begins before
      (map_after empty before) (λ i k. stand_of (nat_scene nat begins) i k before) c

  -- It holds at first.
  holds_first : (i k : ℕ) (flight : NatFlight) → Holds nat base_at [] empty i k (first_of flight)
  holds_first i k (Out state incarnation packet) = tt
  holds_first i k (In state packet) = tt
  holds_first i k (Sweep state proto port base) = tt

  pub at_first : Inv [] []
  at_first = record {
    stamped = record { versions = λ key held there. absurd (cc); makers = λ key version i k j l one two. absurd one };
    live = record {
      whole = λ proto inside fits none. refl;
      ports_whole = λ proto port fits none. refl;
      candidates = λ proto inside port fits there. absurd (cc);
      claims = λ proto inside port fits there. absurd (cc);
    };
    flying = record {
      begun = λ i k flight at. at ∙ ap (λ f. Flies f) (sym (given.firsts i k flight at));
      holds = λ i k flight at. subst (Holds nat base_at [] empty i k) (given.firsts i k flight at) (holds_first i k flight);
    };
    boxed = record {
      agrees = λ proto inside fits. refl;
      fits = λ proto inside port h. absurd (cc);
      back = λ proto inside port h. absurd (cc);
      forth = λ proto inside port h. absurd (cc);
    };
  }

  -- At each entry.
  module _ (before later : List Entry) (e : Entry) (c : List Flow) (split : es ≡ before ++ e ∷ later) (kept : IsNatKept
      nat base_at begins before (map_after empty before) (λ i k. stand_of (nat_scene nat begins) i k before) c)
      (flight : NatFlight) (next : IsNextOf nat base_at begins before e flight) where
    abbrev cells : Cells
    cells = map_after empty before

    abbrev number : ℕ
    number = length before

    outcome : Outcome nat base_at before e (map_after empty before) (after (map_after empty before) e) flight
    outcome = outcome_of nat is_nat base_at before e
        (map_after empty before) kept.stamped kept.live (rising_before es before later e given.rising split)
        (given.epochs before later e split) (given.bases e.incarnation) next.replied flight next.asked next.ranged
        (kept.flying.holds e.incarnation e.item flight next.stands)

    -- all but the box
    kept_but : (d : List Flow) → IsBoxed d (after (map_after empty before) e) → Inv (before ++ e ∷ []) d
    kept_but d boxed =
        subst (λ m. IsNatKept nat base_at begins (before ++ e ∷ []) m
        (λ i k. stand_of (nat_scene nat begins) i k (before ++ e ∷ [])) d) (sym (map_push before e)) (record {
          stamped = stamped_step before e (map_after empty before)
              (rising_before es before later e given.rising split) kept.stamped;
          live = outcome.live;
          flying =
              flying_step nat is_nat base_at begins before e (map_after empty before) (after (map_after empty before) e)
              (λ i k. stand_of (nat_scene nat begins) i k before)
              (λ i k. stand_of (nat_scene nat begins) i k (before ++ e ∷ [])) flight next.stands
              (next_stands nat is_nat base_at begins es given before e flight next)
              (others_stand nat is_nat base_at begins es given before e)
              given.ranges kept.flying outcome;
          boxed = boxed;
        })

    -- the entry's own number
    at_number : slice_get es number ≡ Some e
    at_number = ap (λ xs. slice_get xs (length before)) split ∙ slice_get-split before later e

    front : take number es ≡ before
    front = ap (take (length before)) split ∙ take-append_seam before (e ∷ later)

    here : decision_at (nat_scene nat begins) es number ≡ decision_of (Flies (first_of flight))
        (decides nat flight e.reply)
    here = decided_here nat is_nat base_at begins es given before later e flight split next

    -- where a packet looks for the claim of its destination, no flow has it if it is decided later that none does
    module _ (packet : Packet) (is_port : flight ≡ In LookPort packet)
        (d : ℕ) (x : Decision NatFlight) (f : Entry) (decided : decision_at (nat_scene nat begins) es d ≡ Some x)
        (whole : IsDecision (nat_scene nat begins) es d x f)
        (own_i : e.incarnation ≡ f.incarnation) (own_k : e.item ≡ f.item) (none : x.verdict ≡ Dropped NoFlow) where
      -- the flow that has it has its claim
      module _ (g : Pair) (fits : IsPair g) (named : flow_at (map_after empty before) packet.proto g ≡ Some packet.dest) where
        goes_on : nat_goes nat flight e.reply ≡ Flies (In (LookFlow g) packet)
        goes_on =
            let r = kept.live.claims packet.proto g packet.dest fits named in
            let reply : e.reply ≡ Found r.2.held.value r.2.held.version = read_reply (map_after empty before) e _
            (Some r.2.held) (next.asked ∙ ap (nat_asks nat) is_port) next.replied r.2.there in
            ap (λ q. nat_goes nat q e.reply) is_port
            ∙ ap (nat_goes nat (In LookPort packet)) reply ∙ ap (λ o. stand_of_step (claimed packet o)) r.2.claim

        -- not decided before it
        not_before : d < number → ⊥
        not_before less =
            let behind : decided_at (nat_machine nat)
            (stand_of (nat_scene nat begins) f.incarnation f.item (take number es)) ≡ Some x.verdict =
            decided_behind (nat_scene nat begins) es d number x f whole (nat_steady nat) less in
            let stands : stand_of (nat_scene nat begins) f.incarnation f.item (take number es) ≡ Flies
            (In LookPort packet) = ap (stand_of (nat_scene nat begins) f.incarnation f.item) front
            ∙ ap (λ i. stand_of (nat_scene nat begins) i f.item before) (sym own_i)
            ∙ ap (λ k. stand_of (nat_scene nat begins) e.incarnation k before) (sym own_k)
            ∙ next.stands ∙ ap (λ q. Flies q) is_port in
            let undecided : decided_at (nat_machine nat) (stand_of (nat_scene nat begins) f.incarnation f.item
            (take number es)) ≡ None = ap (decided_at (nat_machine nat)) stands in
            cc

        -- not decided at it
        not_here : d ≡ number → ⊥
        not_here same =
            let at : decision_at (nat_scene nat begins) es number ≡ Some x =
            ap (decision_at (nat_scene nat begins) es) (sym same) ∙ decided in
            let undecided : decides nat flight e.reply ≡ None =
            ap (λ q. newly (nat_decided q) (decided_at (nat_machine nat) (nat_goes nat flight e.reply))) is_port
            ∙ ap (decided_at (nat_machine nat)) goes_on in
            let no : decision_at (nat_scene nat begins) es number ≡ None =
            here ∙ ap (decision_of (Flies (first_of flight))) undecided in
            cc

        -- and what is decided behind it is that the flow has it
        not_behind : number < d → ⊥
        not_behind more =
            let size : d < length es = slice_get_within es d f whole.at in
            let at_d : (h : Entry) × IsSplit es d h = split_at es d size in
            let is_f : at_d.0 ≡ f = same_Some at_d.0 f (sym at_d.1.at ∙ whole.at) in
            let d_split : es ≡ take d es ++ f ∷ drop (suc d) es =
            at_d.1.whole ∙ ap (λ h. take d es ++ h ∷ drop (suc d) es) is_f in
            let at_n : (h : Entry) × IsSplit es number h = split_at es number (slice_get_within es number e at_number) in
            let is_e : at_n.0 ≡ e = same_Some at_n.0 e (sym at_n.1.at ∙ at_number) in
            let n_front : take (suc number) es ≡ before ++ e ∷ [] =
            at_n.1.front ∙ ap (λ h. take number es ++ h ∷ []) is_e ∙ ap (λ l. l ++ e ∷ []) front in
            let middle : List Entry = drop (suc number) (take d es) in
            let long : take d es ≡ (before ++ e ∷ []) ++ middle =
            take_further (suc number) d es (omega arith) ∙ ap (λ l. l ++ middle) n_front in
            let r : (h : NatFlight) × IsNextOf nat base_at begins (take d es) f h =
            next_of nat is_nat base_at begins es given (take d es) (drop (suc d) es) f d_split in
            at_end middle long d_split r.0 r.1
          where
            at_end : (middle : List Entry) → take d es ≡ (before ++ e ∷ []) ++ middle
                → es ≡ take d es ++ f ∷ drop (suc d) es → (h : NatFlight)
                → IsNextOf nat base_at begins (take d es) f h → ⊥
            at_end middle long d_split h there = emits_drops (Dest g) (sym emits ∙ dropped)
              where
                -- the packet stands still
                stands_e : stand_of (nat_scene nat begins) e.incarnation e.item (take d es) ≡ stand_after (nat_machine nat)
                    (Flies (In (LookFlow g) packet)) (own_of e.incarnation e.item middle)
                stands_e =
                    ap (stand_of (nat_scene nat begins) e.incarnation e.item) long
                    ∙ stand_of-append (nat_scene nat begins) e.incarnation e.item (before ++ e ∷ []) middle
                    ∙ ap (λ st. stand_after (nat_machine nat) st (own_of e.incarnation e.item middle))
                    (next_stands nat is_nat base_at begins es given before e flight next ∙ goes_on)

                stands_f : stand_of (nat_scene nat begins) f.incarnation f.item (take d es) ≡ stand_after (nat_machine nat)
                    (Flies (In (LookFlow g) packet)) (own_of e.incarnation e.item middle)
                stands_f = ap (λ i. stand_of (nat_scene nat begins) i f.item (take d es)) (sym own_i)
                    ∙ ap (λ k. stand_of (nat_scene nat begins) e.incarnation k (take d es)) (sym own_k) ∙ stands_e

                looks : stand_of (nat_scene nat begins) f.incarnation f.item (take d es) ≡ Flies (In (LookFlow g) packet)
                looks = stands_f ∙ still_looks nat packet g (own_of e.incarnation e.item middle)
                    (ap (decided_at (nat_machine nat)) (sym stands_f) ∙ whole.before)

                is_look : h ≡ In (LookFlow g) packet
                is_look = same_flight h (In (LookFlow g) packet) (sym there.stands ∙ looks)

                -- and finds the flow
                flow : (held : Held) × (map_after empty before (flow_key packet.proto g) ≡ Some held)
                    × (outside_of (flow_to_of held.value.0) ≡ Some packet.dest)
                flow = flow_there (map_after empty before (flow_key packet.proto g)) packet.dest named

                append_assoc : (xs ys zs : List Entry) → (xs ++ ys) ++ zs ≡ xs ++ (ys ++ zs)
                append_assoc [] ys zs = refl
                append_assoc (x ∷ xs) ys zs = ap (λ l. x ∷ l) (append_assoc xs ys zs)

                long_from : take d es ≡ before ++ (e ∷ middle)
                long_from = long ∙ append_assoc before (e ∷ []) middle

                still : map_after empty (take d es) (flow_key packet.proto g) ≡ Some flow.0
                still =
                    ap (λ l. map_after empty l (flow_key packet.proto g)) long_from
                    ∙ flow_stays nat is_nat base_at begins es given before (e ∷ middle) (f ∷ drop (suc d) es)
                    (d_split ∙ ap (λ l. l ++ f ∷ drop (suc d) es) long_from
                    ∙ append_assoc before (e ∷ middle) (f ∷ drop (suc d) es))
                    packet.proto g flow.0 fits flow.1

                reply : f.reply ≡ Found flow.0.value flow.0.version
                reply = read_reply (map_after empty (take d es)) f _
                    (Some flow.0) (there.asked ∙ ap (nat_asks nat) is_look) there.replied still

                to : (to : FlowTo) × (flow_to_of flow.0.value.0 ≡ Some to) × (to.outside ≡ packet.dest)
                to = record_there (flow_to_of flow.0.value.0) packet.dest flow.2

                emits : decided_at (nat_machine nat)
                    (stand_step (nat_machine nat) (stand_of (nat_scene nat begins) f.incarnation f.item (take d es)) f)
                    ≡ Some (Emit (Dest g))
                emits =
                    ap (λ st. decided_at (nat_machine nat) (stand_step (nat_machine nat) st f)) looks
                    ∙ ap (λ r. decided_at (nat_machine nat) (nat_goes nat (In (LookFlow g) packet) r)) reply
                    ∙ ap (λ o. decided_at (nat_machine nat) (stand_of_step (entered packet g o))) to.1
                    ∙ ap (λ b. Some (cond b (Emit (Dest g)) (Dropped NoFlow))) (pair_same to.0.outside packet.dest to.2)

                dropped : decided_at (nat_machine nat)
                    (stand_step (nat_machine nat) (stand_of (nat_scene nat begins) f.incarnation f.item (take d es)) f)
                    ≡ Some (Dropped NoFlow)
                dropped = whole.after ∙ ap (λ v. Some v) none

        not_named : ⊥
        not_named = go (cases_order d number)
          where
            go : (d ≡ number) ⊎ ((d < number) ⊎ (number < d)) → ⊥
            go (inl same) = not_here same
            go (inr (inl less)) = not_before less
            go (inr (inr more)) = not_behind more

      unowned : owner c packet.proto packet.dest ≡ None
      unowned = go (owner c packet.proto packet.dest) refl
        where
          go : (o : Option Pair) → owner c packet.proto packet.dest ≡ o → owner c packet.proto packet.dest ≡ None
          go None w = w
          go (Some g) w =
              let known : pair_of c packet.proto g ≡ Some packet.dest = kept.boxed.back packet.proto g packet.dest w in
              let fits : IsPair g = kept.boxed.fits packet.proto g packet.dest known in
              absurd (not_named g fits (sym (kept.boxed.agrees packet.proto g fits) ∙ known))

    -- nothing is decided here that has its place here
    abbrev IsQuiet : Type 0
    IsQuiet = (x : Decision NatFlight) → decision_at (nat_scene nat begins) es number ≡ Some x
        → (is_in x.first && is_no_flow x.verdict) ≡ true

    -- then each visit finds no flow, and leaves the box as it is
    moved_visit : (d : ℕ) (v : Visit NatArrival) (r : IsVisit (nat_scene nat begins) es (length before) e d v)
        → e.incarnation ≡ r.decider.incarnation → e.item ≡ r.decider.item
        → (is_in r.decision.first && is_no_flow r.decision.verdict) ≡ true
        → first_with es d (slice_get es d) ≡ length before
        → Fits v.verdict (nat_verdict nat c v.arrival) × (nat_next nat c v.arrival ≡ c)
    moved_visit d v r own_i own_k moved place =
        let parts : (is_in r.decision.first ≡ true) × (is_no_flow r.decision.verdict ≡ true) =
        and_parts (is_in r.decision.first) (is_no_flow r.decision.verdict) moved in
        let began : begins e.incarnation e.item ≡ Flies r.decision.first =
        ap (λ i. begins i e.item) own_i ∙ ap (begins r.decider.incarnation) own_k ∙ r.whole.begins in
        let first_is : r.decision.first ≡ first_of flight =
        same_flight r.decision.first (first_of flight) (sym began ∙ next.began) in
        let first : first_own e.incarnation e.item (before ++ e ∷ later) ≡ length before =
        ap (first_own e.incarnation e.item) (sym split) ∙ ap (λ i. first_own i e.item es) own_i
        ∙ ap (λ k. first_own r.decider.incarnation k es) own_k ∙ ap (first_with es d) (sym r.whole.at) ∙ place in
        let none : own_of e.incarnation e.item before ≡ [] = none_before e.incarnation e.item before later e first in
        let stands : stand_of (nat_scene nat begins) e.incarnation e.item before ≡ Flies (first_of flight) =
        ap (stand_after (nat_machine nat) (begins e.incarnation e.item)) none ∙ next.began in
        let same : flight ≡ first_of flight = same_flight flight (first_of flight) (sym next.stands ∙ stands) in
        let inward : is_in flight ≡ true = sym (in_began flight) ∙ ap is_in (sym first_is) ∙ parts.0 in
        let port : (packet : Packet) × (flight ≡ In LookPort packet) = in_first flight inward same in
        let is_first : r.decision.first ≡ In LookPort port.0 = first_is ∙ ap first_of port.1 in
        let verdict : r.decision.verdict ≡ Dropped NoFlow = verdict_no_flow r.decision.verdict parts.1 in
        let free : owner c port.0.proto port.0.dest ≡ None =
        unowned port.0 port.1 d r.decision r.decider r.decided r.whole own_i own_k verdict in
        let ranged : IsRanged nat base_at e.incarnation (In LookPort port.0) =
        subst (IsRanged nat base_at e.incarnation) port.1 next.ranged in
        let out : nat.is_out port.0 ≡ false = ranged.1 in
        let comes : nat.is_in port.0 ≡ true = ranged.2 in
        let given_verdict : nat_verdict nat c (nat_arrival (In LookPort port.0) e) ≡ Dropped NoFlow =
        rw (out, comes, free) refl in
        let kept_next : nat_next nat c (nat_arrival (In LookPort port.0) e) ≡ c = rw out refl in
        let fit : (nat_verdict nat c (nat_arrival r.decision.first e) ≡ r.decision.verdict)
        × (nat_next nat c (nat_arrival r.decision.first e) ≡ c) = (
          ap (λ q. nat_verdict nat c (nat_arrival q e)) is_first
              ∙ given_verdict ∙ sym verdict,
          ap (λ q. nat_next nat c (nat_arrival q e)) is_first ∙ kept_next,
        ) in
        subst (λ (w : Visit NatArrival). Fits w.verdict (nat_verdict nat c w.arrival) × (nat_next nat c w.arrival ≡ c))
        (sym r.visit) fit

    quiet_visit : IsQuiet → (d : ℕ) (v : Visit NatArrival) → visit_by (nat_scene nat begins) es number e d ≡ Some v
        → Fits v.verdict (nat_verdict nat c v.arrival) × (nat_next nat c v.arrival ≡ c)
    quiet_visit quiet d v visits = go (is_in r.decision.first && is_no_flow r.decision.verdict) refl r.place
      where
        r : IsVisit (nat_scene nat begins) es (length before) e d v
        r = is_visit (nat_scene nat begins) es (length before) e d v visits

        own : (e.incarnation ≡ r.decider.incarnation) × (e.item ≡ r.decider.item)
        own = own_visit (nat_scene nat begins) es (length before) e d v (nat_own_places nat begins es) at_number r

        go : (b : Bool) → (is_in r.decision.first && is_no_flow r.decision.verdict) ≡ b
            → cond b (first_with es d (slice_get es d)) d ≡ length before
            → Fits v.verdict (nat_verdict nat c v.arrival) × (nat_next nat c v.arrival ≡ c)
        go false w place =
            let at : decision_at (nat_scene nat begins) es (length before) ≡ Some r.decision =
            ap (decision_at (nat_scene nat begins) es) (sym place) ∙ r.decided in
            let moved : (is_in r.decision.first && is_no_flow r.decision.verdict) ≡ true = quiet r.decision at in
            absurd (cc)
        go true w place = moved_visit d v r own.0 own.1 w place

    quiet_step : IsQuiet → IsBoxed c (after (map_after empty before) e)
        → Agrees (nat_box nat) c (visits_of (nat_scene nat begins) es (length before) e) × Inv (before ++ e ∷ [])
        (content_through (nat_box nat) c (visits_of (nat_scene nat begins) es (length before) e))
    quiet_step quiet boxed =
        let all = agree_all (nat_box nat) c (visit_by (nat_scene nat begins) es (length before) e) 0
        (length es) (quiet_visit quiet) in
        (all.0, subst (Inv (before ++ e ∷ [])) (sym all.1) (kept_but c boxed))

    -- a verdict that is decided here and has its place here
    placed_step : (v : Verdict) → decides nat flight e.reply ≡ Some v → (is_in flight && is_no_flow v) ≡ false
        → BoxesBy nat c flight (after (map_after empty before) e) (choice_for flight e.request e.reply) v false
        → Agrees (nat_box nat) c (visits_of (nat_scene nat begins) es (length before) e) × Inv (before ++ e ∷ [])
        (content_through (nat_box nat) c (visits_of (nat_scene nat begins) es (length before) e))
    placed_step v decided stays boxes =
        let now : decision_at (nat_scene nat begins) es (length before) ≡ Some (record {
          first = first_of flight;
          verdict = v;
        }) = here ∙ ap (decision_of (Flies (first_of flight))) decided in
        let visit : visit_by (nat_scene nat begins) es (length before) e
        (length before) ≡ Some (record { arrival = nat_arrival (first_of flight) e; verdict = Some v }) =
        rw (now, in_began flight, stays, eq-eqb (length before) (length before) refl) refl in
        let one : visits_of (nat_scene nat begins) es
        (length before) e ≡ record { arrival = nat_arrival (first_of flight) e; verdict = Some v } ∷ [] =
        one_visit (nat_scene nat begins) es (length before) e
        (length before) _ (λ i. nat_steady nat) (nat_own_places nat begins es) at_number visit in
        let boxed : (nat_verdict nat c (nat_arrival (first_of flight) e) ≡ v)
        × IsBoxed (nat_next nat c (nat_arrival (first_of flight) e)) (after (map_after empty before) e) =
        subst (λ (p : Packet).
        let a : NatArrival = record { packet = p; choice = put_on (flow_key p.proto p.source) e.request e.reply } in
        (nat_verdict nat c a ≡ v) × IsBoxed (nat_next nat c a) (after (map_after empty before) e))
        (sym (packet_began flight)) boxes in
        rw one ((boxed.0, tt), kept_but (nat_next nat c (nat_arrival (first_of flight) e)) boxed.1)

    step_here : Agrees (nat_box nat) c (visits_of (nat_scene nat begins) es (length before) e) × Inv (before ++ e ∷ [])
        (content_through (nat_box nat) c (visits_of (nat_scene nat begins) es (length before) e))
    step_here = go (decides nat flight e.reply) refl (outcome.boxes c kept.boxed)
      where
        by : (v : Verdict) → decides nat flight e.reply ≡ Some v → (b : Bool) → (is_in flight && is_no_flow v) ≡ b
            → BoxesBy nat c flight (after (map_after empty before) e) (choice_for flight e.request e.reply) v b
            → Agrees (nat_box nat) c (visits_of (nat_scene nat begins) es (length before) e) × Inv (before ++ e ∷ [])
            (content_through (nat_box nat) c (visits_of (nat_scene nat begins) es (length before) e))
        by v decided true moved boxed =
            quiet_step (λ x at.
            let now : decision_at (nat_scene nat begins) es (length before) ≡ Some (record {
              first = first_of flight;
              verdict = v;
            }) = here ∙ ap (decision_of (Flies (first_of flight))) decided in
            let same : record { first = first_of flight; verdict = v } ≡ x = same_Some _ x (sym now ∙ at) in
            ap (λ (y : Decision NatFlight). is_in y.first && is_no_flow y.verdict) (sym same)
            ∙ ap (λ b. b && is_no_flow v) (in_began flight) ∙ moved)
            boxed
        by v decided false stays boxes = placed_step v decided stays boxes

        go : (o : Option Verdict) → decides nat flight e.reply ≡ o
            → Boxes nat c flight (after (map_after empty before) e) (choice_for flight e.request e.reply) o
            → Agrees (nat_box nat) c (visits_of (nat_scene nat begins) es (length before) e) × Inv (before ++ e ∷ [])
            (content_through (nat_box nat) c (visits_of (nat_scene nat begins) es (length before) e))
        go None undecided boxed =
            quiet_step (λ x at. let no : decision_at (nat_scene nat begins) es (length before) ≡ None =
            here ∙ ap (decision_of (Flies (first_of flight))) undecided in absurd (cc)) boxed
        go (Some v) decided boxes = by v decided (is_in flight && is_no_flow v) refl boxes

  pub step : (before later : List Entry) (e : Entry) (c : List Flow) → es ≡ before ++ e ∷ later → Inv before c
      → Agrees (nat_box nat) c (visits_of (nat_scene nat begins) es (length before) e) × Inv (before ++ e ∷ [])
      (content_through (nat_box nat) c (visits_of (nat_scene nat begins) es (length before) e))
  step before later e c split kept =
      let next : (flight : NatFlight) × IsNextOf nat base_at begins before e flight =
      next_of nat is_nat base_at begins es given before later e split in
      step_here before later e c split kept next.0 next.1

  -- The invariant holds after each prefix.
  pub nat_keeps : (t : ℕ) → t ≤ length es → Inv (take t es) (content_after (nat_scene nat begins) (nat_box nat) es t)
  nat_keeps = explaining.keeps (nat_scene nat begins) (nat_box nat) es Inv at_first step

  -- One NAT box explains the list.
  pub nat_explained : IsExplained (nat_scene nat begins) (nat_box nat) IsSameFlows es
  nat_explained = explaining.explained (nat_scene nat begins) (nat_box nat) es Inv at_first step IsSameFlows
      (λ before c kept. record { agrees = kept.boxed.agrees; whole = kept.live.whole })
