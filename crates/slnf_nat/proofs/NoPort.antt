-- A packet has no port only where it is starved.
use Rattle.std.proofs.Common.{◌≡◌, ℕ, suc, nat_lt, Bool, true, false, cond, Option, Some, None, List, [], ◌∷◌, ◌++◌, take, drop, refl, ap, sym, ◌∙◌, subst, take-append-drop}
use Rattle.std.proofs.lemmas.Option.{slice_get_within, same_Some}
use Rattle.slnf_base.specs.declared.packets.Packet.{Packet}
use Rattle.slnf_base.specs.declared.packets.Change.TheVariants.{Dest}
use Rattle.slnf_base.specs.declared.packets.Reason.TheVariants.{NoFlow, NoPort}
use Rattle.slnf_base.specs.declared.packets.Verdict.{Verdict}
use Rattle.slnf_base.specs.declared.packets.Verdict.TheVariants.{Emit, Dropped}
use Rattle.slnf_base.specs.Equal.{is_same_pair}
use Rattle.slnf_access.specs.declared.requests.Entry.{Entry}
use Rattle.slnf_access.specs.declared.requests.Reply.{Reply}
use Rattle.slnf_access.specs.declared.requests.Reply.TheVariants.{Done, Found, Absent}
use Rattle.slnf_access.specs.Machines.{Stand, Flies, Ends, stand_after, IsPath, decided_at, stand_of_step}
use Rattle.slnf_access.proofs.Laws.{path-front}
use Rattle.slnf_keys.specs.declared.values.FlowTo.{FlowTo}
use Rattle.slnf_keys.specs.declared.values.Claim.{Claim}
use Rattle.slnf_keys.specs.Values.{flow_to_of, claim_of}
use Rattle.slnf_run.specs.Scene.{is_of, own_of, stand_of}
use Rattle.slnf_run.proofs.Splits.{IsSplit, split_at}
use Rattle.slnf_run.proofs.DecidedOnce.{IsDecision, is_decision, stand_of-own}
use Rattle.std.proofs.lemmas.List.Elements.{filter-append}
use Rattle.slnf_box.specs.Nat.{Nat}
use Rattle.slnf_nat.specs.Flights.{Look, Try, Confirm, Release, Last, LookPort, LookFlow, SweepPort, SweepFlow, Remove, NatFlight, Out, In, Sweep, first_of}
use Rattle.slnf_nat.specs.Machine.{nat_goes, nat_machine, claimed, entered, swept, names}
use Rattle.slnf_nat.specs.NatScene.{nat_scene}
use Rattle.slnf_nat.specs.Laws.{NoPortStarves}
use Rattle.slnf_nat.specs.Starved.{IsStarved}
use Rattle.slnf_nat.specs.Given.{IsNat, IsNatList}
use Rattle.slnf_nat.proofs.Starving.{starved}

-- only a packet on its way out can want a port
abbrev pub HasPort : Stand NatFlight → Type 0
HasPort (Flies (Out state i packet)) = ⊥
HasPort (Flies (In state packet)) = Unit {0}
HasPort (Flies (Sweep state proto port base)) = Unit {0}
HasPort (Ends end) = end ≡ Some (Dropped NoPort) → ⊥

has_port_step : (nat : Nat) (flight : NatFlight) (reply : Reply) → HasPort (Flies flight)
    → HasPort (nat_goes nat flight reply)
has_port_step nat (Out state i packet) reply h = absurd h
has_port_step nat (In LookPort packet) (Done stamp) h = λ q. cc
has_port_step nat (In LookPort packet) (Found value stamp) h = go (claim_of value.0)
  where
    go : (o : Option Claim) → HasPort (stand_of_step (claimed packet o))
    go None = λ q. cc
    go (Some claim) = tt
has_port_step nat (In LookPort packet) Absent h = λ q. cc
has_port_step nat (In (LookFlow inside) packet) (Done stamp) h = λ q. cc
has_port_step nat (In (LookFlow inside) packet) (Found value stamp) h = go (flow_to_of value.0)
  where
    by : (b : Bool) → let v : Verdict = cond b (Emit (Dest inside))
        (Dropped NoFlow) in Some v ≡ Some (Dropped NoPort) → ⊥
    by true h = cc
    by false h = cc

    go : (o : Option FlowTo) → HasPort (stand_of_step (entered packet inside o))
    go None = λ q. cc
    go (Some to) = by (is_same_pair to.outside packet.dest)
has_port_step nat (In (LookFlow inside) packet) Absent h = λ q. cc
has_port_step nat (Sweep SweepPort proto port base) (Done stamp) h = λ q. cc
has_port_step nat (Sweep SweepPort proto port base) (Found value stamp) h = go (claim_of value.0)
  where
    by : (claim : Claim) (b : Bool)
        → HasPort (cond b (Flies (Sweep (SweepFlow claim.inside stamp) proto port base)) (Ends None))
    by claim true = tt
    by claim false = λ q. cc

    go : (o : Option Claim) → HasPort (swept proto port base stamp o)
    go None = λ q. cc
    go (Some claim) = by claim (nat_lt claim.incarnation base)
has_port_step nat (Sweep SweepPort proto port base) Absent h = λ q. cc
has_port_step nat (Sweep (SweepFlow inside version) proto port base) (Done stamp) h = tt
has_port_step nat (Sweep (SweepFlow inside version) proto port base) (Found value stamp) h = by (names port (flow_to_of value.0))
  where
    by : (b : Bool) → HasPort (cond b (Ends None) (Flies (Sweep (Remove version) proto port base)))
    by true = λ q. cc
    by false = tt
has_port_step nat (Sweep (SweepFlow inside version) proto port base) Absent h = tt
has_port_step nat (Sweep (Remove version) proto port base) reply h = λ q. cc

has_port : (nat : Nat) (st : Stand NatFlight) (es : List Entry) → HasPort st
    → HasPort (stand_after (nat_machine nat) st es)
has_port nat st [] h = h
has_port nat (Flies flight) (e ∷ es) h = has_port nat (nat_goes nat flight e.reply) es (has_port_step nat flight e.reply h)
has_port nat (Ends end) (e ∷ es) h = has_port nat (Ends end) es h

-- a packet that is decided so has ended
ended_so : (nat : Nat) (st : Stand NatFlight) → decided_at (nat_machine nat) st ≡ Some (Dropped NoPort)
    → st ≡ Ends (Some (Dropped NoPort))
ended_so nat (Flies (Out Look i packet)) h = cc
ended_so nat (Flies (Out (Try number) i packet)) h = cc
ended_so nat (Flies (Out (Confirm number version) i packet)) h = cc
ended_so nat (Flies (Out (Release number version port) i packet)) h = cc
ended_so nat (Flies (Out Last i packet)) h = cc
ended_so nat (Flies (In state packet)) h = cc
ended_so nat (Flies (Sweep state proto port base)) h = cc
ended_so nat (Ends end) h = ap (λ o. Ends o) h

module _ (nat : Nat) (is_nat : IsNat nat) (base_at : ℕ → ℕ) (begins : ℕ → ℕ → Stand NatFlight)
    (es : List Entry) (given : IsNatList nat base_at begins es) where
  -- A packet has no port only where it is starved.
  pub no_port : NoPortStarves nat begins es
  no_port d f x at decided none = go x.first refl
    where
      found : (g : Entry) × IsDecision (nat_scene nat begins) es d x g
      found = is_decision (nat_scene nat begins) es d x decided

      whole : IsDecision (nat_scene nat begins) es d x f
      whole = subst (IsDecision (nat_scene nat begins) es d x) (same_Some found.0 f (sym found.1.at ∙ at)) found.1

      at_d : (h : Entry) × IsSplit es d h
      at_d = split_at es d (slice_get_within es d f at)

      front : take (suc d) es ≡ take d es ++ f ∷ []
      front = at_d.1.front ∙ ap (λ h. take d es ++ h ∷ []) (same_Some at_d.0 f (sym at_d.1.at ∙ whole.at))

      stands : stand_of (nat_scene nat begins) f.incarnation f.item (take (suc d) es) ≡ Ends (Some (Dropped NoPort))
      stands =
          ended_so nat _
          (ap (λ l. decided_at (nat_machine nat) (stand_of (nat_scene nat begins) f.incarnation f.item l)) front
          ∙ ap (decided_at (nat_machine nat)) (stand_of-own (nat_scene nat begins) (take d es) f)
          ∙ whole.after ∙ ap (λ v. Some v) none)

      after : (first : NatFlight) → x.first ≡ first → stand_after (nat_machine nat) (Flies first)
          (own_of f.incarnation f.item (take (suc d) es)) ≡ Ends (Some (Dropped NoPort))
      after first is = ap (λ st. stand_after (nat_machine nat) st (own_of f.incarnation f.item (take (suc d) es)))
          (ap (λ q. Flies q) (sym is) ∙ sym whole.begins) ∙ stands

      path : (first : NatFlight) → x.first ≡ first → IsPath (nat_machine nat) (Flies first)
          (own_of f.incarnation f.item (take (suc d) es))
      path first is =
          subst (λ st. IsPath (nat_machine nat) st (own_of f.incarnation f.item (take (suc d) es)))
          (whole.begins ∙ ap (λ q. Flies q) is)
          (path-front (nat_machine nat) (begins f.incarnation f.item)
          (own_of f.incarnation f.item (take (suc d) es)) (own_of f.incarnation f.item (drop (suc d) es))
          (subst (IsPath (nat_machine nat) (begins f.incarnation f.item))
          (ap (own_of f.incarnation f.item) (sym (take-append-drop (suc d) es)) ∙ filter-append
          (is_of f.incarnation f.item) (take (suc d) es) (drop (suc d) es)) (given.paths f.incarnation f.item)))

      no_end : (st : Stand NatFlight) → HasPort st → st ≡ Ends (Some (Dropped NoPort)) → ⊥
      no_end st h is = (subst HasPort is h) refl

      go : (first : NatFlight) → x.first ≡ first
          → (i : ℕ) × (packet : Packet) × (x.first ≡ Out Look i packet)
          × IsStarved nat i packet (own_of f.incarnation f.item (take (suc d) es))
      go (Out state i packet) is =
          let began : first_of (Out state i packet) ≡ Out state i packet =
          given.firsts f.incarnation f.item (Out state i packet) (whole.begins ∙ ap (λ q. Flies q) is) in
          let first : x.first ≡ Out Look i packet = is ∙ sym began in (
            i,
            packet,
            first,
            starved nat is_nat i packet (own_of f.incarnation f.item (take (suc d) es))
                (path (Out Look i packet) first) (after (Out Look i packet) first),
          )
      go (In state packet) is =
          absurd (no_end _ (has_port nat (Flies (In state packet)) (own_of f.incarnation f.item (take (suc d) es)) tt)
          (after (In state packet) is))
      go (Sweep state proto port base) is = absurd (no_end _ (has_port nat (Flies (Sweep state proto port base))
          (own_of f.incarnation f.item (take (suc d) es)) tt) (after (Sweep state proto port base) is))
