-- An entry of a list of the NAT's paths, and the flight that makes it.
use Rattle.std.proofs.Common.{◌≡◌, ℕ, Bool, true, false, cond, ◌==◌, Option, Some, None, List, [], ◌∷◌, ◌++◌, length, take, slice_get, refl, ap, sym, ◌∙◌, subst}
use Rattle.std.proofs.Math.Seq.{take-append_seam}
use Rattle.std.proofs.lemmas.List.Elements.{filter-append}
use Rattle.std.proofs.lemmas.Bool.{eqb-true}
use Rattle.slnf_base.specs.declared.addresses.Pair.{Pair}
use Rattle.slnf_base.specs.declared.packets.Proto.{Proto}
use Rattle.slnf_access.specs.declared.requests.Held.{Held}
use Rattle.slnf_access.specs.declared.requests.Entry.{Entry}
use Rattle.slnf_access.specs.Map.{key_of, reply_to, cell_after, cell_step, cell_of, empty, map_after, IsLegal}
use Rattle.slnf_access.specs.Machines.{Stand, Flies, Ends, stand_step, stand_after, IsAsked, IsPath}
use Rattle.slnf_access.proofs.Laws.{cell_of-append, legal-back, path-back}
use Rattle.slnf_base.specs.Ranges.{IsPair}
use Rattle.slnf_run.specs.Scene.{is_of, own_of, stand_of}
use Rattle.slnf_run.specs.Visits.{decision_of, decision_at}
use Rattle.slnf_run.proofs.Splits.{slice_get-split}
use Rattle.slnf_run.proofs.DecidedOnce.{is_of-itself, stand_of-append, stand_of-own}
use Rattle.slnf_box.specs.Nat.{Nat}
use Rattle.slnf_nat.specs.Flights.{Look, Try, Confirm, Release, Last, LookPort, LookFlow, SweepPort, SweepFlow, Remove, NatFlight, Out, In, Sweep, first_of}
use Rattle.slnf_nat.specs.Machine.{flow_key, port_key, tried, nat_asks, nat_goes, nat_machine}
use Rattle.slnf_nat.specs.NatScene.{nat_scene}
use Rattle.slnf_nat.specs.Given.{IsNat, IsRanged, IsNatList}
use Rattle.slnf_nat.proofs.Keys.{flow_port}
use Rattle.slnf_nat.proofs.Flying.{BeganSo, began_so, ranged_by}
use Rattle.slnf_nat.proofs.Boxing.{decides}

-- The flight that makes the entry e behind these.
pub record IsNextOf (nat : Nat) (base_at : ℕ → ℕ) (begins : ℕ → ℕ → Stand NatFlight)
    (before : List Entry) (e : Entry) (flight : NatFlight) : Type 0 where
  pub began : begins e.incarnation e.item ≡ Flies (first_of flight)
  pub stands : stand_of (nat_scene nat begins) e.incarnation e.item before ≡ Flies flight
  pub asked : e.request ≡ nat_asks nat flight
  pub replied : e.reply ≡ reply_to e.request e.stamp (map_after empty before (key_of e.request))
  pub ranged : IsRanged nat base_at e.incarnation flight

-- an item that has ended stays so
pub ended_stays : (nat : Nat) (end : _) (es : List Entry) → stand_after (nat_machine nat) (Ends end) es ≡ Ends end
ended_stays nat end [] = refl
ended_stays nat end (e ∷ es) = ended_stays nat end es

-- how a flight began
began_all : (nat : Nat) (first : NatFlight) (st : Stand NatFlight) (es : List Entry) → BeganSo first st
    → BeganSo first (stand_after (nat_machine nat) st es)
began_all nat first st [] h = h
began_all nat first (Ends end) (e ∷ es) h = began_all nat first (Ends end) es h
began_all nat first (Flies flight) (e ∷ es) h =
    began_all nat first (nat_goes nat flight e.reply) es
    (subst (λ f. BeganSo f (nat_goes nat flight e.reply)) h (began_so nat flight e.reply))

module _ (nat : Nat) (is_nat : IsNat nat) (base_at : ℕ → ℕ) (begins : ℕ → ℕ → Stand NatFlight)
    (es : List Entry) (given : IsNatList nat base_at begins es) where
  -- an item's entries where the list is split at one of them
  own_split : (before later : List Entry) (e : Entry) → es ≡ before ++ e ∷ later
      → own_of e.incarnation e.item es ≡ own_of e.incarnation e.item before ++ e ∷ own_of e.incarnation e.item later
  own_split before later e split =
      ap (own_of e.incarnation e.item) split
      ∙ filter-append (is_of e.incarnation e.item) before (e ∷ later)
      ∙ ap (λ b. own_of e.incarnation e.item before
      ++ cond b (e ∷ own_of e.incarnation e.item later) (own_of e.incarnation e.item later)) (is_of-itself e)

  pub next_of : (before later : List Entry) (e : Entry) → es ≡ before ++ e ∷ later
      → (flight : NatFlight) × IsNextOf nat base_at begins before e flight
  next_of before later e split = go (begins i k) refl (stand_of (nat_scene nat begins) i k before) refl asked
    where
      i : ℕ
      i = e.incarnation

      k : ℕ
      k = e.item

      asked : IsAsked (nat_machine nat) (stand_of (nat_scene nat begins) e.incarnation e.item before) e
      asked = (path-back (nat_machine nat) (begins e.incarnation e.item) (own_of e.incarnation e.item before)
          (e ∷ own_of e.incarnation e.item later) (subst (IsPath (nat_machine nat) (begins e.incarnation e.item))
          (own_split before later e split) (given.paths e.incarnation e.item))).0

      replied : e.reply ≡ reply_to e.request e.stamp (map_after empty before (key_of e.request))
      replied = (legal-back empty before (e ∷ later) (subst IsLegal split given.legal)).0

      go : (first : Stand NatFlight) → begins e.incarnation e.item ≡ first → (st : Stand NatFlight)
          → stand_of (nat_scene nat begins) e.incarnation e.item before ≡ st → IsAsked (nat_machine nat) st e
          → (flight : NatFlight) × IsNextOf nat base_at begins before e flight
      go first b (Ends end) w asked = absurd asked
      go (Ends end) b (Flies flight) w asked =
          let ended : stand_of (nat_scene nat begins) e.incarnation e.item before ≡ Ends end =
          ap (λ st. stand_after (nat_machine nat) st (own_of e.incarnation e.item before)) b
          ∙ ended_stays nat end (own_of e.incarnation e.item before) in
          absurd (cc)
      go (Flies first) b (Flies flight) w asked =
          let is_first : first_of first ≡ first = given.firsts e.incarnation e.item first b in
          let all : BeganSo first (stand_after (nat_machine nat) (Flies first) (own_of e.incarnation e.item before)) =
          began_all nat first (Flies first) (own_of e.incarnation e.item before) is_first in
          let here : stand_after (nat_machine nat) (Flies first) (own_of e.incarnation e.item before) ≡ Flies flight =
          ap (λ st. stand_after (nat_machine nat) st (own_of e.incarnation e.item before)) (sym b) ∙ w in
          let same : first_of flight ≡ first = subst (BeganSo first) here all in
          let began : begins e.incarnation e.item ≡ Flies (first_of flight) = b ∙ ap (λ f. Flies f) (sym same) in (
            flight,
            record {
              began = began;
              stands = w;
              asked = asked;
              replied = replied;
              ranged = ranged_by nat base_at e.incarnation flight (given.ranges e.incarnation e.item (first_of flight) began);
            },
          )

  -- where the item stands after the entry
  pub next_stands : (before : List Entry) (e : Entry) (flight : NatFlight)
      → IsNextOf nat base_at begins before e flight
      → stand_of (nat_scene nat begins) e.incarnation e.item (before ++ e ∷ []) ≡ nat_goes nat flight e.reply
  next_stands before e flight next =
      stand_of-own (nat_scene nat begins) before e ∙ ap (λ st. stand_step (nat_machine nat) st e) next.stands

  -- and every other item stands where it stood
  pub others_stand : (before : List Entry) (e : Entry) (i k : ℕ) → is_of i k e ≡ false
      → stand_of (nat_scene nat begins) i k (before ++ e ∷ []) ≡ stand_of (nat_scene nat begins) i k before
  others_stand before e i k other =
      stand_of-append (nat_scene nat begins) i k before (e ∷ [])
      ∙ ap (λ b. stand_after (nat_machine nat) (stand_of (nat_scene nat begins) i k before) (cond b (e ∷ []) [])) other

  -- what is decided at the entry
  pub decided_here : (before later : List Entry) (e : Entry) (flight : NatFlight) → es ≡ before ++ e ∷ later
      → IsNextOf nat base_at begins before e flight
      → decision_at (nat_scene nat begins) es (length before) ≡ decision_of (Flies (first_of flight))
      (decides nat flight e.reply)
  decided_here before later e flight split next =
      let at : slice_get es (length before) ≡ Some e =
      ap (λ xs. slice_get xs (length before)) split ∙ slice_get-split before later e in
      let front : take (length before) es ≡ before = ap (take (length before)) split ∙ take-append_seam before (e ∷ later) in
      rw (at, front, next.stands, next.began) refl

  both : (b : Bool) (o : Option Held) → cond b o o ≡ o
  both true o = refl
  both false o = refl

  -- A removal is on a port's key, and all else leaves what is there: so a flow's record stays.
  leaves : (proto : Proto) (inside : Pair) (held : Held) (stamp : ℕ) (i : ℕ) (flight : NatFlight) → IsPair inside
      → IsRanged nat base_at i flight → cond (key_of (nat_asks nat flight) == flow_key proto inside)
      (cell_after (nat_asks nat flight) stamp (Some held)) (Some held) ≡ Some held
  leaves proto inside held stamp i (Out Look j packet) fits ranged = both _ (Some held)
  leaves proto inside held stamp i (Out (Try number) j packet) fits ranged = both _ (Some held)
  leaves proto inside held stamp i (Out (Confirm number version) j packet) fits ranged = both _ (Some held)
  leaves proto inside held stamp i (Out (Release number version port) j packet) fits ranged =
      go (port_key packet.proto (tried nat packet number) == flow_key proto inside) refl
    where
      go : (b : Bool) → (port_key packet.proto (tried nat packet number) == flow_key proto inside) ≡ b
          → cond b (cell_after (nat_asks nat (Out (Release number version port) j packet)) stamp (Some held))
          (Some held) ≡ Some held
      go true w = absurd (flow_port proto packet.proto inside (tried nat packet number) fits
          (is_nat.candidate_fits packet.proto packet.source number) (sym (eqb-true _ _ w)))
      go false w = refl
  leaves proto inside held stamp i (Out Last j packet) fits ranged = both _ (Some held)
  leaves proto inside held stamp i (In LookPort packet) fits ranged = both _ (Some held)
  leaves proto inside held stamp i (In (LookFlow g) packet) fits ranged = both _ (Some held)
  leaves proto inside held stamp i (Sweep SweepPort q port base) fits ranged = both _ (Some held)
  leaves proto inside held stamp i (Sweep (SweepFlow g version) q port base) fits ranged = both _ (Some held)
  leaves proto inside held stamp i (Sweep (Remove version) q port base) fits ranged =
      go (port_key q port == flow_key proto inside) refl
    where
      go : (b : Bool) → (port_key q port == flow_key proto inside) ≡ b
          → cond b (cell_after (nat_asks nat (Sweep (Remove version) q port base)) stamp (Some held))
          (Some held) ≡ Some held
      go true w = absurd (flow_port proto q inside port fits ranged.0 (sym (eqb-true _ _ w)))
      go false w = refl

  leaves_at : (before later : List Entry) (e : Entry) → es ≡ before ++ e ∷ later → (proto : Proto) (inside : Pair)
      (held : Held) → IsPair inside → cell_step (flow_key proto inside) (Some held) e ≡ Some held
  leaves_at before later e split proto inside held fits =
      let next : (flight : NatFlight) × IsNextOf nat base_at begins before e flight = next_of before later e split in
      ap (λ r. cond (key_of r == flow_key proto inside) (cell_after r e.stamp (Some held)) (Some held)) next.1.asked
      ∙ leaves proto inside held e.stamp e.incarnation next.0 fits next.1.ranged

  append_assoc : (xs ys zs : List Entry) → (xs ++ ys) ++ zs ≡ xs ++ (ys ++ zs)
  append_assoc [] ys zs = refl
  append_assoc (x ∷ xs) ys zs = ap (λ l. x ∷ l) (append_assoc xs ys zs)

  stays_along : (xs ys zs : List Entry) → es ≡ xs ++ (ys ++ zs) → (proto : Proto) (inside : Pair) (held : Held)
      → IsPair inside → cell_of (flow_key proto inside) (Some held) ys ≡ Some held
  stays_along xs [] zs split proto inside held fits = refl
  stays_along xs (y ∷ ys) zs split proto inside held fits =
      ap (λ cell. cell_of (flow_key proto inside) cell ys) (leaves_at xs (ys ++ zs) y split proto inside held fits)
      ∙ stays_along (xs ++ y ∷ []) ys zs (split ∙ sym (append_assoc xs (y ∷ []) (ys ++ zs))) proto inside held fits

  -- What a flow's key has stays.
  pub flow_stays : (xs ys zs : List Entry) → es ≡ xs ++ (ys ++ zs) → (proto : Proto) (inside : Pair) (held : Held)
      → IsPair inside → map_after empty xs (flow_key proto inside) ≡ Some held → map_after empty (xs ++ ys)
      (flow_key proto inside) ≡ Some held
  flow_stays xs ys zs split proto inside held fits there =
      cell_of-append (flow_key proto inside) None xs ys
      ∙ ap (λ cell. cell_of (flow_key proto inside) cell ys) there
      ∙ stays_along xs ys zs split proto inside held fits
