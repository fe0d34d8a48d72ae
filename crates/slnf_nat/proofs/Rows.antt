-- A worked list: a packet comes in between the claim and the record of its flow.
use Rattle.std.proofs.Common.{◌≡◌, ne_eqb, arith, ap, sym, ◌∙◌, subst, ◌<◌, ◌≤◌, ◌++◌, ◌&&◌, ℕ, zero, suc, ◌+◌, ◌%◌, ◌==◌, Bool, true, false, cond, Some, None, List, [], ◌∷◌, refl, nat_le}
use Rattle.slnf_base.specs.declared.addresses.Pair.{Pair}
use Rattle.slnf_base.specs.declared.packets.Proto.TheVariants.{Tcp}
use Rattle.slnf_base.specs.declared.packets.Packet.{Packet}
use Rattle.slnf_base.specs.declared.packets.Change.TheVariants.{Source}
use Rattle.slnf_base.specs.declared.packets.Reason.TheVariants.{NoFlow}
use Rattle.slnf_base.specs.declared.packets.Verdict.TheVariants.{Emit, Dropped}
use Rattle.slnf_access.specs.declared.requests.Entry.{Entry}
use Rattle.slnf_access.specs.declared.requests.Reply.TheVariants.{Done, Found, Absent}
use Rattle.slnf_access.specs.Map.{IsLegal}
use Rattle.slnf_access.specs.Machines.{Stand, Flies, Ends}
use Rattle.slnf_keys.specs.Layout.{pair_number, pair_at, pair_of, key_number, single_number}
use Rattle.slnf_keys.specs.Keys.{flow_key_number, port_key_number}
use Rattle.slnf_keys.specs.Values.{flow_to_number, flow_to_of, claim_number, claim_of}
use Rattle.slnf_run.specs.Visits.{visits_of}
use Rattle.slnf_run.specs.Boxes.{content_after}
use Rattle.slnf_box.specs.Nat.{Nat}
use Rattle.slnf_box.specs.NatBox.{nat_box}
use Rattle.slnf_nat.specs.Flights.{NatFlight, Out, In, Look, Try, Confirm, LookPort, LookFlow}
use Rattle.slnf_nat.specs.Machine.{nat_asks}
use Rattle.slnf_nat.specs.NatScene.{nat_scene}
use Rattle.slnf_access.specs.Machines.{IsPath}
use Rattle.slnf_run.specs.Scene.{is_of, own_of}
use Rattle.slnf_run.specs.Boxes.{IsExplained}
use Rattle.slnf_nat.specs.Machine.{nat_machine}
use Rattle.slnf_nat.specs.StoredFlows.{IsSameFlows}
use Rattle.slnf_nat.specs.Given.{IsNat, IsRanged, IsNatList}
use Rattle.slnf_nat.specs.Flights.{first_of}
use Rattle.slnf_nat.proofs.Explained.{nat_explained}
use Rattle.slnf_nat.proofs.Flying.{same_flight}
use Rattle.std.proofs.lemmas.Bool.{eqb-true, and_parts, and_from, leb-true, le-leb}
use Rattle.slnf_access.specs.Order.{RisesOnKeys}
use Rattle.slnf_nat.proofs.Covering.{pair_made}
use Rattle.slnf_access.proofs.Elements.{each-splits}
use Rattle.std.specs.List.{AllByRecursion}

abbrev nat : Nat
nat = record {
  is_out = λ p. p.source.addr == 10;
  is_in = λ p. p.dest.addr == 203;
  has = λ p. p.addr == 203;
  allows = λ inside p. (p.addr == 203) && (nat_le 40000 p.port && nat_le p.port 40001);
  ports = 2;
  candidate = λ proto inside k. record { addr = 203; port = 40000 + (inside.port + k) % 2 };
}

abbrev inner : Pair
inner = record { addr = 10; port = 5001 }

abbrev outer : Pair
outer = record { addr = 203; port = 40001 }

abbrev far : Pair
far = record { addr = 198; port = 80 }

abbrev going : Packet
going = record { proto = Tcp; source = inner; dest = far; flags = 2 }

abbrev coming : Packet
coming = record { proto = Tcp; source = far; dest = outer; flags = 18 }

abbrev begins : ℕ → ℕ → Stand NatFlight
begins zero zero = Flies (Out Look 0 going)
begins zero (suc k) = Ends None
begins (suc i) zero = Flies (In LookPort coming)
begins (suc i) (suc k) = Ends None

abbrev e0 : Entry
e0 = record { stamp = 1; shard = 0; incarnation = 0; item = 0; request = nat_asks nat (Out Look 0 going); reply = Absent }

abbrev e1 : Entry
e1 = record { stamp = 2; shard = 0; incarnation = 0; item = 0; request = nat_asks nat (Out (Try 0) 0 going); reply = Done 2 }

abbrev e2 : Entry
e2 = record {
  stamp = 3;
  shard = 0;
  incarnation = 1;
  item = 0;
  request = nat_asks nat (In LookPort coming);
  reply = Found (record { 0 = claim_number (record { incarnation = 0; inside = inner }) }) 2;
}

abbrev e3 : Entry
e3 = record {
  stamp = 4;
  shard = 0;
  incarnation = 1;
  item = 0;
  request = nat_asks nat (In (LookFlow inner) coming);
  reply = Absent;
}

abbrev e4 : Entry
e4 = record {
  stamp = 5;
  shard = 0;
  incarnation = 0;
  item = 0;
  request = nat_asks nat (Out (Confirm 0 2) 0 going);
  reply = Done 5;
}

abbrev es : List Entry
es = e0 ∷ e1 ∷ e2 ∷ e3 ∷ e4 ∷ []

legal : IsLegal es
unfolding flow_key_number port_key_number single_number
    key_number pair_number flow_to_number claim_number claim_of pair_at pair_of flow_to_of
legal = (refl, (refl, (refl, (refl, (refl, tt)))))

place : visits_of (nat_scene nat begins) es 2 e2
    ≡ record { arrival = record { packet = coming; choice = None }; verdict = Some (Dropped NoFlow) } ∷ []
unfolding flow_key_number port_key_number single_number
    key_number pair_number flow_to_number claim_number claim_of pair_at pair_of flow_to_of
place = refl

no_place : visits_of (nat_scene nat begins) es 3 e3 ≡ []
unfolding flow_key_number port_key_number single_number
    key_number pair_number flow_to_number claim_number claim_of pair_at pair_of flow_to_of
no_place = refl

out_place : visits_of (nat_scene nat begins) es 4 e4
    ≡ record { arrival = record { packet = going; choice = Some outer }; verdict = Some (Emit (Source outer)) } ∷ []
unfolding flow_key_number port_key_number single_number
    key_number pair_number flow_to_number claim_number claim_of pair_at pair_of flow_to_of
out_place = refl

content : content_after (nat_scene nat begins)
    (nat_box nat) es 5 ≡ record { proto = Tcp; inside = inner; outside = outer } ∷ []
unfolding flow_key_number port_key_number single_number
    key_number pair_number flow_to_number claim_number claim_of pair_at pair_of flow_to_of
content = refl

covered : (inside port : Pair) → nat.allows inside port ≡ true
    → (number : ℕ) × (number < 2) × (nat.candidate Tcp inside number ≡ port)
covered inside port allowed =
    let a = and_parts (port.addr == 203) (nat_le 40000 port.port && nat_le port.port 40001) allowed in
    let b = and_parts (nat_le 40000 port.port) (nat_le port.port 40001) a.1 in
    let low : 40000 ≤ port.port = leb-true 40000 port.port b.0 in
    let high : port.port ≤ 40001 = leb-true port.port 40001 b.1 in
    let number : ℕ = (port.port + inside.port) % 2 in
    let below : (port.port + inside.port) % 2 < 2 = omega arith in
    let there : 40000 + (inside.port + (port.port + inside.port) % 2) % 2 ≡ port.port = omega (arith, low, high) in
    (number, below, pair_made 203 _ port (sym (eqb-true port.addr 203 a.0)) there)

is_nat : IsNat nat
is_nat = record {
  some = omega arith;
  candidate_has = λ proto inside number. refl;
  candidate_allowed = λ proto inside number.
      let low : 40000 ≤ 40000 + (inside.port + number) % 2 = omega arith in
      let high : 40000 + (inside.port + number) % 2 ≤ 40001 = omega arith in
      and_from _ _ refl (and_from _ _ (le-leb _ _ low) (le-leb _ _ high));
  covers = λ proto inside port allowed. covered inside port allowed;
  candidate_fits = λ proto inside number. record { addr_fits = omega arith; port_fits = omega arith };
}

apart : (a b : ℕ) → (a ≡ b → ⊥) → (a == b) ≡ false
apart a b h = ne_eqb a b h

pub other : (i k : ℕ) (e : Entry) → (e.incarnation ≡ i → e.item ≡ k → ⊥) → is_of i k e ≡ false
other i k e h = go (e.incarnation == i) refl (e.item == k) refl
  where
    go : (b : Bool) → (e.incarnation == i) ≡ b → (d : Bool) → (e.item == k) ≡ d → (b && d) ≡ false
    go false w d v = refl
    go true w false v = refl
    go true w true v = absurd (h (eqb-true _ _ w) (eqb-true _ _ v))

pub none_own : (i k : ℕ) (xs : List Entry) → AllByRecursion (λ e. is_of i k e ≡ false) xs → own_of i k xs ≡ []
none_own i k [] h = refl
none_own i k (x ∷ xs) h = ap (λ b. cond b (x ∷ own_of i k xs) (own_of i k xs)) h.0 ∙ none_own i k xs h.1

paths : (i k : ℕ) → IsPath (nat_machine nat) (begins i k) (own_of i k es)
unfolding flow_key_number port_key_number single_number
    key_number pair_number flow_to_number claim_number claim_of pair_at pair_of flow_to_of
paths zero zero = (refl, (refl, (refl, tt)))
paths zero (suc k) = subst (IsPath (nat_machine nat) (begins zero (suc k)))
    (sym (none_own zero (suc k) es (
      other zero (suc k) e0 (λ p q. omega arith),
      (
        other zero (suc k) e1 (λ p q. omega arith),
        (
          other zero (suc k) e2 (λ p q. omega arith),
          (other zero (suc k) e3 (λ p q. omega arith), (other zero (suc k) e4 (λ p q. omega arith), tt)),
        ),
      ),
    ))) tt
paths (suc zero) zero = (refl, (refl, tt))
paths (suc zero) (suc k) =
    subst (IsPath (nat_machine nat) (begins 1 (suc k))) (sym (none_own 1 (suc k) es (
      other 1 (suc k) e0
          (λ p q. omega arith),
      (
        other 1 (suc k) e1 (λ p q. omega arith),
        (
          other 1 (suc k) e2 (λ p q. omega arith),
          (other 1 (suc k) e3 (λ p q. omega arith), (other 1 (suc k) e4 (λ p q. omega arith), tt)),
        ),
      ),
    ))) tt
paths (suc (suc i)) k = subst (IsPath (nat_machine nat) (begins (suc (suc i)) k))
    (sym (none_own (suc (suc i)) k es (
      other (suc (suc i)) k e0 (λ p q. omega arith),
      (
        other (suc (suc i)) k e1 (λ p q. omega arith),
        (
          other (suc (suc i)) k e2 (λ p q. omega arith),
          (
            other
                (suc (suc i)) k e3 (λ p q. omega arith),
            (other (suc (suc i)) k e4 (λ p q. omega arith), tt),
          ),
        ),
      ),
    ))) tt

firsts : (i k : ℕ) (flight : NatFlight) → begins i k ≡ Flies flight → first_of flight ≡ flight
firsts zero zero flight h = subst (λ f. first_of f ≡ f) (same_flight _ flight h) refl
firsts zero (suc k) flight h = absurd (cc)
firsts (suc i) zero flight h = subst (λ f. first_of f ≡ f) (same_flight _ flight h) refl
firsts (suc i) (suc k) flight h = absurd (cc)

ranges : (i k : ℕ) (flight : NatFlight) → begins i k ≡ Flies flight → IsRanged nat (λ i. 0) i flight
ranges zero zero flight h = subst (IsRanged nat (λ i. 0) 0)
    (same_flight _ flight h) (refl, omega arith, record { addr_fits = omega arith; port_fits = omega arith }, refl)
ranges zero (suc k) flight h = absurd (cc)
ranges (suc i) zero flight h = subst (IsRanged nat (λ i. 0) (suc i))
    (same_flight _ flight h) (record { addr_fits = omega arith; port_fits = omega arith }, refl, refl)
ranges (suc i) (suc k) flight h = absurd (cc)

-- stamps rise along the whole list
abbrev pub Rises : ℕ → List Entry → Type 0
Rises n [] = Unit {0}
Rises n (e ∷ xs) = (n < e.stamp) × Rises e.stamp xs

rises_at : (n : ℕ) (xs ys : List Entry) (e : Entry) → Rises n (xs ++ e ∷ ys) → n < e.stamp
rises_at n [] ys e h = h.0
rises_at n (x ∷ xs) ys e h = let a : n < x.stamp = h.0 in let b : x.stamp < e.stamp = rises_at x.stamp xs ys e h.1 in omega arith

rises_behind : (n : ℕ) (xs ys : List Entry) (e : Entry) → Rises n (xs ++ e ∷ ys) → Rises e.stamp ys
rises_behind n [] ys e h = h.1
rises_behind n (x ∷ xs) ys e h = rises_behind x.stamp xs ys e h.1

pub rises_on_keys : (n : ℕ) (es : List Entry) → Rises n es → RisesOnKeys es
rises_on_keys n es h before middle later e f split key =
    rises_at e.stamp middle later f (rises_behind n before (middle ++ f ∷ later) e (subst (Rises n) split h))

rises : Rises 0 es
rises = (omega arith, (omega arith, (omega arith, (omega arith, (omega arith, tt)))))

given : IsNatList nat (λ i. 0) begins es
given = record {
  legal = legal;
  paths = paths;
  firsts = firsts;
  ranges = ranges;
  bases = λ i. omega arith;
  epochs = λ before later e split. each-splits (λ f. 0 ≤ 0) before (λ xs ys f h. omega arith);
  rising = rises_on_keys 0 es rises;
}

explained : IsExplained (nat_scene nat begins) (nat_box nat) IsSameFlows es
explained = nat_explained nat is_nat (λ i. 0) begins es given
