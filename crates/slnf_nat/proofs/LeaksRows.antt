-- A worked list: one flow is recorded, one instance stops between its claim and its flow's record, and a sweep takes
-- that claim away.
use Rattle.std.proofs.Common.{◌≡◌, arith, ap, sym, subst, ◌≤◌, ◌++◌, ℕ, zero, suc, ◌==◌, Some, None, List, [], ◌∷◌, refl, append_assoc}
use Rattle.slnf_base.specs.declared.addresses.Pair.{Pair}
use Rattle.slnf_base.specs.declared.packets.Proto.TheVariants.{Tcp, Udp}
use Rattle.slnf_base.specs.declared.packets.Packet.{Packet}
use Rattle.slnf_base.specs.Equal.{is_same_pair}
use Rattle.slnf_access.specs.declared.requests.Entry.{Entry}
use Rattle.slnf_access.specs.declared.requests.Reply.TheVariants.{Done, Found, Absent}
use Rattle.slnf_access.specs.Map.{IsLegal, empty, map_after}
use Rattle.slnf_access.specs.Machines.{Stand, Flies, Ends, IsPath, HasEnded}
use Rattle.slnf_base.specs.Ranges.{IsPair}
use Rattle.slnf_keys.specs.Layout.{pair_number, pair_at, pair_of, key_number, single_number}
use Rattle.slnf_keys.specs.Keys.{flow_key_number, port_key_number}
use Rattle.slnf_keys.specs.Values.{flow_to_number, flow_to_of, claim_number, claim_of}
use Rattle.slnf_run.specs.Scene.{own_of, stand_of}
use Rattle.slnf_box.specs.Nat.{Nat}
use Rattle.slnf_box.specs.NatBox.{NatArrival}
use Rattle.slnf_nat.specs.Flights.{NatFlight, Out, Look, Try, Confirm, Sweep, SweepPort, SweepFlow, Remove, first_of}
use Rattle.slnf_nat.specs.Machine.{port_key, nat_asks, nat_machine}
use Rattle.slnf_nat.specs.StoredFlows.{flow_at}
use Rattle.slnf_nat.specs.NatScene.{nat_scene}
use Rattle.slnf_nat.specs.Given.{IsNat, IsRanged, IsNatList}
use Rattle.slnf_nat.specs.Leaks.{HasSwept, IsSweepAlone, IsSweepOf, IsThrough, IsOneToOne}
use Rattle.slnf_nat.specs.LeaksNothing.{IsSweepAt, IsFinishedAt, IsSweepItem, IsNatSetting}
use Rattle.slnf_run.specs.Setting.{Actor, Setting, era_of, own_base}
use Rattle.slnf_run.specs.Parts.{part_of, batch_of, offers_at, Post, posts_of}
use Rattle.slnf_run.specs.Run.{EarlierEnded, IsDone, IsOffered, IsRun}
use Rattle.slnf_access.specs.Order.{InOrder, IsInShard}
use Rattle.slnf_run.proofs.Runs.{own_in_part}
use Rattle.std.proofs.Common.{inl, inr}
use Rattle.slnf_nat.proofs.LeaksOfRun.{own_image}
use Rattle.slnf_nat.proofs.NothingLeaks.{nothing_leaks}
use Rattle.std.proofs.Common.{slice_get}
use Rattle.std.proofs.lemmas.Option.{same_Some}
use Rattle.slnf_nat.proofs.Boxing.{same_pair}
use Rattle.slnf_nat.proofs.Flying.{same_flight}
use Rattle.slnf_nat.proofs.Leaks.{alone_settles, one_to_one}
use Rattle.slnf_nat.proofs.Rows.{other, none_own, Rises, rises_on_keys}
use Rattle.std.specs.List.{AllByRecursion}

abbrev outer : Pair
outer = record { addr = 203; port = 40000 }

abbrev inner : Pair
inner = record { addr = 10; port = 5000 }

abbrev far : Pair
far = record { addr = 198; port = 80 }

abbrev nat : Nat
nat = record {
  is_out = λ p. p.source.addr == 10;
  is_in = λ p. is_same_pair p.dest outer;
  has = λ p. is_same_pair p outer;
  allows = λ inside p. is_same_pair p outer;
  ports = 1;
  candidate = λ proto inside k. outer;
}

abbrev over_tcp : Packet
over_tcp = record { proto = Tcp; source = inner; dest = far; flags = 2 }

abbrev over_udp : Packet
over_udp = record { proto = Udp; source = inner; dest = far; flags = 0 }

-- Incarnation 0 has both packets, and incarnation 1 is the sweep.
abbrev begins : ℕ → ℕ → Stand NatFlight
begins zero zero = Flies (Out Look 0 over_tcp)
begins zero (suc zero) = Flies (Out Look 0 over_udp)
begins zero (suc (suc k)) = Ends None
begins (suc zero) zero = Flies (Sweep SweepPort Tcp outer 1)
begins (suc zero) (suc zero) = Flies (Sweep SweepPort Udp outer 1)
begins (suc zero) (suc (suc k)) = Ends None
begins (suc (suc i)) k = Ends None

abbrev base_at : ℕ → ℕ
base_at zero = 0
base_at (suc i) = 1

abbrev the_claim : ℕ
the_claim = claim_number (record { incarnation = 0; inside = inner })

abbrev e0 : Entry
e0 = record { stamp = 1; shard = 0; incarnation = 0; item = 0; request = nat_asks nat (Out Look 0 over_tcp); reply = Absent }

abbrev e1 : Entry
e1 = record { stamp = 2; shard = 0; incarnation = 0; item = 0; request = nat_asks nat (Out (Try 0) 0 over_tcp); reply = Done 2 }

abbrev e2 : Entry
e2 = record {
  stamp = 3;
  shard = 0;
  incarnation = 0;
  item = 0;
  request = nat_asks nat (Out (Confirm 0 2) 0 over_tcp);
  reply = Done 3;
}

abbrev e3 : Entry
e3 = record { stamp = 4; shard = 0; incarnation = 0; item = 1; request = nat_asks nat (Out Look 0 over_udp); reply = Absent }

abbrev e4 : Entry
e4 = record { stamp = 5; shard = 0; incarnation = 0; item = 1; request = nat_asks nat (Out (Try 0) 0 over_udp); reply = Done 5 }

abbrev e5 : Entry
e5 = record {
  stamp = 6;
  shard = 0;
  incarnation = 1;
  item = 0;
  request = nat_asks nat (Sweep SweepPort Tcp outer 1);
  reply = Found (record { 0 = the_claim }) 2;
}

abbrev e6 : Entry
e6 = record {
  stamp = 7;
  shard = 0;
  incarnation = 1;
  item = 0;
  request = nat_asks nat (Sweep (SweepFlow inner 2) Tcp outer 1);
  reply = Found (record { 0 = flow_to_number (record { outside = outer }) }) 3;
}

abbrev e7 : Entry
e7 = record {
  stamp = 8;
  shard = 0;
  incarnation = 1;
  item = 1;
  request = nat_asks nat (Sweep SweepPort Udp outer 1);
  reply = Found (record { 0 = the_claim }) 5;
}

abbrev e8 : Entry
e8 = record {
  stamp = 9;
  shard = 0;
  incarnation = 1;
  item = 1;
  request = nat_asks nat (Sweep (SweepFlow inner 5) Udp outer 1);
  reply = Absent;
}

abbrev e9 : Entry
e9 = record {
  stamp = 10;
  shard = 0;
  incarnation = 1;
  item = 1;
  request = nat_asks nat (Sweep (Remove 5) Udp outer 1);
  reply = Done 10;
}

abbrev es : List Entry
es = e0 ∷ e1 ∷ e2 ∷ e3 ∷ e4 ∷ e5 ∷ e6 ∷ e7 ∷ e8 ∷ e9 ∷ []

legal : IsLegal es
unfolding flow_key_number port_key_number single_number
    key_number pair_number flow_to_number claim_number claim_of pair_at pair_of flow_to_of
legal = (refl, (refl, (refl, (refl, (refl, (refl, (refl, (refl, (refl, (refl, tt))))))))))

-- the claim over UDP was there, and is gone, and the flow over TCP is live
udp_there : map_after empty (e0 ∷ e1 ∷ e2 ∷ e3 ∷ e4 ∷ [])
    (port_key Udp outer) ≡ Some (record { value = record { 0 = the_claim }; version = 5 })
unfolding flow_key_number port_key_number single_number
    key_number pair_number flow_to_number claim_number claim_of pair_at pair_of flow_to_of
udp_there = refl

udp_gone : map_after empty es (port_key Udp outer) ≡ None
unfolding flow_key_number port_key_number single_number
    key_number pair_number flow_to_number claim_number claim_of pair_at pair_of flow_to_of
udp_gone = refl

tcp_live : flow_at (map_after empty es) Tcp inner ≡ Some outer
unfolding flow_key_number port_key_number single_number
    key_number pair_number flow_to_number claim_number claim_of pair_at pair_of flow_to_of
tcp_live = refl

is_nat : IsNat nat
is_nat = record {
  some = omega arith;
  candidate_has = λ proto inside number. refl;
  candidate_allowed = λ proto inside number. refl;
  candidate_fits = λ proto inside number. record { addr_fits = omega arith; port_fits = omega arith };
  covers = λ proto inside port allowed. (0, omega arith, sym (same_pair port outer allowed));
}

paths : (i k : ℕ) → IsPath (nat_machine nat) (begins i k) (own_of i k es)
unfolding flow_key_number port_key_number single_number
    key_number pair_number flow_to_number claim_number claim_of pair_at pair_of flow_to_of
paths zero zero = (refl, (refl, (refl, tt)))
paths zero (suc zero) = (refl, (refl, tt))
paths zero (suc (suc k)) = subst (IsPath (nat_machine nat) (begins zero (suc (suc k))))
    (sym (none_own zero (suc (suc k)) es (
      other (zero) (suc (suc k)) e0 (λ p q. omega arith),
      (
        other (zero) (suc (suc k)) e1 (λ p q. omega arith),
        (
          other (zero) (suc (suc k)) e2 (λ p q. omega arith),
          (
            other (zero) (suc (suc k)) e3 (λ p q. omega arith),
            (
              other (zero) (suc (suc k)) e4 (λ p q. omega arith),
              (
                other (zero) (suc (suc k)) e5 (λ p q. omega arith),
                (
                  other (zero) (suc (suc k)) e6 (λ p q. omega arith),
                  (
                    other (zero) (suc (suc k)) e7 (λ p q. omega arith),
                    (
                      other (zero) (suc (suc k)) e8 (λ p q. omega arith),
                      (other (zero) (suc (suc k)) e9 (λ p q. omega arith), tt),
                    ),
                  ),
                ),
              ),
            ),
          ),
        ),
      ),
    ))) tt
paths (suc zero) zero = (refl, (refl, tt))
paths (suc zero) (suc zero) = (refl, (refl, (refl, tt)))
paths (suc zero) (suc (suc k)) =
    subst (IsPath (nat_machine nat) (begins 1 (suc (suc k)))) (sym (none_own 1 (suc (suc k)) es (
      other (1) (suc (suc k)) e0 (λ p q. omega arith),
      (
        other (1) (suc (suc k)) e1 (λ p q. omega arith),
        (
          other (1) (suc (suc k)) e2 (λ p q. omega arith),
          (
            other (1) (suc (suc k)) e3 (λ p q. omega arith),
            (
              other (1) (suc (suc k)) e4 (λ p q. omega arith),
              (
                other (1) (suc (suc k)) e5 (λ p q. omega arith),
                (
                  other
                      (1) (suc (suc k)) e6 (λ p q. omega arith),
                  (
                    other (1) (suc (suc k)) e7 (λ p q. omega arith),
                    (
                      other (1)
                          (suc (suc k)) e8 (λ p q. omega arith),
                      (other (1) (suc (suc k)) e9 (λ p q. omega arith), tt),
                    ),
                  ),
                ),
              ),
            ),
          ),
        ),
      ),
    ))) tt
paths (suc (suc i)) k = subst (IsPath (nat_machine nat) (begins (suc (suc i)) k)) (sym (none_own (suc (suc i)) k es (
  other (suc (suc i)) (k) e0 (λ p q. omega arith),
  (
    other (suc (suc i)) (k) e1 (λ p q. omega arith),
    (
      other (suc (suc i)) (k) e2 (λ p q. omega arith),
      (
        other (suc (suc i)) (k) e3 (λ p q. omega arith),
        (
          other (suc (suc i)) (k) e4 (λ p q. omega arith),
          (
            other (suc (suc i)) (k) e5 (λ p q. omega arith),
            (
              other
                  (suc (suc i)) (k) e6 (λ p q. omega arith),
              (
                other (suc (suc i)) (k) e7 (λ p q. omega arith),
                (
                  other (suc
                      (suc i)) (k) e8 (λ p q. omega arith),
                  (other (suc (suc i)) (k) e9 (λ p q. omega arith), tt),
                ),
              ),
            ),
          ),
        ),
      ),
    ),
  ),
))) tt

firsts : (i k : ℕ) (flight : NatFlight) → begins i k ≡ Flies flight → first_of flight ≡ flight
firsts zero zero flight h = subst (λ f. first_of f ≡ f) (same_flight _ flight h) refl
firsts zero (suc zero) flight h = subst (λ f. first_of f ≡ f) (same_flight _ flight h) refl
firsts zero (suc (suc k)) flight h = absurd (cc)
firsts (suc zero) zero flight h = subst (λ f. first_of f ≡ f) (same_flight _ flight h) refl
firsts (suc zero) (suc zero) flight h = subst (λ f. first_of f ≡ f) (same_flight _ flight h) refl
firsts (suc zero) (suc (suc k)) flight h = absurd (cc)
firsts (suc (suc i)) k flight h = absurd (cc)

pair_fits : IsPair inner
pair_fits = record { addr_fits = omega arith; port_fits = omega arith }

outer_fits : IsPair outer
outer_fits = record { addr_fits = omega arith; port_fits = omega arith }

ranges : (i k : ℕ) (flight : NatFlight) → begins i k ≡ Flies flight → IsRanged nat base_at i flight
ranges zero zero flight h = subst (IsRanged nat base_at 0) (same_flight _ flight h) (refl, omega arith, pair_fits, refl)
ranges zero (suc zero) flight h = subst (IsRanged nat base_at 0) (same_flight _ flight h) (refl, omega arith, pair_fits, refl)
ranges zero (suc (suc k)) flight h = absurd (cc)
ranges (suc zero) zero flight h = subst (IsRanged nat base_at 1) (same_flight _ flight h) (outer_fits, refl)
ranges (suc zero) (suc zero) flight h = subst (IsRanged nat base_at 1) (same_flight _ flight h) (outer_fits, refl)
ranges (suc zero) (suc (suc k)) flight h = absurd (cc)
ranges (suc (suc i)) k flight h = absurd (cc)

rises : Rises 0 es
rises = (
  omega arith,
  (
    omega arith,
    (
      omega arith,
      (omega arith, (omega arith, (omega arith, (omega arith, (omega arith, (omega arith, (omega arith, tt))))))),
    ),
  ),
)

bases : (i : ℕ) → base_at i ≤ i
bases zero = omega arith
bases (suc i) = omega arith

-- bases rise along the whole list
abbrev Bases : ℕ → List Entry → Type 0
Bases n [] = Unit {0}
Bases n (e ∷ xs) = (n ≤ base_at e.incarnation) × Bases (base_at e.incarnation) xs

bases_at : (n : ℕ) (xs ys : List Entry) (e : Entry) → Bases n (xs ++ e ∷ ys) → n ≤ base_at e.incarnation
bases_at n [] ys e h = h.0
bases_at n (x ∷ xs) ys e h = let a : n ≤ base_at x.incarnation = h.0 in
    let b : base_at x.incarnation ≤ base_at e.incarnation = bases_at (base_at x.incarnation) xs ys e h.1 in
    omega arith

bases_each : (n : ℕ) (xs ys : List Entry) (e : Entry) → Bases n (xs ++ e ∷ ys)
    → AllByRecursion (λ f. base_at f.incarnation ≤ base_at e.incarnation) xs
bases_each n [] ys e h = tt
bases_each n (x ∷ xs) ys e h = (bases_at (base_at x.incarnation) xs ys e h.1, bases_each (base_at x.incarnation) xs ys e h.1)

in_epochs : Bases 0 es
in_epochs = (
  omega arith,
  (
    omega arith,
    (
      omega arith,
      (omega arith, (omega arith, (omega arith, (omega arith, (omega arith, (omega arith, (omega arith, tt))))))),
    ),
  ),
)

given : IsNatList nat base_at begins es
given = record {
  legal = legal;
  paths = paths;
  firsts = firsts;
  ranges = ranges;
  bases = bases;
  epochs = λ before later e split. bases_each 0 before later e (subst (Bases 0) split in_epochs);
  rising = rises_on_keys 0 es rises;
}

tcp_ended : HasEnded (stand_of (nat_scene nat begins) 1 0 es)
unfolding flow_key_number port_key_number single_number
    key_number pair_number flow_to_number claim_number claim_of pair_at pair_of flow_to_of
tcp_ended = tt

udp_ended : HasEnded (stand_of (nat_scene nat begins) 1 1 es)
unfolding flow_key_number port_key_number single_number
    key_number pair_number flow_to_number claim_number claim_of pair_at pair_of flow_to_of
udp_ended = tt

swept : HasSwept nat begins es 1
swept Tcp port fits has used =
    (1, 0, 1, omega arith, ap (λ p. Flies (Sweep SweepPort Tcp p 1)) (sym (same_pair port outer has)), tcp_ended)
swept Udp port fits has used =
    (1, 1, 1, omega arith, ap (λ p. Flies (Sweep SweepPort Udp p 1)) (sym (same_pair port outer has)), udp_ended)

alone : IsSweepAlone begins 1 es
alone = (
  λ h. absurd (omega arith),
  (
    λ h. absurd (omega arith),
    (
      λ h. absurd (omega arith),
      (
        λ h. absurd (omega arith),
        (λ h. absurd (omega arith), (λ h g. g, (λ h g. g, (λ h g. g, (λ h g. g, (λ h g. g, tt)))))),
      ),
    ),
  ),
)

correspond : IsOneToOne nat (map_after empty es)
correspond = one_to_one nat is_nat base_at begins es given 10 1
    (omega arith) swept (alone_settles nat is_nat base_at begins es given 10 1 (omega arith) alone)

-- The setting of the list: one instance that stops after five accesses, and an epoch of the sweep alone.
abbrev instance : Actor
instance = record { lane = Some 0; quota = None; stop = Some 5 }

abbrev the_sweep : Actor
the_sweep = record { lane = None; quota = None; stop = None }

abbrev setting : Setting NatFlight NatArrival
setting = record {
  shards = 1;
  batch = 1;
  lanes = 2 ∷ [];
  sweep_items = 2;
  eras = record { actors = instance ∷ []; schedule = [] } ∷ record { actors = the_sweep ∷ []; schedule = [] } ∷ [];
  scene = nat_scene nat begins;
}

abbrev sweep_at : IsSweepAt setting es 1
sweep_at = record { post = record { actor = the_sweep; era = 1; at = 0 }; posted = refl; no_lane = refl }

finished : IsFinishedAt setting es 1
finished = record { sweep = sweep_at; finished = refl }

only_sweep : (i : ℕ) → IsSweepAt setting es i → i ≡ 1
only_sweep zero h = let post : Post = h.post in
    let same : record { actor = instance; era = 0; at = 0 } ≡ post = same_Some _ post h.posted in
    let lane : Some 0 ≡ post.actor.lane = ap (λ (p : Post). p.actor.lane) same in
    let none : post.actor.lane ≡ None = h.no_lane in
    absurd (cc)
only_sweep (suc zero) h = refl
only_sweep (suc (suc i)) h = absurd (nothing i h.post h.posted)
  where
    nothing : (n : ℕ) (post : Post) → slice_get (posts_of setting es) (suc (suc n)) ≡ Some post → ⊥
    nothing zero post q = cc
    nothing (suc n) post q = cc

setting_ranges : (i k : ℕ) (flight : NatFlight) → begins i k ≡ Flies flight
    → IsRanged nat (own_base setting.eras) i flight
setting_ranges zero zero flight h =
    subst (IsRanged nat (own_base setting.eras) 0) (same_flight _ flight h) (refl, omega arith, pair_fits, refl)
setting_ranges zero (suc zero) flight h =
    subst (IsRanged nat (own_base setting.eras) 0) (same_flight _ flight h) (refl, omega arith, pair_fits, refl)
setting_ranges zero (suc (suc k)) flight h = absurd (cc)
setting_ranges (suc zero) zero flight h =
    subst (IsRanged nat (own_base setting.eras) 1) (same_flight _ flight h) (outer_fits, refl)
setting_ranges (suc zero) (suc zero) flight h =
    subst (IsRanged nat (own_base setting.eras) 1) (same_flight _ flight h) (outer_fits, refl)
setting_ranges (suc zero) (suc (suc k)) flight h = absurd (cc)
setting_ranges (suc (suc i)) k flight h = absurd (cc)

covers : IsSweepOf nat begins 2 1 1
covers Tcp port fits has used = (0, omega arith, ap (λ p. Flies (Sweep SweepPort Tcp p 1)) (sym (same_pair port outer has)))
covers Udp port fits has used = (1, omega arith, ap (λ p. Flies (Sweep SweepPort Udp p 1)) (sym (same_pair port outer has)))

sweep_items : (k : ℕ) → IsSweepItem (begins 1 k)
sweep_items zero = tt
sweep_items (suc zero) = tt
sweep_items (suc (suc k)) = tt

is_setting : IsNatSetting setting (λ (f : NatFlight). f) nat begins es
is_setting = record {
  image = own_image (nat_scene nat begins);
  firsts = firsts;
  ranges = setting_ranges;
  covers = λ i h. subst (λ n. IsSweepOf nat begins 2 n (own_base setting.eras n)) (sym (only_sweep i h)) covers;
  sweeps = λ i k h. subst (λ n. IsSweepItem (begins n k)) (sym (only_sweep i h)) (sweep_items k);
}

through : IsThrough (era_of setting.eras) 1 es 10
through = record {
  size = omega arith;
  front = (
    omega arith,
    (
      omega arith,
      (
        omega arith,
        (
          omega arith,
          (omega arith, (omega arith, (omega arith, (omega arith, (omega arith, (omega arith, tt)))))),
        ),
      ),
    ),
  );
  back = tt;
}

-- The list is a run of it.
abbrev first_post : Post
first_post = record { actor = instance; era = 0; at = 0 }

abbrev second_post : Post
second_post = record { actor = the_sweep; era = 1; at = 0 }

-- what the two posts have, each post has
each_post : (P : ℕ → Post → Type 0) → P 0 first_post → P 1 second_post → (i : ℕ) (post : Post)
    → slice_get (posts_of setting es) i ≡ Some post → P i post
each_post P a b zero post h = subst (P 0) (same_Some first_post post h) a
each_post P a b (suc zero) post h = subst (P 1) (same_Some second_post post h) b
each_post P a b (suc (suc i)) post h = absurd (nothing i post h)
  where
    nothing : (n : ℕ) (post : Post) → slice_get (posts_of setting es) (suc (suc n)) ≡ Some post → ⊥
    nothing zero post q = cc
    nothing (suc n) post q = cc

-- what holds at each split of a list
abbrev Splits : (List Entry → Entry → Type 0) → List Entry → List Entry → Type 0
Splits P done [] = Unit {0}
Splits P done (e ∷ xs) = P done e × Splits P (done ++ e ∷ []) xs

append_none : (xs : List Entry) → xs ++ [] ≡ xs
append_none [] = refl
append_none (x ∷ xs) = ap (λ l. x ∷ l) (append_none xs)

splits_at : (P : List Entry → Entry → Type 0) (done before later : List Entry) (e : Entry)
    → Splits P done (before ++ e ∷ later) → P (done ++ before) e
splits_at P done [] later e h = subst (λ l. P l e) (sym (append_none done)) h.0
splits_at P done (x ∷ before) later e h =
    subst (λ l. P l e) (append_assoc done (x ∷ []) before) (splits_at P (done ++ x ∷ []) before later e h.1)

EarlierAt : List Entry → Entry → Type 0
EarlierAt before e = (post : Post) → slice_get (posts_of setting es) e.incarnation ≡ Some post → EarlierEnded setting
    e.incarnation before (batch_of e.item (offers_at setting e.incarnation post)) (offers_at setting e.incarnation post)

batches : Splits EarlierAt [] es
unfolding EarlierAt flow_key_number port_key_number
    single_number key_number pair_number flow_to_number claim_number claim_of pair_at pair_of flow_to_of
batches = (
  λ post h. subst (λ p. EarlierEnded setting 0 ([]) (batch_of 0 (offers_at setting 0 p)) (offers_at setting 0 p))
      (same_Some first_post post h) (λ q. absurd (omega arith), (λ q. absurd (omega arith), tt)),
  (
    λ post h.
        subst (λ p. EarlierEnded setting 0 (e0 ∷ []) (batch_of 0 (offers_at setting 0 p)) (offers_at setting 0 p))
        (same_Some first_post post h) (λ q. absurd (omega arith), (λ q. absurd (omega arith), tt)),
    (
      λ post h. subst
          (λ p. EarlierEnded setting 0 (e0 ∷ e1 ∷ []) (batch_of 0 (offers_at setting 0 p)) (offers_at setting 0 p))
          (same_Some first_post post h) (λ q. absurd (omega arith), (λ q. absurd (omega arith), tt)),
      (
        λ post h. subst (λ p. EarlierEnded setting 0 (e0 ∷ e1 ∷ e2 ∷ []) (batch_of 1 (offers_at setting 0 p))
            (offers_at setting 0 p)) (same_Some first_post post h) (λ q. tt, (λ q. absurd (omega arith), tt)),
        (
          λ post h. subst (λ p. EarlierEnded setting 0 (e0 ∷ e1 ∷ e2 ∷ e3 ∷ []) (batch_of 1 (offers_at setting 0 p))
              (offers_at setting 0 p)) (same_Some first_post post h) (λ q. tt, (λ q. absurd (omega arith), tt)),
          (
            λ post h. subst (λ p. EarlierEnded setting 1 (e0 ∷ e1 ∷ e2 ∷ e3 ∷ e4 ∷ [])
                (batch_of 0 (offers_at setting 1 p)) (offers_at setting 1 p)) (same_Some second_post post h)
                (λ q. absurd (omega arith), (λ q. absurd (omega arith), tt)),
            (
              λ post h. subst (λ p. EarlierEnded
                  setting 1 (e0 ∷ e1 ∷ e2 ∷ e3 ∷ e4 ∷ e5 ∷ []) (batch_of 0 (offers_at setting 1 p)) (offers_at setting 1 p))
                  (same_Some second_post post h) (λ q. absurd (omega arith), (λ q. absurd (omega arith), tt)),
              (
                λ post h. subst (λ p. EarlierEnded setting 1 (e0 ∷ e1 ∷ e2 ∷ e3 ∷ e4 ∷ e5 ∷ e6 ∷ [])
                    (batch_of 1 (offers_at setting 1 p)) (offers_at setting 1 p)) (same_Some second_post post h) (
                      λ q. tt,
                      (λ q. absurd (omega arith), tt),
                    ),
                (
                  λ post h. subst (λ p. EarlierEnded setting 1 (e0 ∷ e1 ∷ e2 ∷ e3 ∷ e4
                      ∷ e5 ∷ e6 ∷ e7 ∷ []) (batch_of 1 (offers_at setting 1 p)) (offers_at setting 1 p)) (same_Some second_post
                      post h) (λ q. tt, (λ q. absurd (omega arith), tt)),
                  (
                    λ post h. subst (λ p. EarlierEnded setting 1 (e0 ∷ e1
                        ∷ e2 ∷ e3 ∷ e4 ∷ e5 ∷ e6 ∷ e7 ∷ e8 ∷ []) (batch_of 1 (offers_at setting 1 p)) (offers_at setting 1 p))
                        (same_Some second_post post h) (λ q. tt, (λ q. absurd (omega arith), tt)),
                    tt,
                  ),
                ),
              ),
            ),
          ),
        ),
      ),
    ),
  ),
)

-- epochs rise along the whole list
abbrev Epochs : ℕ → List Entry → Type 0
Epochs n [] = Unit {0}
Epochs n (e ∷ xs) = (n ≤ era_of setting.eras e.incarnation) × Epochs (era_of setting.eras e.incarnation) xs

epochs_at : (n : ℕ) (xs ys : List Entry) (e : Entry) → Epochs n (xs ++ e ∷ ys) → n ≤ era_of setting.eras e.incarnation
epochs_at n [] ys e h = h.0
epochs_at n (x ∷ xs) ys e h =
    let a : n ≤ era_of setting.eras x.incarnation = h.0 in
    let b : era_of setting.eras x.incarnation ≤ era_of setting.eras e.incarnation =
    epochs_at (era_of setting.eras x.incarnation) xs ys e h.1 in
    omega (arith, a, b)

epochs_two : (n : ℕ) (xs ys zs : List Entry) (e f : Entry) → Epochs n (xs ++ e ∷ (ys ++ f ∷ zs))
    → era_of setting.eras e.incarnation ≤ era_of setting.eras f.incarnation
epochs_two n [] ys zs e f h = epochs_at (era_of setting.eras e.incarnation) ys zs f h.1
epochs_two n (x ∷ xs) ys zs e f h = epochs_two (era_of setting.eras x.incarnation) xs ys zs e f h.1

all_epochs : Epochs 0 es
all_epochs = (
  omega arith,
  (
    omega arith,
    (
      omega arith,
      (omega arith, (omega arith, (omega arith, (omega arith, (omega arith, (omega arith, (omega arith, tt))))))),
    ),
  ),
)

in_order : InOrder es
in_order = (
  inl (omega arith),
  (
    inl (omega arith),
    (
      inl (omega arith),
      (
        inl (omega arith),
        (
          inl (omega arith),
          (inl (omega arith), (inl (omega arith), (inl (omega arith), (inl (omega arith), tt)))),
        ),
      ),
    ),
  ),
)

in_shards : AllByRecursion (IsInShard 1) es
unfolding flow_key_number port_key_number single_number
    key_number pair_number flow_to_number claim_number claim_of pair_at pair_of flow_to_of
in_shards = (
  record { from_one = omega arith; below_end = omega arith; shard = refl },
  (
    record { from_one = omega arith; below_end = omega arith; shard = refl },
    (
      record { from_one = omega arith; below_end = omega arith; shard = refl },
      (
        record {
          from_one = omega arith;
          below_end = omega arith;
          shard = refl;
        },
        (
          record {
            from_one = omega arith;
            below_end = omega arith;
            shard = refl;
          },
          (
            record { from_one = omega arith; below_end = omega arith; shard = refl },
            (
              record {
                from_one = omega arith;
                below_end = omega arith;
                shard = refl;
              },
              (
                record {
                  from_one = omega arith;
                  below_end = omega arith;
                  shard = refl;
                },
                (
                  record {
                    from_one = omega arith;
                    below_end = omega arith;
                    shard = refl;
                  },
                  (record { from_one = omega arith; below_end = omega arith; shard = refl }, tt),
                ),
              ),
            ),
          ),
        ),
      ),
    ),
  ),
)

run : IsRun setting es
unfolding EarlierAt flow_key_number port_key_number
    single_number key_number pair_number flow_to_number claim_number claim_of pair_at pair_of flow_to_of
run = record {
  in_order = in_order;
  in_shards = in_shards;
  legal = legal;
  of_actors = (
    omega arith,
    (
      omega arith,
      (
        omega arith,
        (
          omega arith,
          (omega arith, (omega arith, (omega arith, (omega arith, (omega arith, (omega arith, tt)))))),
        ),
      ),
    ),
  );
  paths = λ i k. subst (IsPath (nat_machine nat) (begins i k)) (sym (own_in_part i k es)) (paths i k);
  done = each_post (λ i post. IsDone setting es i post) (inl refl) (inr (tt, (tt, (tt, tt))));
  by_epoch = λ before middle later e f split. epochs_two 0 before middle later e f (subst (Epochs 0) split all_epochs);
  offered = each_post (λ i post. AllByRecursion (λ e. IsOffered e.item (offers_at setting i post)) (part_of i es))
      (inl refl, (inl refl, (inl refl, (inr (inl refl), (inr (inl refl), tt)))))
      (inl refl, (inl refl, (inr (inl refl), (inr (inl refl), (inr (inl refl), tt)))));
  by_batch = λ before later e post split. splits_at EarlierAt [] before later e (subst (Splits EarlierAt []) split batches) post;
}

-- so the whole statement says the same of it
run_corresponds : IsOneToOne nat (map_after empty es)
run_corresponds = (nothing_leaks setting (λ (f : NatFlight). f) nat is_nat begins es is_setting run).alone 1 10
    (record { actors = the_sweep ∷ []; schedule = [] }) finished through refl refl
