-- The code's hands and those of a follower.
use Rattle.std.proofs.Common.{◌≡◌, ℕ, zero, suc, ◌+◌, Bool, true, false, ◌==◌, if◌then◌else◌, Some, option_map, List, [], ◌∷◌, ◌++◌, length, map, set, slice_get, refl, sym, ap, ap₂, ◌∙◌, subst, subst₂, arith}
use Rattle.std.proofs.lemmas.Option.{same_Some}
use Rattle.slnf_plan.specs.declared.plan.InstancePlan.{InstancePlan}
use Rattle.slnf_plan.specs.declared.plan.SweepPlan.{SweepPlan}
use Rattle.slnf_plan.specs.declared.plan.SweepPlan.TheVariants.{No, Yes}
use Rattle.slnf_run.specs.Setting.{Actor, Setting}
use Rattle.slnf_run.specs.Jobs.{job_of}
use Rattle.slnf_run.specs.Parts.{at_lane, offers_of}
use Rattle.slnf_instance.specs.Items.{Workload}
use Rattle.slnf_flight.specs.Actors.{instance_actor, sweep_actors}
use Rattle.slnf_local.specs.Hands.{Hand as Held, is_no_batch, hand_is_over, hand_first}
use Rattle.slnf_local.specs.Followers.{all_over, taken_in, hands_first}
use Rattle.slnf_local.specs.Passes.{first_open}
use Rattle.slnf_hand.specs.Hands.{Followed, is_over, IsHandOf}
use Rattle.slnf_hand.proofs.Laws.{ended_is, taken_is}
use Rattle.slnf_follow.specs.Follows.{AreHands, open_from, taken_on}

module _ {F A G : Type 0} (work : G → Workload F) (s : Setting F A) (places : ℕ → ℕ) where
  -- there are as many hands as actors
  pub lengths : (incarnation : ℕ) (actors : List Actor) (helds : List (Held F)) (hands : List (Followed G F)) →
      AreHands work s places incarnation actors helds hands → length hands ≡ length actors
  lengths incarnation [] [] [] h = refl
  lengths incarnation [] [] (y ∷ hands) h = absurd h
  lengths incarnation [] (x ∷ helds) hands h = absurd h
  lengths incarnation (a ∷ actors) [] hands h = absurd h
  lengths incarnation (a ∷ actors) (x ∷ helds) [] h = absurd h
  lengths incarnation (a ∷ actors) (x ∷ helds) (y ∷ hands) h =
      ap suc (lengths (incarnation + 1) actors helds hands h.1)

  -- an actor has ended where its hand says so
  over_same : (incarnation : ℕ) (actor : Actor) (held : Held F) (hand : Followed G F) →
      IsHandOf work (job_of s incarnation (at_lane places actor) actor) held hand →
      hand_is_over actor held ≡ is_over hand
  over_same incarnation actor held hand h =
      sym (ended_is work (job_of s incarnation (at_lane places actor) actor) held hand h)

  -- the first that hasn't ended
  pub open_same : (base n incarnation : ℕ) (actors : List Actor) (helds : List (Held F))
      (hands : List (Followed G F)) → base + n ≡ incarnation → AreHands work s places incarnation actors helds hands →
      first_open incarnation actors helds ≡ option_map (λ k. base + k) (open_from n hands)
  open_same base n incarnation [] [] [] q h = refl
  open_same base n incarnation [] [] (y ∷ hands) q h = absurd h
  open_same base n incarnation [] (x ∷ helds) hands q h = absurd h
  open_same base n incarnation (a ∷ actors) [] hands q h = absurd h
  open_same base n incarnation (a ∷ actors) (x ∷ helds) [] q h = absurd h
  open_same base n incarnation (a ∷ actors) (x ∷ helds) (y ∷ hands) q h =
      ap (λ b. if b then first_open (incarnation + 1) actors helds else Some incarnation)
      (over_same incarnation a x y h.0)
      ∙ go (is_over y) (open_same base (n + 1) (incarnation + 1) actors helds hands (omega arith) h.1)
    where
      go : (b : Bool) → first_open (incarnation + 1) actors helds
          ≡ option_map (λ k. base + k) (open_from (n + 1) hands) →
          (if b then first_open (incarnation + 1) actors helds else Some incarnation)
          ≡ option_map (λ k. base + k) (if b then open_from (n + 1) hands else Some n)
      go true r = r
      go false r = ap Some (sym q)

  -- all have ended where there is none
  pub all_over_same : (n incarnation : ℕ) (actors : List Actor) (helds : List (Held F)) (hands : List (Followed G F)) →
      AreHands work s places incarnation actors helds hands → all_over actors helds ≡ is_no_batch (open_from n hands)
  all_over_same n incarnation [] [] [] h = refl
  all_over_same n incarnation [] [] (y ∷ hands) h = absurd h
  all_over_same n incarnation [] (x ∷ helds) hands h = absurd h
  all_over_same n incarnation (a ∷ actors) [] hands h = absurd h
  all_over_same n incarnation (a ∷ actors) (x ∷ helds) [] h = absurd h
  all_over_same n incarnation (a ∷ actors) (x ∷ helds) (y ∷ hands) h =
      ap (λ b. if b then all_over actors helds else false) (over_same incarnation a x y h.0)
      ∙ go (is_over y) (all_over_same (n + 1) (incarnation + 1) actors helds hands h.1)
    where
      go : (b : Bool) → all_over actors helds ≡ is_no_batch (open_from (n + 1) hands) →
          (if b then all_over actors helds else false) ≡ is_no_batch (if b then open_from (n + 1) hands else Some n)
      go true r = r
      go false r = refl

  -- what an epoch's actors took of a lane: its sweep takes none
  pub taken_same : (lane incarnation : ℕ) (instances : List InstancePlan) (sweep : SweepPlan) (helds : List (Held F))
      (hands : List (Followed G F)) →
      AreHands work s places incarnation (map instance_actor instances ++ sweep_actors sweep) helds hands →
      taken_in s incarnation places lane (map instance_actor instances ++ sweep_actors sweep) helds
      ≡ taken_on lane instances hands
  taken_same lane incarnation [] No helds hands h = refl
  taken_same lane incarnation [] (Yes stop) [] hands h = absurd h
  taken_same lane incarnation [] (Yes stop) (x ∷ helds) hands h = refl
  taken_same lane incarnation (i ∷ instances) sweep [] hands h = absurd h
  taken_same lane incarnation (i ∷ instances) sweep (x ∷ helds) [] h = absurd h
  taken_same lane incarnation (i ∷ instances) sweep (x ∷ helds) (y ∷ hands) h =
      ap₂ (λ n m. n + m)
      (ap (λ n. if i.lane == lane then n else 0)
      (sym (taken_is work (job_of s incarnation (places i.lane) (instance_actor i)) x y h.0)))
      (taken_same lane (incarnation + 1) instances sweep helds hands h.1)

  -- one actor of these
  pub record HandAt (incarnation k : ℕ) (actor : Actor) (helds : List (Held F)) (hands : List (Followed G F)) : Type 0
    where
      pub held : Held F
      pub hand : Followed G F
      pub held_there : slice_get helds k ≡ Some held
      pub hand_there : slice_get hands k ≡ Some hand
      pub is : IsHandOf work (job_of s (incarnation + k) (at_lane places actor) actor) held hand

  pub hand_at : (incarnation k : ℕ) (actor : Actor) (actors : List Actor) (helds : List (Held F))
      (hands : List (Followed G F)) → AreHands work s places incarnation actors helds hands →
      slice_get actors k ≡ Some actor → HandAt incarnation k actor helds hands
  hand_at incarnation k actor [] helds hands h at = absurd (cc)
  hand_at incarnation k actor (b ∷ actors) [] hands h at = absurd h
  hand_at incarnation k actor (b ∷ actors) (x ∷ helds) [] h at = absurd h
  hand_at incarnation zero actor (b ∷ actors) (x ∷ helds) (y ∷ hands) h at =
      let q : incarnation ≡ incarnation + 0 = omega arith in
      record {
        held = x;
        hand = y;
        held_there = refl;
        hand_there = refl;
        is = subst₂ (λ i (c : Actor). IsHandOf work (job_of s i (at_lane places c) c) x y) q (same_Some b actor at) h.0;
      }
  hand_at incarnation (suc k) actor (b ∷ actors) (x ∷ helds) (y ∷ hands) h at =
      let r : HandAt (incarnation + 1) k actor helds hands = hand_at (incarnation + 1) k actor actors helds hands h.1
      at in
      let q : incarnation + 1 + k ≡ incarnation + suc k = omega arith in
      record {
        held = r.held;
        hand = r.hand;
        held_there = r.held_there;
        hand_there = r.hand_there;
        is = subst (λ i. IsHandOf work (job_of s i (at_lane places actor) actor) r.held r.hand) q r.is;
      }

  -- and one that changes
  pub hands_set : (incarnation k : ℕ) (actor : Actor) (actors : List Actor) (helds : List (Held F))
      (hands : List (Followed G F)) (held : Held F) (hand : Followed G F) →
      AreHands work s places incarnation actors helds hands → slice_get actors k ≡ Some actor →
      IsHandOf work (job_of s (incarnation + k) (at_lane places actor) actor) held hand →
      AreHands work s places incarnation actors (set helds k held) (set hands k hand)
  hands_set incarnation k actor [] helds hands held hand h at new = absurd (cc)
  hands_set incarnation k actor (b ∷ actors) [] hands held hand h at new = absurd h
  hands_set incarnation k actor (b ∷ actors) (x ∷ helds) [] held hand h at new = absurd h
  hands_set incarnation zero actor (b ∷ actors) (x ∷ helds) (y ∷ hands) held hand h at new =
      let q : incarnation + 0 ≡ incarnation = omega arith in (
        subst₂ (λ i (c : Actor). IsHandOf work (job_of s i (at_lane places c) c) held hand) q
            (sym (same_Some b actor at)) new,
        h.1,
      )
  hands_set incarnation (suc k) actor (b ∷ actors) (x ∷ helds) (y ∷ hands) held hand h at new =
      let q : incarnation + suc k ≡ incarnation + 1 + k = omega arith in (
        h.0,
        hands_set (incarnation + 1) k actor actors helds hands held hand h.1 at
            (subst (λ i. IsHandOf work (job_of s i (at_lane places actor) actor) held hand) q new),
      )

  -- hands before any entry
  pub hands_begin : (incarnation : ℕ) (actors : List Actor) (hands : List (Followed G F)) →
      length hands ≡ length actors →
      ((k : ℕ) (actor : Actor) (hand : Followed G F) → slice_get actors k ≡ Some actor → slice_get hands k ≡ Some hand →
      IsHandOf work (job_of s (incarnation + k) (at_lane places actor) actor)
      (hand_first (s.scene.begins (incarnation + k)) (offers_of s (incarnation + k) (at_lane places actor) actor))
      hand) →
      AreHands work s places incarnation actors (hands_first s incarnation places actors) hands
  hands_begin incarnation [] [] q h = tt
  hands_begin incarnation [] (y ∷ hands) q h = absurd (omega arith)
  hands_begin incarnation (a ∷ actors) [] q h = absurd (omega arith)
  hands_begin incarnation (a ∷ actors) (y ∷ hands) q h =
      let z : incarnation + 0 ≡ incarnation = omega arith in (
        subst (λ i. IsHandOf work (job_of s i (at_lane places a) a)
            (hand_first (s.scene.begins i) (offers_of s i (at_lane places a) a)) y) z (h 0 a y refl refl),
        hands_begin (incarnation + 1) actors hands (omega arith)
            (λ k actor hand at there.
            let p : incarnation + suc k ≡ incarnation + 1 + k = omega arith in
            subst (λ i. IsHandOf work (job_of s i (at_lane places actor) actor)
            (hand_first (s.scene.begins i) (offers_of s i (at_lane places actor) actor)) hand) p
            (h (suc k) actor hand at there)),
      )
