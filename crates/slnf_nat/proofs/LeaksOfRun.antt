-- Nothing leaks in a run of a setting with the NAT's scene.
use Rattle.std.proofs.Common.{◌≡◌, inl, inr, ℕ, zero, suc, ◌+◌, ◌-◌, ◌<◌, ◌≤◌, nat_lt, not, ◌&&◌, Bool, true, false, cond, ◌==◌, Option, Some, None, List, [], ◌∷◌, ◌++◌, length, take, drop, slice_get, refl, ap, sym, ◌∙◌, subst, arith, take-append-drop, append_assoc}
use Rattle.std.specs.List.{range_with_len, AllByRecursion}
use Rattle.std.proofs.lemmas.Bool.{eqb-true, ltb-false, ltb-true}
use Rattle.std.proofs.lemmas.Option.{same_Some}
use Rattle.slnf_access.specs.declared.requests.Entry.{Entry}
use Rattle.slnf_access.specs.Map.{empty, map_after}
use Rattle.slnf_access.specs.Machines.{Machine, Stand, Flies, Ends, IsPath, HasEnded, stand_after}
use Rattle.slnf_run.specs.Run.{AllEnded, IsRun}
use Rattle.slnf_run.specs.Scene.{Scene, is_of, own_of, stand_of}
use Rattle.slnf_run.specs.Setting.{Actor, Era, Setting, era_of, base_of, own_base}
use Rattle.slnf_run.specs.Parts.{part_of, first_key_of, is_among, with_key, batched, offers_of, is_stopped, Post, posts_of, offers_at}
use Rattle.slnf_run.specs.Images.{stand_as, IsImage, IsSceneImage}
use Rattle.slnf_run.proofs.Images.{path_as}
use Rattle.slnf_run.proofs.DecidedOnce.{stand_of-append}
use Rattle.slnf_box.specs.Nat.{Nat}
use Rattle.slnf_box.specs.NatBox.{NatArrival}
use Rattle.slnf_nat.specs.Flights.{NatFlight, first_of}
use Rattle.slnf_nat.specs.Machine.{nat_machine}
use Rattle.slnf_nat.specs.NatScene.{nat_scene}
use Rattle.slnf_nat.specs.Given.{IsNat, IsRanged, IsNatList}
use Rattle.slnf_nat.specs.Leaks.{HasSwept, IsSweepOf, IsThrough, IsTidy}
use Rattle.slnf_run.proofs.Runs.{own_in_part}
use Rattle.slnf_nat.proofs.Bases.{base_of-rises, base_of-below}
use Rattle.slnf_nat.proofs.Leaks.{tidy}
use Rattle.slnf_access.proofs.Elements.{each-splits, each-weaker}
use Rattle.slnf_access.proofs.Orders.{rises_in_order}

-- each item of a range is offered, and so has ended where all offers have
ended_in_range : {F A : Type 0} (s : Setting F A) (i : ℕ) (es : List Entry) (limit : ℕ) (first : ℕ → Option ℕ)
    (number size : ℕ) (keys : List ℕ) (a n k : ℕ) → a ≤ k → k < a + n
    → AllEnded s i es (batched limit first number size keys (range_with_len a n)) → HasEnded (stand_of s.scene i k es)
ended_in_range s i es limit first number size keys a zero k low high all = absurd (omega arith)
ended_in_range s i es limit first number size keys a (suc n) k low high all =
    go (λ number size keys less rest. ended_in_range s i es limit first number size keys
    (a + 1) n k less (omega arith) rest) (nat_lt size limit && not (is_among (first a) keys)) all
  where
    Again : Type 0
    Again = (number size : ℕ) (keys : List ℕ) → a + 1 ≤ k → AllEnded s i es
        (batched limit first number size keys (range_with_len (a + 1) n)) → HasEnded (stand_of s.scene i k es)

    one : Again → (number size : ℕ) (keys : List ℕ) → HasEnded (stand_of s.scene i a es)
        → AllEnded s i es (batched limit first number size keys (range_with_len (a + 1) n))
        → HasEnded (stand_of s.scene i k es)
    one again number size keys here rest = by (nat_lt a k) refl
      where
        by : (b : Bool) → nat_lt a k ≡ b → HasEnded (stand_of s.scene i k es)
        by true w = let less : a < k = ltb-true a k w in again number size keys (omega arith) rest
        by false w = let more : k ≤ a = ltb-false a k w in
            let same : a ≡ k = omega arith in
            subst (λ m. HasEnded (stand_of s.scene i m es)) same here

    go : Again → (b : Bool)
        → AllEnded s i es (cond b (record { item = a; batch = number } ∷ batched limit first number
        (size + 1) (with_key (first a) keys) (range_with_len (a + 1) n)) (record { item = a; batch = number + 1 }
        ∷ batched limit first (number + 1) 1 (with_key (first a) []) (range_with_len (a + 1) n)))
        → HasEnded (stand_of s.scene i k es)
    go again true h = one again number (size + 1) (with_key (first a) keys) h.0 h.1
    go again false h = one again (number + 1) 1 (with_key (first a) []) h.0 h.1

-- what a sweep is offered
offers_of-sweep : {F A : Type 0} (s : Setting F A) (i at : ℕ) (actor : Actor) → actor.lane ≡ None
    → offers_of s i at actor ≡ batched 1
    (λ item. first_key_of (s.scene.machine i) (s.scene.begins i item)) 0 0 [] (range_with_len 0 s.sweep_items)
offers_of-sweep s i at actor h = ap (λ on. offers_of s i at (record { lane = on; quota = actor.quota; stop = actor.stop })) h

-- entries of other incarnations are none of an item's own
pub none_of : (i k : ℕ) (es : List Entry) → AllByRecursion (λ f. f.incarnation ≡ i → ⊥) es → own_of i k es ≡ []
none_of i k [] h = refl
none_of i k (e ∷ es) h = go (e.incarnation == i) refl (none_of i k es h.1)
  where
    go : (b : Bool) → (e.incarnation == i) ≡ b → own_of i k es ≡ [] → cond (is_of i k e) (e ∷ own_of i k es)
        (own_of i k es) ≡ []
    go true w none = absurd (h.0 (eqb-true e.incarnation i w))
    go false w none = ap (λ b. cond (b && (e.item == k)) (e ∷ own_of i k es) (own_of i k es)) w ∙ none

-- In a list that is in order of epochs, those up to one are a front.
pub through : (era : ℕ → ℕ) (number : ℕ) (es : List Entry)
    → ((before middle later : List Entry) (e f : Entry)
    → es ≡ before ++ e ∷ (middle ++ f ∷ later) → era e.incarnation ≤ era f.incarnation)
    → (t : ℕ) × IsThrough era number es t
through era number [] order = (0, record { size = omega arith; front = tt; back = tt })
through era number (e ∷ es) order =
    go (nat_lt number (era e.incarnation)) refl (through era number es
    (λ before middle later f g split. order (e ∷ before) middle later f g (ap (λ l. e ∷ l) split)))
  where
    go : (b : Bool) → nat_lt number (era e.incarnation) ≡ b → (t : ℕ) × IsThrough era number es t
        → (t : ℕ) × IsThrough era number (e ∷ es) t
    go true w r =
        let more : number < era e.incarnation = ltb-true number (era e.incarnation) w in (
          0,
          record {
            size = omega arith;
            front = tt;
            back = (
              more,
              each-splits (λ f. number < era f.incarnation) es (λ xs ys f h.
                  let le : era e.incarnation ≤ era f.incarnation = order [] xs ys e f (ap (λ l. e ∷ l) h) in
                  omega arith),
            );
          },
        )
    go false w r =
        let le : era e.incarnation ≤ number = ltb-false number (era e.incarnation) w in
        let size : r.0 ≤ length es = r.1.size in
        (suc r.0, record { size = omega arith; front = (le, r.1.front); back = r.1.back })

-- an incarnation at or above an epoch's base, and of no later epoch, is one of the epoch's actors
pub below_next : (eras : List Era) (number j : ℕ) (era : Era) → slice_get eras number ≡ Some era
    → base_of eras number ≤ j → era_of eras j ≤ number → j < base_of eras number + length era.actors
below_next [] number j era there low high = absurd (nothing number there)
  where
    nothing : (n : ℕ) → slice_get [] n ≡ Some era → ⊥
    nothing zero h = cc
    nothing (suc n) h = cc
below_next (own ∷ eras) zero j era there low high = go (nat_lt j (length own.actors)) refl high
  where
    same : own ≡ era
    same = same_Some own era there

    go : (b : Bool) → nat_lt j (length own.actors) ≡ b → cond b 0 (era_of eras (j - length own.actors) + 1) ≤ 0
        → j < 0 + length era.actors
    go true w h = let less : j < length own.actors = ltb-true j (length own.actors) w in
        let size : length own.actors ≡ length era.actors = ap (λ (x : Era). length x.actors) same in
        omega arith
    go false w h = absurd (omega arith)
below_next (own ∷ eras) (suc number) j era there low high =
    go (λ a b. below_next eras number (j - length own.actors) era there a b) (nat_lt j (length own.actors)) refl high
  where
    Again : Type 0
    Again = base_of eras number ≤ j - length own.actors
        → era_of eras (j - length own.actors) ≤ number → j - length own.actors < base_of eras number + length era.actors

    go : Again → (b : Bool) → nat_lt j (length own.actors) ≡ b
        → cond b 0 (era_of eras (j - length own.actors) + 1) ≤ suc number
        → j < (length own.actors + base_of eras number) + length era.actors
    go again true w h = let less : j < length own.actors = ltb-true j (length own.actors) w in omega arith
    go again false w h =
        let more : length own.actors ≤ j = ltb-false j (length own.actors) w in
        let low_rest : base_of eras number ≤ j - length own.actors = omega arith in
        let high_rest : era_of eras (j - length own.actors) ≤ number = omega arith in
        let r : j - length own.actors < base_of eras number + length era.actors = again low_rest high_rest in
        omega arith

-- where an item of the image has ended, the function's has
pub ended_as : {F G : Type 0} (into : F → G) (m : Machine F) (n : Machine G) → IsImage into m n → (st : Stand F)
    (es : List Entry) → HasEnded (stand_after n (stand_as into st) es) → HasEnded (stand_after m st es)
ended_as into m n image (Flies f) [] h = h
ended_as into m n image (Ends o) [] h = h
ended_as into m n image (Flies f) (e ∷ es) h = ended_as into m n image
    (m.goes f e.reply) es (subst (λ st. HasEnded (stand_after n st es)) (image.goes f e.reply) h)
ended_as into m n image (Ends o) (e ∷ es) h = ended_as into m n image (Ends o) es h

-- A run of a setting whose scene has the NAT's as a case is a list of the NAT's paths.
pub nat_list_of_image : {G : Type 0} (s : Setting G NatArrival) (into : NatFlight → G) (nat : Nat)
    (begins : ℕ → ℕ → Stand NatFlight) (es : List Entry) → IsSceneImage into (nat_scene nat begins) s.scene
    → ((i k : ℕ) (flight : NatFlight) → begins i k ≡ Flies flight → first_of flight ≡ flight)
    → ((i k : ℕ) (flight : NatFlight) → begins i k ≡ Flies flight → IsRanged nat (own_base s.eras) i flight)
    → IsRun s es → IsNatList nat (own_base s.eras) begins es
nat_list_of_image s into nat begins es image firsts ranges run = record {
  legal = run.legal;
  paths = λ i k.
      path_as into (nat_machine nat) (s.scene.machine i) (image.machine i) (begins i k) (own_of i k es)
      (subst (λ st. IsPath (s.scene.machine i) st (own_of i k es)) (image.begins i k)
      (subst (IsPath (s.scene.machine i) (s.scene.begins i k)) (own_in_part i k es) (run.paths i k)));
  firsts = firsts;
  ranges = ranges;
  bases = base_of-below s.eras;
  epochs = λ before later e split.
      each-splits (λ f. own_base s.eras f.incarnation ≤ own_base s.eras e.incarnation) before (λ xs ys f h.
      base_of-rises s.eras (era_of s.eras f.incarnation)
      (era_of s.eras e.incarnation) (run.by_epoch xs ys later f e (whole before later e xs ys f split h)));
  rising = rises_in_order s.shards es run.in_order run.in_shards;
}
  where
    whole : (before later : List Entry) (e : Entry) (xs ys : List Entry) (f : Entry) → es ≡ before ++ e ∷ later
        → before ≡ xs ++ f ∷ ys → es ≡ xs ++ f ∷ (ys ++ e ∷ later)
    whole before later e xs ys f split h = split ∙ ap (λ l. l ++ e ∷ later) h ∙ append_assoc xs (f ∷ ys) (e ∷ later)

-- the NAT's own scene is a case of itself
stand_as_own : {F : Type 0} (st : Stand F) → st ≡ stand_as (λ (f : F). f) st
stand_as_own (Flies f) = refl
stand_as_own (Ends o) = refl

pub own_image : {F A : Type 0} (s : Scene F A) → IsSceneImage (λ (f : F). f) s s
own_image s = record {
  machine = λ i. record { asks = λ f. refl; goes = λ f reply. stand_as_own ((s.machine i).goes f reply); decided = λ f. refl };
  begins = λ i k. stand_as_own (s.begins i k);
  place = λ es number f v. refl;
  arrival = λ f e. refl;
  removals = λ e. refl;
}

module _ {G : Type 0} (s : Setting G NatArrival) (into : NatFlight → G) (nat : Nat) (is_nat : IsNat nat)
    (begins : ℕ → ℕ → Stand NatFlight) (es : List Entry) (image : IsSceneImage into (nat_scene nat begins) s.scene)
    (firsts : (i k : ℕ) (flight : NatFlight) → begins i k ≡ Flies flight → first_of flight ≡ flight)
    (ranges : (i k : ℕ) (flight : NatFlight) → begins i k ≡ Flies flight → IsRanged nat (own_base s.eras) i flight)
    (run : IsRun s es) where
  given : IsNatList nat (own_base s.eras) begins es
  given = nat_list_of_image s into nat begins es image firsts ranges run

  -- The front of the epochs up to one.
  pub run_through : (number : ℕ) → (t : ℕ) × IsThrough (era_of s.eras) number es t
  run_through number = through (era_of s.eras) number es run.by_epoch

  -- A sweep that isn't stopped.
  module _ (i : ℕ) (post : Post) (posted : slice_get (posts_of s es) i ≡ Some post)
      (is_sweep : post.actor.lane ≡ None) (finished : is_stopped post.actor (part_of i es) ≡ false)
      (covers : IsSweepOf nat begins s.sweep_items i (own_base s.eras i))
      (t : ℕ) (is_through : IsThrough (era_of s.eras) (era_of s.eras i) es t) where
    all_ended : AllEnded s i es (offers_at s i post)
    all_ended = elim (run.done i post posted) [
      | inl stopped ↦ absurd (cc)
      | inr ended ↦ ended.1
    ]

    ended_whole : (k : ℕ) → k < s.sweep_items → HasEnded (stand_of (nat_scene nat begins) i k es)
    ended_whole k less =
        let there : HasEnded (stand_of s.scene i k es) =
        ended_in_range s i es 1 (λ item. first_key_of (s.scene.machine i) (s.scene.begins i item))
        0 0 [] 0 s.sweep_items k (omega arith) (omega arith)
        (subst (AllEnded s i es) (offers_of-sweep s i post.at post.actor is_sweep) all_ended) in
        ended_as into (nat_machine nat) (s.scene.machine i) (image.machine i) (begins i k) (own_of i k es)
        (subst (λ st. HasEnded (stand_after (s.scene.machine i) st (own_of i k es))) (image.begins i k) there)

    no_later : AllByRecursion (λ f. f.incarnation ≡ i → ⊥) (drop t es)
    no_later = each-weaker (λ f. era_of s.eras i < era_of s.eras f.incarnation) (λ f. f.incarnation ≡ i → ⊥)
        (λ f more same. let e : era_of s.eras f.incarnation ≡ era_of s.eras i = ap (era_of s.eras) same in omega arith)
        (drop t es) is_through.back

    stands : (k : ℕ) → stand_of (nat_scene nat begins) i k es ≡ stand_of (nat_scene nat begins) i k (take t es)
    stands k =
        ap (stand_of (nat_scene nat begins) i k) (sym (take-append-drop t es))
        ∙ stand_of-append (nat_scene nat begins) i k (take t es) (drop t es)
        ∙ ap (stand_after (nat_machine nat) (stand_of (nat_scene nat begins) i k (take t es))) (none_of i k (drop t es) no_later)

    pub has_swept : HasSwept nat begins (take t es) (own_base s.eras i)
    has_swept proto port fits has used =
        let r = covers proto port fits has used in
        (i, r.0, own_base s.eras i, omega arith, r.2, subst HasEnded (stands r.0) (ended_whole r.0 r.1))

    -- After the entries of its epoch each claim of an incarnation below the base has its flow's record, which names its port.
    pub run_tidy : IsTidy nat (map_after empty (take t es)) (own_base s.eras i)
    run_tidy = tidy nat is_nat (own_base s.eras) begins es given t (own_base s.eras i) is_through.size has_swept
