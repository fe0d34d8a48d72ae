-- Posts on one lane: of two incarnations one begins where the other has left off, or further on, in a later epoch.
use Rattle.std.proofs.Common.{◌≡◌, ◌⊎◌, inl, inr, ℕ, suc, zero, ◌+◌, ◌-◌, ◌<◌, ◌≤◌, Bool, true, false, cond, ◌==◌, nat_lt, if◌then◌else◌, Option, Some, None, option_map, List, [], ◌∷◌, ◌++◌, length, map, slice_get, refl, ap, sym, ◌∙◌, subst, zero-add, arith}
use Rattle.std.proofs.lemmas.Bool.{eqb-true, cond-true, cond-false, lt-ltb, le-ltb}
use Rattle.std.proofs.lemmas.List.{length-map, map-append}
use Rattle.std.proofs.lemmas.Option.{slice_get_within, slice_get-map, same_Some}
use Rattle.slnf_access.specs.declared.requests.Entry.{Entry}
use Rattle.slnf_run.specs.Setting.{Actor, Era, Setting, is_on, era_of, actors_of}
use Rattle.slnf_run.specs.Parts.{part_of, offers_of, taken_of, at_lane, taken_on, places_after, Post, posts_from, posts_of, taken_at}
use Rattle.slnf_run.specs.OneBox.{HasLanesOnce}

-- an element of two lists is one of the first, or one of the second
pub slice_get_either : {X : Type 0} (xs ys : List X) (k : ℕ) (x : X) → slice_get (xs ++ ys) k ≡ Some x →
    (slice_get xs k ≡ Some x) ⊎ ((m : ℕ) × (k ≡ length xs + m) × (slice_get ys m ≡ Some x))
slice_get_either [] ys k x h = inr (k, sym (zero-add k), h)
slice_get_either (y ∷ xs) ys zero x h = inl h
slice_get_either (y ∷ xs) ys (suc k) x h = elim (slice_get_either xs ys k x h) [
  | inl here ↦ inl here
  | inr there ↦ inr (there.0, (let q : k ≡ length xs + there.0 = there.1 in omega arith), there.2)
]

map_at : {X Y : Type 0} (f : X → Y) (o : Option X) (y : Y) → option_map f o ≡ Some y → (x : X) × (o ≡ Some x)
    × (f x ≡ y)
map_at f None y h = cc
map_at f (Some x) y h = (x, refl, same_Some (f x) y h)

-- the post of an actor whose epoch has this number, where lanes have come so far
abbrev pub post_of : ℕ → (ℕ → ℕ) → Actor → Post
post_of number places actor = record { actor = actor; era = number; at = at_lane places actor }

-- an element of a map comes from one of the list
pub slice_get_of_map : {X Y : Type 0} (f : X → Y) (xs : List X) (k : ℕ) (y : Y) → slice_get (map f xs) k ≡ Some y →
    (x : X) × (slice_get xs k ≡ Some x) × (f x ≡ y)
slice_get_of_map f xs k y h = map_at f (slice_get xs k) y (sym (slice_get-map f xs k) ∙ h)

pub on_lane : (lane : ℕ) (actor : Actor) → is_on lane actor ≡ true → actor.lane ≡ Some lane
on_lane lane actor h = go (actor.lane) h
  where
    go : (o : Option ℕ) → elim o [ None ↦ false | Some own ↦ own == lane ] ≡ true → o ≡ Some lane
    go None h = cc
    go (Some own) h = ap Some (eqb-true own lane h)

pub at_of_lane : (places : ℕ → ℕ) (lane : ℕ) (actor : Actor) → is_on lane actor ≡ true → at_lane places actor
    ≡ places lane
at_of_lane places lane actor h = ap (λ o. elim o [ None ↦ 0 | Some lane ↦ places lane ]) (on_lane lane actor h)

module _ {F A : Type 0} (s : Setting F A) (es : List Entry) where
  -- how many packets an actor took that begins there
  abbrev taken_there : ℕ → (ℕ → ℕ) → Actor → ℕ
  taken_there i places actor = length (taken_of actor (part_of i es) (offers_of s i (at_lane places actor) actor))

  -- an epoch's actors took at least what one of them did
  pub taken_least : (lane : ℕ) (places : ℕ → ℕ) (actors : List Actor) (i k : ℕ) (actor : Actor) → slice_get actors k
      ≡ Some actor → is_on lane actor ≡ true → taken_there (i + k) places actor ≤ taken_on s es i places lane actors
  taken_least lane places [] i k actor h on = cc
  taken_least lane places (a ∷ actors) i zero actor h on =
      let same : a ≡ actor = same_Some a actor h in
      let q : i + 0 ≡ i = omega arith in
      subst (λ n. taken_there n places actor ≤ taken_on s es i places lane (a ∷ actors)) (sym q)
      (subst (λ b. taken_there i places b ≤ (if is_on lane a then taken_there i places a else 0) + taken_on s es
      (i + 1) places lane actors) same
      (go (is_on lane a) (ap (is_on lane) same ∙ on)))
    where
      go : (b : Bool) → b ≡ true → taken_there i places a ≤ cond b (taken_there i places a) 0 + taken_on s es
          (i + 1) places lane actors
      go true w = omega arith
      go false w = cc
  taken_least lane places (a ∷ actors) i (suc k) actor h on =
      let r : taken_there (i + 1 + k) places actor ≤ taken_on s es (i + 1) places lane actors =
      taken_least lane places actors (i + 1) k actor h on in
      let q : i + 1 + k ≡ i + suc k = omega arith in
      let m : taken_there (i + suc k) places actor ≤ taken_on s es (i + 1) places lane actors =
      subst (λ n. taken_there n places actor ≤ taken_on s es (i + 1) places lane actors) q r in
      omega arith

  -- later posts begin where their lanes have come, or further on
  pub begins_least : (lane : ℕ) (eras : List Era) (number base : ℕ) (places : ℕ → ℕ) (k : ℕ) (post : Post) →
      slice_get (posts_from s es number base places eras) k ≡ Some post → is_on lane post.actor ≡ true →
      places lane ≤ post.at
  begins_least lane [] number base places k post h on = cc
  begins_least lane (era ∷ eras) number base places k post h on =
      elim (slice_get_either (map (post_of number places) era.actors)
      (posts_from s es (number + 1) (base + length era.actors) (places_after s es base places era) eras) k post h) [
        | inl here ↦
            let r = slice_get_of_map (post_of number places) era.actors k post here in
            let at : at_lane places r.0 ≡ post.at = ap (λ (p : Post). p.at) r.2 in
            let its : at_lane places r.0 ≡ places lane =
            at_of_lane places lane r.0 (ap (λ (p : Post). is_on lane p.actor) r.2 ∙ on) in
            omega arith
        | inr there ↦
            let r : places lane + taken_on s es base places lane era.actors ≤ post.at =
            begins_least lane eras (number + 1) (base + length era.actors)
            (places_after s es base places era) there.0 post there.2 on in
            omega arith
      ]

  -- The first of two incarnations left off where the second begins, or before, and in an earlier epoch.
  pub record IsBefore (eras : List Era) (base i k : ℕ) (p q : Post) : Type 0 where
    pub room : p.at + length (taken_at s es (base + i) p) ≤ q.at
    pub era : era_of eras i < era_of eras k

  pub era_first : (era : Era) (eras : List Era) (i : ℕ) → i < length era.actors → era_of (era ∷ eras) i ≡ 0
  era_first era eras i l = cond-true (nat_lt i (length era.actors)) 0 (era_of eras (i - length era.actors) + 1)
      (lt-ltb i (length era.actors) l)

  pub era_later : (era : Era) (eras : List Era) (i : ℕ) → era_of (era ∷ eras) (length era.actors + i)
      ≡ era_of eras i + 1
  era_later era eras i =
      let q : length era.actors + i - length era.actors ≡ i = omega arith in
      cond-false (nat_lt (length era.actors + i) (length era.actors)) 0
      (era_of eras (length era.actors + i - length era.actors) + 1)
      (le-ltb (length era.actors + i) (length era.actors) (omega arith))
      ∙ ap (λ n. era_of eras n + 1) q

  -- one of an epoch and one of a later one
  first_then : (lane : ℕ) (era : Era) (eras : List Era) (number base : ℕ) (places : ℕ → ℕ) (i m : ℕ) (p q : Post) →
      slice_get (map (post_of number places) era.actors) i ≡ Some p →
      slice_get (posts_from s es (number + 1) (base + length era.actors) (places_after s es base places era) eras) m
      ≡ Some q → is_on lane p.actor ≡ true → is_on lane q.actor ≡ true →
      IsBefore (era ∷ eras) base i (length era.actors + m) p q
  first_then lane era eras number base places i m p q here there on_p on_q =
      let r = slice_get_of_map (post_of number places) era.actors i p here in
      let on : is_on lane r.0 ≡ true = ap (λ (p : Post). is_on lane p.actor) r.2 ∙ on_p in
      let at : at_lane places r.0 ≡ places lane = at_of_lane places lane r.0 on in
      let most : taken_there (base + i) places r.0 ≤ taken_on s es base places lane era.actors =
      taken_least lane places era.actors base i r.0 r.1 on in
      let far : places lane + taken_on s es base places lane era.actors ≤ q.at =
      begins_least lane eras (number + 1) (base + length era.actors)
      (places_after s es base places era) m q there on_q in
      let room : at_lane places r.0 + taken_there (base + i) places r.0 ≤ q.at = omega arith in
      let e : era_of (era ∷ eras) i ≡ 0 = era_first era eras i (slice_get_within era.actors i r.0 r.1) in
      let f : era_of (era ∷ eras) (length era.actors + m) ≡ era_of eras m + 1 = era_later era eras m in
      record {
        room = subst (λ (p : Post). p.at + length (taken_at s es (base + i) p) ≤ q.at) r.2 room;
        era = omega arith;
      }

  -- so it is of incarnations counted from a later epoch
  later_too : (era : Era) (eras : List Era) (base i k : ℕ) (p q : Post) →
      IsBefore eras (base + length era.actors) i k p q →
      IsBefore (era ∷ eras) base (length era.actors + i) (length era.actors + k) p q
  later_too era eras base i k p q h =
      let n : base + length era.actors + i ≡ base + (length era.actors + i) = omega arith in
      let e : era_of (era ∷ eras) (length era.actors + i) ≡ era_of eras i + 1 = era_later era eras i in
      let f : era_of (era ∷ eras) (length era.actors + k) ≡ era_of eras k + 1 = era_later era eras k in
      let l : era_of eras i < era_of eras k = h.era in
      record {
        room = subst (λ n. p.at + length (taken_at s es n p) ≤ q.at) n h.room;
        era = omega arith;
      }

  -- Two incarnations on one lane are one, or one is before the other.
  pub apart : (lane : ℕ) (eras : List Era) (number base : ℕ) (places : ℕ → ℕ) (i k : ℕ) (p q : Post) →
      ((n : ℕ) (era : Era) → slice_get eras n ≡ Some era → HasLanesOnce era.actors) →
      slice_get (posts_from s es number base places eras) i ≡ Some p →
      slice_get (posts_from s es number base places eras) k ≡ Some q → is_on lane p.actor ≡ true → is_on lane q.actor
      ≡ true → (i ≡ k) ⊎ (IsBefore eras base i k p q ⊎ IsBefore eras base k i q p)
  apart lane [] number base places i k p q once h g on_p on_q = cc
  apart lane (era ∷ eras) number base places i k p q once h g on_p on_q =
      go (slice_get_either (map (post_of number places) era.actors) later i p h)
      (slice_get_either (map (post_of number places) era.actors) later k q g)
      (λ m n x y. apart lane eras (number + 1) (base + length era.actors) (places_after s es base places era) m n p q
      (λ n e at. once (suc n) e at) x y on_p on_q)
    where
      later : List Post
      later = posts_from s es (number + 1) (base + length era.actors) (places_after s es base places era) eras

      size : length (map (post_of number places) era.actors) ≡ length era.actors
      size = length-map era.actors (post_of number places)

      where_at : (n m : ℕ) → n ≡ length (map (post_of number places) era.actors) + m → length era.actors + m ≡ n
      where_at n m h = let z : length (map (post_of number places) era.actors) ≡ length era.actors = size in
          omega arith

      Apart : ℕ → ℕ → Type 0
      Apart i k = (i ≡ k) ⊎ (IsBefore (era ∷ eras) base i k p q ⊎ IsBefore (era ∷ eras) base k i q p)

      both : (m n : ℕ) → (m ≡ n) ⊎ (IsBefore eras (base + length era.actors) m n p q
          ⊎ IsBefore eras (base + length era.actors) n m q p) → Apart (length era.actors + m) (length era.actors + n)
      both m n (inl same) = inl (ap (λ x. length era.actors + x) same)
      both m n (inr (inl b)) = inr (inl (later_too era eras base m n p q b))
      both m n (inr (inr b)) = inr (inr (later_too era eras base n m q p b))

      go : ((slice_get (map (post_of number places) era.actors) i ≡ Some p)
          ⊎ ((m : ℕ) × (i ≡ length (map (post_of number places) era.actors) + m) × (slice_get later m ≡ Some p))) →
          ((slice_get (map (post_of number places) era.actors) k ≡ Some q)
          ⊎ ((m : ℕ) × (k ≡ length (map (post_of number places) era.actors) + m) × (slice_get later m ≡ Some q))) →
          ((m n : ℕ) → slice_get later m ≡ Some p → slice_get later n ≡ Some q → (m ≡ n)
          ⊎ (IsBefore eras (base + length era.actors) m n p q ⊎ IsBefore eras (base + length era.actors) n m q p)) →
          Apart i k
      go (inl x) (inl y) r =
          let a = slice_get_of_map (post_of number places) era.actors i p x in
          let b = slice_get_of_map (post_of number places) era.actors k q y in
          inl (once 0 era refl lane i k a.0 b.0 a.1 b.1 (ap (λ (p : Post). is_on lane p.actor) a.2 ∙ on_p)
          (ap (λ (p : Post). is_on lane p.actor) b.2 ∙ on_q))
      go (inl x) (inr y) r = inr (inl (subst (λ n. IsBefore (era ∷ eras) base i n p q) (where_at k y.0 y.1)
          (first_then lane era eras number base places i y.0 p q x y.2 on_p on_q)))
      go (inr x) (inl y) r = inr (inr (subst (λ n. IsBefore (era ∷ eras) base k n q p) (where_at i x.0 x.1)
          (first_then lane era eras number base places k x.0 q p y x.2 on_q on_p)))
      go (inr x) (inr y) r =
          subst (λ n. Apart n k) (where_at i x.0 x.1)
          (subst (λ n. Apart (length era.actors + x.0) n) (where_at k y.0 y.1) (both x.0 y.0 (r x.0 y.0 x.2 y.2)))

-- the actors of posts
pub actors_posted : {F A : Type 0} (s : Setting F A) (es : List Entry) (number base : ℕ) (places : ℕ → ℕ)
    (eras : List Era) → map (λ (p : Post). p.actor) (posts_from s es number base places eras) ≡ actors_of eras
actors_posted s es number base places [] = refl
actors_posted s es number base places (era ∷ eras) =
    map-append (λ (p : Post). p.actor) (map (post_of number places) era.actors)
    (posts_from s es (number + 1) (base + length era.actors) (places_after s es base places era) eras)
    ∙ ap (λ l. l ++ map (λ (p : Post). p.actor) (posts_from s es (number + 1) (base + length era.actors)
    (places_after s es base places era) eras)) (own era.actors)
    ∙ ap (λ l. era.actors ++ l) (actors_posted s es (number + 1) (base + length era.actors)
    (places_after s es base places era) eras)
  where
    own : (actors : List Actor) → map (λ (p : Post). p.actor) (map (post_of number places) actors) ≡ actors
    own [] = refl
    own (actor ∷ actors) = ap (λ l. actor ∷ l) (own actors)

-- an incarnation's actor
pub actor_at : {F A : Type 0} (s : Setting F A) (es : List Entry) (i : ℕ) (post : Post) → slice_get (posts_of s es) i
    ≡ Some post → slice_get (actors_of s.eras) i ≡ Some post.actor
actor_at s es i post h =
    ap (λ l. slice_get l i) (sym (actors_posted s es 0 0 (λ lane. 0) s.eras))
    ∙ slice_get-map (λ (p : Post). p.actor) (posts_of s es) i
    ∙ ap (option_map (λ (p : Post). p.actor)) h
