-- The end of a pass: the first actor that hasn't ended.
use Rattle.std.proofs.Common.{◌≡◌, inl, inr, ℕ, zero, suc, ◌+◌, ◌-◌, ◌<◌, Bool, true, false, if◌then◌else◌, List, [], ◌∷◌, Option, Some, None, length, slice_get, refl, sym, ap, ◌∙◌, subst, subst₂, arith, add-zero}
use Rattle.std.proofs.lemmas.Bool.{cases_lt, both_ways}
use Rattle.std.proofs.lemmas.Option.{same_Some, none-some, slice_get_within}
use Rattle.slnf_access.specs.declared.requests.Entry.{Entry}
use Rattle.slnf_run.specs.Setting.{Actor, Era, Setting, base_of}
use Rattle.slnf_run.specs.Parts.{Post, posts_of}
use Rattle.slnf_run.proofs.Parting.{post_of}
use Rattle.slnf_local.specs.Local.{IsOver}
use Rattle.slnf_local.specs.Tells.{IsFirstOpen, Ends}
use Rattle.slnf_local.specs.Hands.{Hand, hand_of, hand_is_over}
use Rattle.slnf_local.specs.Followers.{Follower, actors_in, hands_of, all_over, next_epoch, IsFollowed}
use Rattle.slnf_local.specs.Passes.{eras_from, first_open, or_else, finish}
use Rattle.slnf_local.proofs.Hands.{hand_of_over, over_of_hand}
use Rattle.slnf_run.proofs.Passing.{era_of-before}
use Rattle.slnf_local.proofs.Accepting.{eras_head, eras_none}
use Rattle.slnf_local.proofs.Following.{IsActorOf, actor_of, actor_at, hands_are, followed_next, followed_end}

none_open : {F : Type 0} (incarnation : ℕ) (actors : List Actor) (hands : List (Hand F)) →
    first_open incarnation actors hands ≡ None → all_over actors hands ≡ true
none_open incarnation [] hands h = refl
none_open incarnation (a ∷ actors) [] h = absurd (none-some incarnation (sym h))
none_open incarnation (a ∷ actors) (x ∷ hands) h = go (hand_is_over a x) (none_open (incarnation + 1) actors hands) h
  where
    go : (b : Bool) → (first_open (incarnation + 1) actors hands ≡ None → all_over actors hands ≡ true) →
        (if b then first_open (incarnation + 1) actors hands else Some incarnation) ≡ None →
        (if b then all_over actors hands else false) ≡ true
    go true rest k = rest k
    go false rest k = absurd (none-some incarnation (sym k))

-- the first open one of an epoch's actors, by its number there
record OpensAt {F A : Type 0} (s : Setting F A) (j : List Entry) (number incarnation : ℕ) (places : ℕ → ℕ)
    (actors : List Actor) (n : ℕ) : Type 0 where
  k : ℕ
  place : n ≡ incarnation + k
  actor : Actor
  at : slice_get actors k ≡ Some actor
  opening : hand_is_over actor (hand_of s j n (post_of number places actor)) ≡ false
  before : (m : ℕ) (a : Actor) → m < k → slice_get actors m ≡ Some a →
      IsOver s j (incarnation + m) (post_of number places a)

opens_at : {F A : Type 0} (s : Setting F A) (j : List Entry) (number incarnation : ℕ) (places : ℕ → ℕ)
    (actors : List Actor) (n : ℕ) →
    first_open incarnation actors (hands_of s j number incarnation places actors) ≡ Some n →
    OpensAt s j number incarnation places actors n
opens_at s j number incarnation places [] n h = absurd (none-some n h)
opens_at s j number incarnation places (a ∷ actors) n h =
    go (hand_is_over a (hand_of s j incarnation (post_of number places a))) refl h
    (opens_at s j number (incarnation + 1) places actors n)
  where
    go : (b : Bool) → hand_is_over a (hand_of s j incarnation (post_of number places a)) ≡ b →
        (if b then first_open (incarnation + 1) actors
        (hands_of s j number (incarnation + 1) places actors) else Some incarnation) ≡ Some n →
        (first_open (incarnation + 1) actors (hands_of s j number (incarnation + 1) places actors)
        ≡ Some n → OpensAt s j number (incarnation + 1) places actors n) → OpensAt s j number incarnation places
        (a ∷ actors) n
    go false w k rest =
        let q : incarnation ≡ n = same_Some incarnation n k in
        record {
          k = 0;
          place = omega arith;
          actor = a;
          at = refl;
          opening = subst (λ i. hand_is_over a (hand_of s j i (post_of number places a)) ≡ false) q w;
          before = λ m x l at. absurd (omega arith);
        }
    go true w k rest =
        let r : OpensAt s j number (incarnation + 1) places actors n = rest k in
        let p : n ≡ incarnation + 1 + r.k = r.place in
        record {
          k = suc r.k;
          place = omega arith;
          actor = r.actor;
          at = r.at;
          opening = r.opening;
          before = λ m x l at. earlier r.k r.before m x l at;
        }
      where
        earlier : (c : ℕ) → ((m : ℕ) (x : Actor) → m < c → slice_get actors m
            ≡ Some x → IsOver s j (incarnation + 1 + m) (post_of number places x)) →
            (m : ℕ) (x : Actor) → m < suc c → slice_get (a ∷ actors) m ≡ Some x →
            IsOver s j (incarnation + m) (post_of number places x)
        earlier c f zero x l at =
            subst₂ (λ i y. IsOver s j i (post_of number places y)) (sym (add-zero incarnation)) (same_Some a x at)
            (over_of_hand s j incarnation (post_of number places a) w)
        earlier c f (suc m) x l at =
            let q : incarnation + 1 + m ≡ incarnation + suc m = omega arith in
            subst (λ i. IsOver s j i (post_of number places x)) q (f m x (omega arith) at)

-- an actor of the epoch in hand, by its number there
actor_in : {F A : Type 0} (s : Setting F A) (j : List Entry) (f : Follower F) (era : Era) (k : ℕ) (actor : Actor) →
    IsFollowed s j f → slice_get s.eras f.number ≡ Some era → slice_get era.actors k ≡ Some actor →
    IsActorOf s j f k actor
actor_in s j f era k actor h there at =
    actor_of s j f k actor h (ap (λ o. slice_get (actors_in o) k) there ∙ at)

-- those before the first open one have ended
ended_before : {F A : Type 0} (s : Setting F A) (j : List Entry) (f : Follower F) (era : Era) (n i : ℕ)
    (post : Post) → IsFollowed s j f → slice_get s.eras f.number ≡ Some era →
    OpensAt s j f.number f.base f.places era.actors n → i < n → slice_get (posts_of s j) i ≡ Some post →
    IsOver s j i post
ended_before s j f era n i post h there r l at = elim (cases_lt i f.base) [
  | inl below ↦
      let base : f.base ≡ base_of s.eras f.number = ap (λ x. x.base) h.state in
      h.over i post at (era_of-before s.eras f.number i (omega arith))
  | inr from ↦
      let q : n ≡ f.base + r.k = r.place in
      let m : i - f.base < r.k = omega arith in
      let v : r.k < length era.actors = slice_get_within era.actors r.k r.actor r.at in
      let x : (actor : Actor) × (slice_get era.actors (i - f.base) ≡ Some actor) =
      actor_at era.actors (i - f.base) (omega arith) in
      here (i - f.base) x.0 (omega arith) (actor_in s j f era (i - f.base) x.0 h there x.1)
      (r.before (i - f.base) x.0 m x.1)
]
  where
    here : (k : ℕ) (actor : Actor) → f.base + k ≡ i → IsActorOf s j f k actor →
        IsOver s j (f.base + k) (post_of f.number f.places actor) → IsOver s j i post
    here k actor u own over =
        subst₂ (IsOver s j) u
        (same_Some (post_of f.number f.places actor) post (sym own.posted ∙ (ap (slice_get (posts_of s j)) u ∙ at)))
        over

first_open_is : {F A : Type 0} (s : Setting F A) (j : List Entry) (f : Follower F) (era : Era) (n : ℕ) →
    IsFollowed s j f → slice_get s.eras f.number ≡ Some era → OpensAt s j f.number f.base f.places era.actors n →
    IsFirstOpen s j n
first_open_is s j f era n h there r = record {
  post = post_of f.number f.places r.actor;
  posted = ap (slice_get (posts_of s j)) r.place ∙ (actor_in s j f era r.k r.actor h there r.at).posted;
  opening = λ over.
      both_ways (hand_is_over r.actor (hand_of s j n (post_of f.number f.places r.actor))) r.opening
      (hand_of_over s j n (post_of f.number f.places r.actor) over);
  before = λ i post l at. ended_before s j f era n i post h there r l at;
}

-- the end of a pass tells whether all actors have ended
pub finishes : {F A : Type 0} (s : Setting F A) (j : List Entry) (eras : List Era) (f : Follower F) →
    IsFollowed s j f → eras_from f.number s.eras ≡ eras → Ends s j (finish s eras f)
finishes s j [] f h w = followed_end s j f h (eras_none f.number s.eras w)
finishes s j (era ∷ eras) f h w =
    go (first_open f.base era.actors f.hands) refl
    (λ k. finishes s j eras (next_epoch s f)
    (followed_next s j f era h head.0 (none_open f.base era.actors f.hands k)) (ap (λ n. eras_from n s.eras) q
    ∙ head.1))
  where
    head : (slice_get s.eras f.number ≡ Some era) × (eras_from (suc f.number) s.eras ≡ eras)
    head = eras_head f.number s.eras eras era w

    q : f.number + 1 ≡ suc f.number
    q = omega arith

    hands : f.hands ≡ hands_of s j f.number f.base f.places era.actors
    hands = hands_are s j f h ∙ ap (λ o. hands_of s j f.number f.base f.places (actors_in o)) head.0

    go : (o : Option ℕ) → first_open f.base era.actors f.hands ≡ o →
        (first_open f.base era.actors f.hands ≡ None → Ends s j (finish s eras (next_epoch s f))) →
        Ends s j (or_else o (finish s eras (next_epoch s f)))
    go (Some n) k rest =
        first_open_is s j f era n h head.0
        (opens_at s j f.number f.base f.places era.actors n (ap (first_open f.base era.actors) (sym hands) ∙ k))
    go None k rest = rest k
