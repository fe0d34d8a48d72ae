-- The state of one who follows the entries: it tells what is expected, and changes with one entry or one epoch at a
-- time.
use Rattle.std.proofs.Common.{◌≡◌, inl, inr, ℕ, zero, suc, ◌+◌, ◌-◌, ◌<◌, ◌≤◌, true, IsTrue, List, [], ◌∷◌, ◌++◌, Option, Some, None, length, slice_get, set, refl, sym, ap, ap₂, ◌∙◌, subst, subst₂, arith, zero-add}
use Rattle.std.specs.List.{AllByRecursion}
use Rattle.std.proofs.lemmas.Bool.{cases_lt}
use Rattle.std.proofs.lemmas.Option.{same_Some, slice_get_within, slice_get_cases}
use Rattle.slnf_access.specs.declared.requests.Entry.{Entry}
use Rattle.slnf_run.specs.Setting.{Actor, Era, Setting, era_of, base_of}
use Rattle.slnf_run.specs.Parts.{part_of, Post, posts_of, taken_on, places_after}
use Rattle.slnf_run.proofs.Growth.{grown-append}
use Rattle.slnf_access.proofs.Elements.{each-weaker}
use Rattle.slnf_run.proofs.Pairing.{each-push}
use Rattle.slnf_run.proofs.Parting.{part_of-other, post_of}
use Rattle.slnf_local.specs.Local.{IsOver, AllOver, IsExpected}
use Rattle.slnf_local.specs.Hands.{Hand, hand_of, HandExpects}
use Rattle.slnf_local.specs.Followers.{Follower, actors_in, actors_at, places_at, hands_of, hands_first, all_over, taken_in, first_epoch, next_epoch, with_hand, hand_next, IsFollowed}
use Rattle.slnf_local.proofs.Until.{part_of-earlier}
use Rattle.slnf_local.proofs.Over.{expected_from, over-append, over_expects_nothing}
use Rattle.slnf_local.proofs.Hands.{hand_expects, expected_of_hand}
use Rattle.slnf_local.proofs.Moves.{hand_of-own}
use Rattle.slnf_run.proofs.Passing.{base_of-next, era_of-before, era_of-here}
use Rattle.slnf_local.proofs.Bases.{era_from, places_at-same, places_at-next, post_at, posts_within}
use Rattle.slnf_local.proofs.HandLists.{hands_get, hands_set, hands_over, over_hands, taken_in_hands, hands_of_none}

-- an actor's number in its epoch
pub number_in : (eras : List Era) (number i : ℕ) (era : Era) → slice_get eras number ≡ Some era →
    era_of eras i ≡ number → (k : ℕ) × (base_of eras number + k ≡ i) × (k < length era.actors)
number_in eras number i era h q =
    let n : number < length eras = slice_get_within eras number era h in
    let next : base_of eras (suc number) ≡ base_of eras number + length era.actors = base_of-next eras number era h in
    let low : base_of eras number ≤ i =
    elim (cases_lt i (base_of eras number)) [
      | inl l ↦ let m : era_of eras i < number = era_of-before eras number i l in absurd (omega arith)
      | inr l ↦ l
    ] in
    let high : i < base_of eras (suc number) =
    elim (cases_lt i (base_of eras (suc number))) [
      | inl l ↦ l
      | inr l ↦ let m : suc number ≤ era_of eras i = era_from eras (suc number) i (omega arith) l in
          absurd (omega arith)
    ] in
    (i - base_of eras number, omega arith, omega arith)

pub actor_at : (actors : List Actor) (k : ℕ) → k < length actors → (actor : Actor) × (slice_get actors k ≡ Some actor)
actor_at actors k l =
    elim (slice_get_cases actors k).1 [
      | inl some ↦ (some.0, some.2)
      | inr past ↦ let m : length actors ≤ k = past.0 in absurd (omega arith)
    ]

no_part_from : (bound i : ℕ) (es : List Entry) → bound ≤ i → AllByRecursion (λ e. e.incarnation < bound) es →
    part_of i es ≡ []
no_part_from bound i [] l h = refl
no_part_from bound i (e ∷ es) l h =
    let k : e.incarnation < bound = h.0 in
    part_of-other i e es (λ q. omega arith) ∙ no_part_from bound i es l h.1

-- the state before any entry
pub followed_first : {F A : Type 0} (s : Setting F A) → IsFollowed s [] (first_epoch s)
followed_first {F = F} s = record {
  grown = tt;
  over = λ i post at l. absurd (omega arith);
  within = tt;
  state = ap of_hands (sym (hands_of_none s [] 0 0 (λ lane. 0) (actors_at s.eras 0) (λ i l. refl)));
}
  where
    of_hands : List (Hand F) → Follower F
    of_hands hands = record { number = 0; base = 0; places = λ lane. 0; hands = hands }

-- What the state tells of an actor of the epoch in hand.
pub record IsActorOf {F A : Type 0} (s : Setting F A) (es : List Entry) (f : Follower F) (k : ℕ)
    (actor : Actor) : Type 0 where
  pub era : Era
  pub there : slice_get s.eras f.number ≡ Some era
  pub at : slice_get era.actors k ≡ Some actor
  pub epoch : era_of s.eras (f.base + k) ≡ f.number
  pub posted : slice_get (posts_of s es) (f.base + k) ≡ Some (post_of f.number f.places actor)
  pub hand : slice_get f.hands k ≡ Some (hand_of s es (f.base + k) (post_of f.number f.places actor))

era_of_actor : (o : Option Era) (k : ℕ) (actor : Actor) → slice_get (actors_in o) k ≡ Some actor →
    (era : Era) × (o ≡ Some era) × (slice_get era.actors k ≡ Some actor)
era_of_actor None k actor h = absurd (cc)
era_of_actor (Some era) k actor h = (era, refl, h)

pub hands_are : {F A : Type 0} (s : Setting F A) (es : List Entry) (f : Follower F) → IsFollowed s es f →
    f.hands ≡ hands_of s es f.number f.base f.places (actors_at s.eras f.number)
hands_are s es f h =
    ap (λ x. x.hands) h.state
    ∙ ap₂ (λ b p. hands_of s es f.number b p (actors_at s.eras f.number)) (sym (ap (λ x. x.base) h.state))
    (sym (ap (λ x. x.places) h.state))

pub actor_of : {F A : Type 0} (s : Setting F A) (es : List Entry) (f : Follower F) (k : ℕ) (actor : Actor) →
    IsFollowed s es f → slice_get (actors_at s.eras f.number) k ≡ Some actor → IsActorOf s es f k actor
actor_of s es f k actor h at =
    let e : (era : Era) × (slice_get s.eras f.number ≡ Some era) × (slice_get era.actors k ≡ Some actor) =
    era_of_actor (slice_get s.eras f.number) k actor at in
    let base : f.base ≡ base_of s.eras f.number = ap (λ x. x.base) h.state in
    let places : f.places ≡ places_at s es 0 (λ lane. 0) s.eras f.number = ap (λ x. x.places) h.state in
    record {
      era = e.0;
      there = e.1;
      at = e.2;
      epoch = ap (λ b. era_of s.eras (b + k)) base
          ∙ era_of-here s.eras f.number k e.0 e.1 (slice_get_within e.0.actors k actor e.2);
      posted = ap (λ b. slice_get (posts_of s es) (b + k)) base
          ∙ (post_at s es f.number k e.0 actor e.1 e.2 ∙ ap (λ p. Some (post_of f.number p actor)) (sym places));
      hand = ap (λ hands. slice_get hands k) (hands_are s es f h)
          ∙ hands_get s es f.number f.base f.places (actors_at s.eras f.number) k actor at;
    }

-- What the state tells of an entry of an actor in hand: the actor's post, and that this is its hand.
record IsOwnHand {F A : Type 0} (s : Setting F A) (es : List Entry) (f : Follower F) (e : Entry) (k : ℕ)
    (actor : Actor) (hand : Hand F) : Type 0 where
  own : IsActorOf s es f k actor
  posted : slice_get (posts_of s es) e.incarnation ≡ Some (post_of f.number f.places actor)
  hand_is : hand_of s es e.incarnation (post_of f.number f.places actor) ≡ hand

own_hand : {F A : Type 0} (s : Setting F A) (es : List Entry) (f : Follower F) (e : Entry) (k : ℕ) (actor : Actor)
    (hand : Hand F) → IsFollowed s es f → slice_get (actors_at s.eras f.number) k ≡ Some actor →
    slice_get f.hands k ≡ Some hand → e.incarnation ≡ f.base + k → IsOwnHand s es f e k actor hand
own_hand s es f e k actor hand h at held w =
    let own : IsActorOf s es f k actor = actor_of s es f k actor h at in
    let post : Post = post_of f.number f.places actor in
    record {
      own = own;
      posted = ap (slice_get (posts_of s es)) w ∙ own.posted;
      hand_is = same_Some (hand_of s es e.incarnation post) hand
          (ap (λ i. Some (hand_of s es i post)) w ∙ (sym own.hand ∙ held));
    }

-- an entry of the epoch in hand is expected exactly where its actor's hand expects it
pub followed_tells : {F A : Type 0} (s : Setting F A) (es : List Entry) (f : Follower F) (e : Entry) (k : ℕ)
    (actor : Actor) (hand : Hand F) → IsFollowed s es f → slice_get (actors_at s.eras f.number) k ≡ Some actor →
    slice_get f.hands k ≡ Some hand → e.incarnation ≡ f.base + k → IsExpected s es e →
    HandExpects (s.scene.machine e.incarnation) actor hand e
followed_tells s es f e k actor hand h at held w expected =
    let own : IsOwnHand s es f e k actor hand = own_hand s es f e k actor hand h at held w in
    subst (λ x. HandExpects (s.scene.machine e.incarnation) actor x e) own.hand_is
    (hand_expects s es e (post_of f.number f.places actor) expected own.posted)

pub followed_expects : {F A : Type 0} (s : Setting F A) (es : List Entry) (f : Follower F) (e : Entry) (k : ℕ)
    (actor : Actor) (hand : Hand F) → IsFollowed s es f → slice_get (actors_at s.eras f.number) k ≡ Some actor →
    slice_get f.hands k ≡ Some hand → e.incarnation ≡ f.base + k →
    HandExpects (s.scene.machine e.incarnation) actor hand e → IsExpected s es e
followed_expects s es f e k actor hand h at held w expects =
    let own : IsOwnHand s es f e k actor hand = own_hand s es f e k actor hand h at held w in
    expected_of_hand s es e (post_of f.number f.places actor) own.posted
    (subst (AllOver s es) (sym (ap (era_of s.eras) w ∙ own.own.epoch)) h.over)
    (subst (λ x. HandExpects (s.scene.machine e.incarnation) actor x e) (sym own.hand_is) expects)

-- and then one hand changes
pub followed_step : {F A : Type 0} (s : Setting F A) (es : List Entry) (f : Follower F) (e : Entry) (k : ℕ)
    (actor : Actor) (hand : Hand F) → IsFollowed s es f → slice_get (actors_at s.eras f.number) k ≡ Some actor →
    slice_get f.hands k ≡ Some hand → e.incarnation ≡ f.base + k → IsExpected s es e →
    IsFollowed s (es ++ e ∷ []) (with_hand f k (hand_next s f actor hand e))
followed_step {F = F} s es f e k actor hand h at held w expected = record {
  grown = grown-append (IsExpected s) [] es (e ∷ []) h.grown (expected, tt);
  over = over-append s es (e ∷ []) f.number h.over (from, tt);
  within = each-push (λ x. x.incarnation < base_of s.eras (suc f.number)) es e h.within below;
  state =
      ap (λ hands. of_parts f.base f.places hands) hands_now
      ∙ ap₂ (λ b p. of_parts b p (hands_of s (es ++ e ∷ []) f.number b p (actors_at s.eras f.number))) base places_now;
}
  where
    own : IsOwnHand s es f e k actor hand
    own = own_hand s es f e k actor hand h at held w

    a : IsActorOf s es f k actor
    a = own.own

    base : f.base ≡ base_of s.eras f.number
    base = ap (λ x. x.base) h.state

    from : f.number ≤ era_of s.eras e.incarnation
    from = expected_from s es e f.number h.over expected

    below : e.incarnation < base_of s.eras (suc f.number)
    below =
        let next : base_of s.eras (suc f.number) ≡ base_of s.eras f.number + length a.era.actors =
        base_of-next s.eras f.number a.era a.there in
        let l : k < length a.era.actors = slice_get_within a.era.actors k actor a.at in
        let b : f.base ≡ base_of s.eras f.number = base in
        let v : e.incarnation ≡ f.base + k = w in
        omega arith

    places_now : f.places ≡ places_at s (es ++ e ∷ []) 0 (λ lane. 0) s.eras f.number
    places_now =
        ap (λ x. x.places) h.state
        ∙ places_at-same s es (es ++ e ∷ []) 0 (λ lane. 0) s.eras f.number
        (λ i l. sym (part_of-earlier s f.number i es (e ∷ [])
        (era_of-before s.eras f.number i (subst (λ n. i < n) (zero-add (base_of s.eras f.number)) l)) (from, tt)))

    of_parts : ℕ → (ℕ → ℕ) → List (Hand F) → Follower F
    of_parts b p hands = record { number = f.number; base = b; places = p; hands = hands }

    hand_now : hand_of s (es ++ e ∷ []) e.incarnation (post_of f.number f.places actor) ≡ hand_next s f actor hand e
    hand_now =
        hand_of-own s es e (post_of f.number f.places actor) h.grown expected own.posted
        ∙ ap (λ x. hand_next s f actor x e) own.hand_is

    hands_now : set f.hands k (hand_next s f actor hand e) ≡ hands_of s (es ++ e ∷ []) f.number f.base f.places
        (actors_at s.eras f.number)
    hands_now =
        ap₂ (λ hands x. set hands k x) (hands_are s es f h) (sym hand_now)
        ∙ sym (hands_set s es e f.number f.base f.places (actors_at s.eras f.number) k actor at w)

-- each actor of the epoch in hand has ended where the hands say so
epoch_over : {F A : Type 0} (s : Setting F A) (es : List Entry) (f : Follower F) (era : Era) → IsFollowed s es f →
    slice_get s.eras f.number ≡ Some era → IsTrue (all_over era.actors f.hands) → AllOver s es (f.number + 1)
epoch_over s es f era h there over = λ i post at l.
    elim (cases_lt (era_of s.eras i) f.number) [
      | inl earlier ↦ h.over i post at earlier
      | inr m ↦
          let q : era_of s.eras i ≡ f.number = omega arith in
          let n : (k : ℕ) × (base_of s.eras f.number + k ≡ i) × (k < length era.actors) =
          number_in s.eras f.number i era there q in
          let x : (actor : Actor) × (slice_get era.actors n.0 ≡ Some actor) = actor_at era.actors n.0 n.2 in
          let a : IsActorOf s es f n.0 x.0 =
          actor_of s es f n.0 x.0 h (ap (λ o. slice_get (actors_in o) n.0) there ∙ x.1) in
          let w : f.base + n.0 ≡ i = ap (λ b. b + n.0) (ap (λ g. g.base) h.state) ∙ n.1 in
          subst₂ (IsOver s es) w
          (same_Some (post_of f.number f.places x.0) post (sym a.posted ∙ (ap (slice_get (posts_of s es)) w ∙ at)))
          (hands_over s es f.number f.base f.places era.actors
          (subst (λ hands. all_over era.actors hands ≡ true)
          (hands_are s es f h ∙ ap (λ o. hands_of s es f.number f.base f.places (actors_in o)) there) over) n.0 x.0 x.1)
    ]

base_of-rises : (eras : List Era) (number : ℕ) → base_of eras number ≤ base_of eras (suc number)
base_of-rises [] zero = omega arith
base_of-rises [] (suc number) = omega arith
base_of-rises (era ∷ eras) zero = omega arith
base_of-rises (era ∷ eras) (suc number) =
    let r : base_of eras number ≤ base_of eras (suc number) = base_of-rises eras number in omega arith

-- where they have, the next epoch is in hand
pub followed_next : {F A : Type 0} (s : Setting F A) (es : List Entry) (f : Follower F) (era : Era) →
    IsFollowed s es f → slice_get s.eras f.number ≡ Some era → IsTrue (all_over era.actors f.hands) →
    IsFollowed s es (next_epoch s f)
followed_next {F = F} s es f era h there over = record {
  grown = h.grown;
  over = epoch_over s es f era h there over;
  within = each-weaker (λ e. e.incarnation < base_of s.eras (suc f.number))
      (λ e. e.incarnation < base_of s.eras (suc (f.number + 1)))
      (λ e l. let r : base_of s.eras (suc f.number) ≤ base_of s.eras (suc (suc f.number)) =
      base_of-rises s.eras (suc f.number) in
      subst (λ n. e.incarnation < base_of s.eras (suc n)) (sym next)
      (lower e.incarnation (base_of s.eras (suc f.number)) (base_of s.eras (suc (suc f.number))) l r)) es h.within;
  state =
      ap₂ (λ b p. of_parts b p (hands_first s b p (actors_at s.eras (f.number + 1)))) base_now places_now
      ∙ ap (of_parts (base_of s.eras (f.number + 1)) (places_at s es 0 (λ lane. 0) s.eras (f.number + 1)))
      (sym (hands_of_none s es (f.number + 1) (base_of s.eras (f.number + 1))
      (places_at s es 0 (λ lane. 0) s.eras (f.number + 1)) (actors_at s.eras (f.number + 1))
      (λ i l. no_part_from (base_of s.eras (suc f.number)) i es (subst (λ n. base_of s.eras n ≤ i) next l) h.within)));
}
  where
    next : f.number + 1 ≡ suc f.number
    next = omega arith

    lower : (a b c : ℕ) → a < b → b ≤ c → a < c
    lower a b c l m = omega arith

    of_parts : ℕ → (ℕ → ℕ) → List (Hand F) → Follower F
    of_parts b p hands = record { number = f.number + 1; base = b; places = p; hands = hands }

    actors_are : actors_at s.eras f.number ≡ era.actors
    actors_are = ap actors_in there

    base_is : f.base ≡ base_of s.eras f.number
    base_is = ap (λ x. x.base) h.state

    base_now : f.base + length (actors_at s.eras f.number) ≡ base_of s.eras (f.number + 1)
    base_now =
        ap₂ (λ b actors. b + length actors) base_is actors_are
        ∙ (sym (base_of-next s.eras f.number era there) ∙ ap (base_of s.eras) (sym next))

    taken : (lane : ℕ) → taken_in s f.base f.places lane (actors_at s.eras f.number) f.hands
        ≡ taken_on s es f.base f.places lane era.actors
    taken lane =
        ap (taken_in s f.base f.places lane (actors_at s.eras f.number)) (hands_are s es f h)
        ∙ (taken_in_hands s es f.number f.base f.places lane (actors_at s.eras f.number)
        ∙ ap (taken_on s es f.base f.places lane) actors_are)

    after : (λ lane. f.places lane + taken_in s f.base f.places lane (actors_at s.eras f.number) f.hands)
        ≡ places_after s es f.base f.places era
    after = λ i lane. f.places lane + taken lane i

    places_now : (λ lane. f.places lane + taken_in s f.base f.places lane (actors_at s.eras f.number) f.hands)
        ≡ places_at s es 0 (λ lane. 0) s.eras (f.number + 1)
    places_now =
        after
        ∙ (ap₂ (λ b p. places_after s es b p era) (base_is ∙ sym (zero-add (base_of s.eras f.number)))
        (ap (λ x. x.places) h.state)
        ∙ (sym (places_at-next s es 0 (λ lane. 0) s.eras f.number era there)
        ∙ ap (places_at s es 0 (λ lane. 0) s.eras) (sym next)))

-- no entry of an earlier epoch is expected
pub followed_from : {F A : Type 0} (s : Setting F A) (es : List Entry) (f : Follower F) (e : Entry) →
    IsFollowed s es f → IsExpected s es e → f.base ≤ e.incarnation
followed_from s es f e h expected =
    let base : f.base ≡ base_of s.eras f.number = ap (λ x. x.base) h.state in
    let from : f.number ≤ era_of s.eras e.incarnation = expected_from s es e f.number h.over expected in
    elim (cases_lt e.incarnation (base_of s.eras f.number)) [
      | inl l ↦ let m : era_of s.eras e.incarnation < f.number = era_of-before s.eras f.number e.incarnation l in
          absurd (omega arith)
      | inr l ↦ omega arith
    ]

over_of_all : {F A : Type 0} (s : Setting F A) (es : List Entry) (f : Follower F) (era : Era) → IsFollowed s es f →
    slice_get s.eras f.number ≡ Some era → AllOver s es (f.number + 1) → IsTrue (all_over era.actors f.hands)
over_of_all s es f era h there over =
    subst (λ hands. all_over era.actors hands ≡ true)
    (sym (hands_are s es f h ∙ ap (λ o. hands_of s es f.number f.base f.places (actors_in o)) there))
    (over_hands s es f.number f.base f.places era.actors
    (λ k actor at.
    let a : IsActorOf s es f k actor = actor_of s es f k actor h (ap (λ o. slice_get (actors_in o) k) there ∙ at) in
    let q : era_of s.eras (f.base + k) ≡ f.number = a.epoch in
    over (f.base + k) (post_of f.number f.places actor) a.posted (omega arith)))

-- and one of a later epoch only where all actors of the one in hand have ended
pub followed_later : {F A : Type 0} (s : Setting F A) (es : List Entry) (f : Follower F) (e : Entry) (era : Era) →
    IsFollowed s es f → slice_get s.eras f.number ≡ Some era → f.base + length era.actors ≤ e.incarnation →
    IsExpected s es e → IsTrue (all_over era.actors f.hands)
followed_later s es f e era h there l expected =
    let base : f.base ≡ base_of s.eras f.number = ap (λ x. x.base) h.state in
    let n : f.number < length s.eras = slice_get_within s.eras f.number era there in
    let next : base_of s.eras (suc f.number) ≡ base_of s.eras f.number + length era.actors =
    base_of-next s.eras f.number era there in
    let m : suc f.number ≤ era_of s.eras e.incarnation =
    era_from s.eras (suc f.number) e.incarnation (omega arith) (omega arith) in
    over_of_all s es f era h there (λ i post at k. expected.earlier_over i post at (omega arith))

-- behind the last epoch all actors have ended, and no entry is expected
pub followed_end : {F A : Type 0} (s : Setting F A) (es : List Entry) (f : Follower F) → IsFollowed s es f →
    length s.eras ≤ f.number → (incarnation : ℕ) (post : Post) → slice_get (posts_of s es) incarnation ≡ Some post →
    IsOver s es incarnation post
followed_end s es f h l incarnation post at =
    let m : era_of s.eras incarnation < length s.eras = posts_within s es 0 0 (λ lane. 0) s.eras incarnation post at in
    h.over incarnation post at (omega arith)

pub nothing_at_end : {F A : Type 0} (s : Setting F A) (es : List Entry) (f : Follower F) (e : Entry) →
    IsFollowed s es f → length s.eras ≤ f.number → IsExpected s es e → ⊥
nothing_at_end s es f e h l expected =
    over_expects_nothing s es e expected.post expected expected.posted
    (followed_end s es f h l e.incarnation expected.post expected.posted)

-- where all actors have ended, those of the epoch in hand have
pub followed_over : {F A : Type 0} (s : Setting F A) (es : List Entry) (f : Follower F) (era : Era) →
    IsFollowed s es f → slice_get s.eras f.number ≡ Some era →
    ((incarnation : ℕ) (post : Post) → slice_get (posts_of s es) incarnation
    ≡ Some post → IsOver s es incarnation post) → IsTrue (all_over era.actors f.hands)
followed_over s es f era h there all = over_of_all s es f era h there (λ i post at k. all i post at)
