-- One entry: it is expected exactly where there is a state after it.
use Rattle.std.proofs.Common.{◌≡◌, ℕ, zero, suc, ◌+◌, ◌-◌, ◌<◌, ◌≤◌, Bool, true, false, nat_lt, if◌then◌else◌, List, [], ◌∷◌, ◌++◌, Option, Some, None, length, slice_get, refl, sym, ap, ◌∙◌, subst, arith, ltb-true}
use Rattle.std.proofs.lemmas.Bool.{cond_both}
use Rattle.std.proofs.lemmas.Bool.Decides.{nat_tests}
use Rattle.std.proofs.lemmas.Option.{none-some}
use Rattle.slnf_access.specs.declared.requests.Entry.{Entry}
use Rattle.slnf_access.specs.Machines.{Machine, Stand, Flies, Ends}
use Rattle.slnf_run.specs.Setting.{Actor, Era, Setting}
use Rattle.slnf_run.specs.Jobs.{is_stop}
use Rattle.slnf_run.proofs.Parting.{post_of}
use Rattle.slnf_local.specs.Local.{IsExpected}
use Rattle.slnf_local.specs.Hands.{Hand, hand_of, stand_in, IsAskedIn, HandExpects}
use Rattle.slnf_local.specs.Followers.{Follower, actors_in, actors_at, all_over, next_epoch, IsFollowed}
use Rattle.slnf_local.specs.Passes.{asks_in, hand_allows, eras_from, advance, accept_hand, accept_in, accept}
use Rattle.slnf_local.proofs.Testing.{same_request_tells, request_same}
use Rattle.slnf_local.proofs.Following.{IsActorOf, actor_of, actor_at, followed_tells, followed_expects, followed_step, followed_next, followed_from, followed_later, nothing_at_end}

-- the epochs from a number on
pub eras_head : (number : ℕ) (eras rest : List Era) (era : Era) → eras_from number eras ≡ era ∷ rest →
    (slice_get eras number ≡ Some era) × (eras_from (suc number) eras ≡ rest)
eras_head zero [] rest era h = absurd (cc)
eras_head zero (x ∷ eras) rest era h = (cc, cc)
eras_head (suc number) [] rest era h = absurd (cc)
eras_head (suc number) (x ∷ eras) rest era h = eras_head number eras rest era h

pub eras_none : (number : ℕ) (eras : List Era) → eras_from number eras ≡ [] → length eras ≤ number
eras_none zero [] h = omega arith
eras_none zero (x ∷ eras) h = absurd (cc)
eras_none (suc number) [] h = omega arith
eras_none (suc number) (x ∷ eras) h =
    let r : length eras ≤ number = eras_none number eras h in omega arith

-- What it tells that the state goes on to the epoch of an incarnation.
pub record IsAdvanced {F A : Type 0} (s : Setting F A) (es : List Entry) (incarnation : ℕ) (f : Follower F) :
    Type 0 where
  pub followed : IsFollowed s es f
  pub era : Era
  pub there : slice_get s.eras f.number ≡ Some era
  pub from : f.base ≤ incarnation
  pub upto : incarnation < f.base + length era.actors

abbrev pub Advances : {F A : Type 0} → Setting F A → List Entry → ℕ → Option (Follower F) → Type 0
Advances s es incarnation None = (e : Entry) → e.incarnation ≡ incarnation → IsExpected s es e → ⊥
Advances s es incarnation (Some f) = IsAdvanced s es incarnation f

pub advances : {F A : Type 0} (s : Setting F A) (es : List Entry) (eras : List Era) (f : Follower F)
    (incarnation : ℕ) → IsFollowed s es f → eras_from f.number s.eras ≡ eras →
    Advances s es incarnation (advance s eras f incarnation)
advances s es [] f incarnation h w =
    λ e q expected. nothing_at_end s es f e h (eras_none f.number s.eras w) expected
advances s es (era ∷ eras) f incarnation h w =
    let head : (slice_get s.eras f.number ≡ Some era) × (eras_from (suc f.number) s.eras ≡ eras) =
    eras_head f.number s.eras eras era w in
    let q : suc f.number ≡ f.number + 1 = omega arith in
    cond_both (nat_lt incarnation (f.base + length era.actors)) _ _ (Advances s es incarnation)
    (λ upto. cond_both (nat_lt incarnation f.base) _ _ (Advances s es incarnation)
    (λ below e p expected.
    let l : f.base ≤ e.incarnation = followed_from s es f e h expected in
    let m : incarnation < f.base = ltb-true incarnation f.base below in
    absurd (omega arith))
    (λ from. record {
      followed = h;
      era = era;
      there = head.0;
      from = grind (arith, nat_tests);
      upto = ltb-true incarnation (f.base + length era.actors) upto;
    }))
    (λ past. cond_both (all_over era.actors f.hands) _ _ (Advances s es incarnation)
    (λ over. advances s es eras (next_epoch s f) incarnation (followed_next s es f era h head.0 over)
    (ap (λ n. eras_from n s.eras) (sym q) ∙ head.1))
    (λ some e p expected.
    let l : f.base + length era.actors ≤ e.incarnation =
    subst (λ i. f.base + length era.actors ≤ i) (sym p) (grind (arith, nat_tests)) in
    let over : all_over era.actors f.hands ≡ true = followed_later s es f e era h head.0 l expected in
    absurd (cc)))

-- the test of a hand is what it expects
asks_tells : {F : Type 0} (machine : Machine F) (stand : Option (Stand F)) (e : Entry) →
    asks_in machine stand e ≡ true → IsAskedIn machine stand e
asks_tells machine None e h = absurd (cc)
asks_tells machine (Some (Ends verdict)) e h = absurd (cc)
asks_tells machine (Some (Flies flight)) e h = same_request_tells e.request (machine.asks flight) h

tells_asks : {F : Type 0} (machine : Machine F) (stand : Option (Stand F)) (e : Entry) →
    IsAskedIn machine stand e → asks_in machine stand e ≡ true
tells_asks machine None e h = absurd h
tells_asks machine (Some (Ends verdict)) e h = absurd h
tells_asks machine (Some (Flies flight)) e h = request_same e.request (machine.asks flight) h

both_allow : (stopped asked : Bool) → (if stopped then false else asked) ≡ true → (stopped ≡ false) × (asked ≡ true)
both_allow true asked h = absurd (cc)
both_allow false asked h = (refl, h)

allow_both : (stopped asked : Bool) → stopped ≡ false → asked ≡ true → (if stopped then false else asked) ≡ true
allow_both true asked h k = absurd (cc)
allow_both false asked h k = k

-- What an answer on one entry tells.
abbrev pub Accepted : {F A : Type 0} → Setting F A → List Entry → Entry → Option (Follower F) → Type 0
Accepted s es e None = IsExpected s es e → ⊥
Accepted s es e (Some f) = IsExpected s es e × IsFollowed s (es ++ e ∷ []) f

accepted_hand : {F A : Type 0} (s : Setting F A) (es : List Entry) (f : Follower F) (e : Entry) (k : ℕ)
    (actor : Option Actor) (hand : Option (Hand F)) → IsAdvanced s es e.incarnation f → f.base + k ≡ e.incarnation →
    slice_get (actors_at s.eras f.number) k ≡ actor → slice_get f.hands k ≡ hand →
    Accepted s es e (accept_hand s f e k actor hand)
accepted_hand s es f e k None hand h w a q =
    let l : k < length h.era.actors = within (f.base) k e.incarnation (length h.era.actors) w h.upto in
    let x : (actor : Actor) × (slice_get h.era.actors k ≡ Some actor) = actor_at h.era.actors k l in
    absurd (none-some x.0 (sym a ∙ (ap (λ o. slice_get (actors_in o) k) h.there ∙ x.1)))
  where
    within : (base k i count : ℕ) → base + k ≡ i → i < base + count → k < count
    within base k i count w l = omega arith
accepted_hand s es f e k (Some actor) None h w a q =
    let x : IsActorOf s es f k actor = actor_of s es f k actor h.followed a in
    absurd (none-some (hand_of s es (f.base + k) (post_of f.number f.places actor)) (sym q ∙ x.hand))
accepted_hand s es f e k (Some actor) (Some hand) h w a q =
    let machine = s.scene.machine e.incarnation in
    let asked : Bool = asks_in machine (stand_in e.item hand.items) e in
    cond_both (hand_allows machine actor hand e) _ _ (Accepted s es e)
    (λ allowed.
    let p : (is_stop actor.stop hand.made ≡ false) × (asked ≡ true) =
    both_allow (is_stop actor.stop hand.made) asked allowed in
    let expected : IsExpected s es e =
    followed_expects s es f e k actor hand h.followed a q (sym w)
    (p.0, asks_tells machine (stand_in e.item hand.items) e p.1) in
    (expected, followed_step s es f e k actor hand h.followed a q (sym w) expected))
    (λ refused expected.
    let p : HandExpects machine actor hand e =
    followed_tells s es f e k actor hand h.followed a q (sym w) expected in
    let passes : hand_allows machine actor hand e ≡ true =
    allow_both (is_stop actor.stop hand.made) asked p.0 (tells_asks machine (stand_in e.item hand.items) e p.1) in
    absurd (cc))

accepted_in : {F A : Type 0} (s : Setting F A) (es : List Entry) (e : Entry) (o : Option (Follower F)) →
    Advances s es e.incarnation o → Accepted s es e (accept_in s e o)
accepted_in s es e None h = λ expected. h e refl expected
accepted_in s es e (Some f) h =
    let l : f.base ≤ e.incarnation = h.from in
    accepted_hand s es f e (e.incarnation - f.base)
    (slice_get (actors_at s.eras f.number) (e.incarnation - f.base)) (slice_get f.hands (e.incarnation - f.base)) h
    (omega arith) refl refl

pub accepted : {F A : Type 0} (s : Setting F A) (es : List Entry) (f : Follower F) (e : Entry) → IsFollowed s es f →
    Accepted s es e (accept s f e)
accepted s es f e h =
    accepted_in s es e (advance s (eras_from f.number s.eras) f e.incarnation)
    (advances s es (eras_from f.number s.eras) f e.incarnation h refl)
