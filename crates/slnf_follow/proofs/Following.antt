-- What an entry makes of the state.
use Rattle.std.proofs.Common.{◌≡◌, ℕ, zero, suc, ◌+◌, ◌<◌, ◌≤◌, Some, List, [], ◌∷◌, ◌++◌, length, set, slice_get, refl, sym, ap, ◌∙◌, subst, arith}
use Rattle.std.proofs.lemmas.Option.{same_Some, slice_get_within}
use Rattle.slnf_access.specs.declared.requests.Entry.{Entry}
use Rattle.slnf_run.specs.Setting.{Actor, Setting}
use Rattle.slnf_run.specs.Jobs.{Job, job_of, offers_in}
use Rattle.slnf_run.specs.Parts.{at_lane}
use Rattle.slnf_instance.specs.Items.{Workload}
use Rattle.slnf_local.specs.Local.{IsExpected}
use Rattle.slnf_local.specs.Hands.{Hand as Held, hand_after}
use Rattle.slnf_local.specs.Followers.{Follower, actors_at, hand_next}
use Rattle.slnf_local.proofs.Following.{followed_from, followed_tells, followed_expects, followed_step}
use Rattle.slnf_hand.specs.Reached.{Expects}
use Rattle.slnf_hand.specs.Hands.{Followed, IsHandOf}
use Rattle.slnf_follow.specs.Follows.{AreHands, with_hands, Follows}
use Rattle.slnf_follow.proofs.Standing.{lengths, HandAt, hand_at, hands_set}

actor_there : (actors : List Actor) (k : ℕ) → k < length actors → (actor : Actor) × (slice_get actors k ≡ Some actor)
actor_there [] k l = absurd (omega arith)
actor_there (a ∷ actors) zero l = (a, refl)
actor_there (a ∷ actors) (suc k) l = actor_there actors k (omega arith)

module _ {F A G : Type 0} (work : G → Workload F) (s : Setting F A) (es : List Entry) (number base : ℕ)
    (places : ℕ → ℕ) (hands : List (Followed G F)) (h : Follows work s es number base places hands) where
  abbrev follower : Follower F
  follower = with_hands number base places h.helds

  -- an entry of an earlier epoch isn't expected
  pub stuck_before : (e : Entry) → e.incarnation < base → IsExpected s es e → ⊥
  stuck_before e below expected =
      let from : base ≤ e.incarnation = followed_from s es follower e h.followed expected in omega arith

  pub count_is : length hands ≡ length (actors_at s.eras number)
  count_is = lengths work s places base (actors_at s.eras number) h.helds hands h.hands_are

  module _ (k : ℕ) (hand : Followed G F) (e : Entry) (same : e.incarnation ≡ base + k)
      (there : slice_get hands k ≡ Some hand) where
    pub own : (actor : Actor) × (slice_get (actors_at s.eras number) k ≡ Some actor)
    own = (let l : k < length hands = slice_get_within hands k hand there in
        let q : length hands ≡ length (actors_at s.eras number) = count_is in
        actor_there (actors_at s.eras number) k (omega arith))

    abbrev pub actor : Actor
    actor = own.0

    pub at : HandAt work s places base k actor h.helds hands
    at = hand_at work s places base k actor (actors_at s.eras number) h.helds hands h.hands_are own.1

    -- the job of its actor
    abbrev pub job : Job F
    job = job_of s (base + k) (at_lane places actor) actor

    abbrev pub held : Held F
    held = at.held

    pub holds : IsHandOf work job held hand
    holds = subst (IsHandOf work job held) (same_Some at.hand hand (sym at.hand_there ∙ there)) at.is

    expects_same : Expects job held e → IsExpected s es e
    expects_same x =
        followed_expects s es follower e k actor held h.followed own.1 at.held_there same
        (subst (λ i. Expects (job_of s i (at_lane places actor) actor) held e) (sym same) x)

    -- what the hand refuses isn't expected
    pub refused : (Expects job held e → ⊥) → IsExpected s es e → ⊥
    refused denied expected =
        denied (subst (λ i. Expects (job_of s i (at_lane places actor) actor) held e) same
        (followed_tells s es follower e k actor held h.followed own.1 at.held_there same expected))

    -- and what it takes is
    pub taken_next : (new : Followed G F) (all : List (Followed G F)) → Expects job held e →
        IsHandOf work job (hand_after job.machine job.begins (offers_in job) held e) new → all ≡ set hands k new →
        Follows work s (es ++ e ∷ []) number base places all
    taken_next new all x next is =
        let expected : IsExpected s es e = expects_same x in
        let after : Held F = hand_next s follower actor held e in
        let is_after : hand_after job.machine job.begins (offers_in job) held e ≡ after =
        ap (λ i. hand_after (job_of s i (at_lane places actor) actor).machine
        (job_of s i (at_lane places actor) actor).begins (offers_in (job_of s i (at_lane places actor) actor)) held e)
        (sym same) in
        record {
          helds = set h.helds k after;
          followed =
              followed_step s es follower e k actor held h.followed own.1 at.held_there same expected;
          hands_are = subst (AreHands work s places base (actors_at s.eras number) (set h.helds k after)) (sym is)
              (hands_set work s places base k actor (actors_at s.eras number) h.helds hands after new h.hands_are own.1
              (subst (λ y. IsHandOf work job y new) is_after next));
        }
