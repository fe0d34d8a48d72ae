-- What the code keeps of one who follows a list of entries, and the follower that it stands for.
use Rattle.std.specs.Prelude.{◌≡◌, ℕ, ◌+◌, ◌<◌, ◌≤◌, ◌==◌, nat_lt, if◌then◌else◌, Option, Some, None, List, [], ◌∷◌, length, take, get_or, slice_get}
use Rattle.slnf_access.specs.declared.requests.Entry.{Entry}
use Rattle.slnf_plan.specs.declared.plan.InstancePlan.{InstancePlan}
use Rattle.slnf_plan.specs.declared.plan.Epoch.{Epoch}
use Rattle.slnf_plan.specs.declared.plan.Plan.{Plan}
use Rattle.slnf_run.specs.Setting.{Actor, Setting}
use Rattle.slnf_run.specs.Jobs.{job_of, offers_in}
use Rattle.slnf_run.specs.Parts.{at_lane}
use Rattle.slnf_instance.specs.Items.{Workload}
use Rattle.slnf_instance.specs.Errands.{job_in}
use Rattle.slnf_flight.specs.declared.lanes.Lane.{Lane}
use Rattle.slnf_flight.specs.declared.flights.AnyFlight.{AnyFlight}
use Rattle.slnf_flight.specs.Actors.{era_of_epoch}
use Rattle.slnf_flight.specs.PlanSetting.{setting_of}
use Rattle.slnf_crew.specs.declared.items.ActorItems.{ActorItems}
use Rattle.slnf_crew.specs.Errands.{items_work, errand_of}
use Rattle.slnf_local.specs.declared.broken.Broken.{Broken}
use Rattle.slnf_local.specs.declared.broken.Broken.TheVariants.{Unexpected, Unended}
use Rattle.slnf_local.specs.Local.{IsExpected}
use Rattle.slnf_local.specs.Hands.{Hand as Held, hand_first}
use Rattle.slnf_local.specs.Followers.{Follower, actors_at, hands_first, IsFollowed}
use Rattle.slnf_hand.specs.Hands.{Followed, is_over, taken, IsHandOf}
use Rattle.slnf_follow.specs.declared.epochs.Course.{Course}

-- how far each lane has come
abbrev pub come_to : List ℕ → ℕ → ℕ
come_to places lane = get_or places lane 0

-- The code's hands are these of a follower: those of these actors, of which the first is this incarnation, where lanes
-- have come so far.
abbrev pub AreHands : {F A G : Type 0} → (G → Workload F) → Setting F A → (ℕ → ℕ) → ℕ → List Actor → List (Held F) →
    List (Followed G F) → Type 0
AreHands work s places incarnation [] [] [] = Unit {0}
AreHands work s places incarnation (actor ∷ actors) (held ∷ helds) (hand ∷ hands) =
    IsHandOf work (job_of s incarnation (at_lane places actor) actor) held hand
    × AreHands work s places (incarnation + 1) actors helds hands
AreHands work s places incarnation actors helds hands = ⊥

-- the hand is that of an epoch's actor with this number that has made no entry, over its items
abbrev pub IsFirstOf : Plan → Epoch → (ℕ → ℕ) → List ActorItems → ℕ → Followed ActorItems AnyFlight → Type 0
IsFirstOf plan epoch places items k hand = (item : ActorItems) (actor : Actor) → slice_get items k ≡ Some item →
    slice_get (era_of_epoch epoch).actors k ≡ Some actor → IsHandOf items_work
    (job_in (items_work item) (errand_of plan places actor (items_work item).count))
    (hand_first (items_work item).begins
    (offers_in (job_in (items_work item) (errand_of plan places actor (items_work item).count)))) hand

-- The hands are those of an epoch's actors that have made no entry, over these items.
pub record AreFirst (plan : Plan) (epoch : Epoch) (places : ℕ → ℕ) (items : List ActorItems)
    (hands : List (Followed ActorItems AnyFlight)) : Type 0 where
  pub count : length hands ≡ length items
  pub each : (k : ℕ) (hand : Followed ActorItems AnyFlight) → slice_get hands k ≡ Some hand →
      IsFirstOf plan epoch places items k hand

-- the state with an epoch in hand
abbrev pub with_hands : {F : Type 0} → ℕ → ℕ → (ℕ → ℕ) → List (Held F) → Follower F
with_hands number base places helds = record { number = number; base = base; places = places; hands = helds }

-- and before any entry of the epoch's
abbrev pub at_epoch : {F A : Type 0} → Setting F A → ℕ → ℕ → (ℕ → ℕ) → Follower F
at_epoch s number base places =
    with_hands number base places (hands_first s base places (actors_at s.eras number))

-- The state is that of one who followed these entries.
pub record Follows {F A G : Type 0} (work : G → Workload F) (s : Setting F A) (es : List Entry) (number base : ℕ)
    (places : ℕ → ℕ) (hands : List (Followed G F)) : Type 0 where
  pub helds : List (Held F)
  pub followed : IsFollowed s es (with_hands number base places helds)
  pub hands_are : AreHands work s places base (actors_at s.eras number) helds hands

-- The entry isn't taken next: its actor is of a later epoch than the one in hand, or it isn't expected.
abbrev pub IsStuck : {F A : Type 0} → Setting F A → List Entry → ℕ → Entry → Type 0
IsStuck s es end e = e.incarnation < end → IsExpected s es e → ⊥

-- What is broken where so many entries were taken, and this is the next one: an epoch's actors are in hand, of which
-- this is the first that hasn't ended. Nothing is, where all have ended and the entry is of a later epoch.
abbrev pub broken_at : Option ℕ → Option Entry → (base end done : ℕ) → Option Broken
broken_at (Some unended) None base end done = Some (Unended (base + unended))
broken_at (Some unended) (Some e) base end done = Some (Unexpected (done + 1))
broken_at None None base end done = None
broken_at None (Some e) base end done = if nat_lt e.incarnation end then Some (Unexpected (done + 1)) else None

-- What is broken behind the last epoch, where so many entries of all were taken: the next one isn't expected.
abbrev pub behind : ℕ → ℕ → Option Broken
behind done count = if nat_lt done count then Some (Unexpected (done + 1)) else None

-- the first of these hands whose actor hasn't ended, the first of which has this number
abbrev pub open_from : {G F : Type 0} → ℕ → List (Followed G F) → Option ℕ
open_from number [] = None
open_from number (hand ∷ hands) = if is_over hand then open_from (number + 1) hands else Some number

-- how many packets of a lane the actors of these instances took
abbrev pub taken_on : {G F : Type 0} → ℕ → List InstancePlan → List (Followed G F) → ℕ
taken_on lane [] hands = 0
taken_on lane (i ∷ instances) [] = 0
taken_on lane (i ∷ instances) (hand ∷ hands) =
    (if i.lane == lane then taken hand else 0) + taken_on lane instances hands

-- So many entries were followed, up to the first entry of the epoch with this number.
pub record IsAtEpoch (plan : Plan) (lanes : List Lane) (entries : List Entry) (number : ℕ) (course : Course)
    : Type 0 where
  pub upto : course.done ≤ length entries
  pub lanes_are : length course.places.items ≡ 32
  pub followed : IsFollowed (setting_of plan lanes) (take course.done entries)
      (at_epoch (setting_of plan lanes) number course.base (come_to course.places.items))
