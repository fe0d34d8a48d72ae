-- The hands of an epoch's actors before any entry.
use Rattle.std.proofs.Common.{◌≡◌, ℕ, zero, suc, ◌+◌, ◌≤◌, Option, Some, None, List, [], ◌∷◌, ◌++◌, length, map, slice_get, refl, sym, ap, ◌∙◌, subst, arith}
use Rattle.std.proofs.lemmas.Option.{same_Some, slice_get_within}
use Rattle.slnf_plan.specs.declared.plan.Epoch.{Epoch}
use Rattle.slnf_plan.specs.declared.plan.InstancePlan.{InstancePlan}
use Rattle.slnf_plan.specs.declared.plan.SweepPlan.{SweepPlan}
use Rattle.slnf_plan.specs.declared.plan.SweepPlan.TheVariants.{No, Yes}
use Rattle.slnf_plan.specs.declared.plan.Plan.{Plan}
use Rattle.slnf_run.specs.Setting.{Actor, Setting}
use Rattle.slnf_run.specs.Jobs.{Job, job_of, offers_in}
use Rattle.slnf_run.specs.Parts.{at_lane}
use Rattle.slnf_instance.specs.Items.{Workload}
use Rattle.slnf_instance.specs.Errands.{job_in}
use Rattle.slnf_flight.specs.declared.flights.AnyFlight.{AnyFlight}
use Rattle.slnf_flight.specs.declared.functions.AnyFunction.{AnyFunction}
use Rattle.slnf_flight.specs.declared.lanes.Lane.{Lane}
use Rattle.slnf_flight.specs.Actors.{instance_actor, sweep_actors, era_of_epoch}
use Rattle.slnf_crew.specs.declared.items.ActorItems.{ActorItems}
use Rattle.slnf_crew.specs.Errands.{items_work, errand_of, IsWorkOn, AreItemsFor}
use Rattle.slnf_local.specs.Hands.{hand_first}
use Rattle.slnf_hand.specs.Hands.{Followed, IsHandOf}
use Rattle.slnf_follow.specs.Follows.{AreHands, AreFirst, IsFirstOf}
use Rattle.slnf_local.specs.Followers.{hands_first}
use Rattle.slnf_follow.proofs.Standing.{hands_begin}

-- how far the lane of an actor has come, by its instance
abbrev pub place_at : (ℕ → ℕ) → Option InstancePlan → ℕ
place_at places None = 0
place_at places (Some i) = places i.lane

pub place_is : (places : ℕ → ℕ) (instances : List InstancePlan) (sweep : SweepPlan) (number : ℕ) (actor : Actor) →
    slice_get (map instance_actor instances ++ sweep_actors sweep) number ≡ Some actor →
    at_lane places actor ≡ place_at places (slice_get instances number)
place_is places [] No number actor h = absurd (cc)
place_is places [] (Yes stop) zero actor h =
    ap (at_lane places) (sym (same_Some (record { lane = None; quota = None; stop = stop }) actor h))
place_is places [] (Yes stop) (suc number) actor h = absurd (cc)
place_is places (i ∷ instances) sweep zero actor h = ap (at_lane places) (sym (same_Some (instance_actor i) actor h))
place_is places (i ∷ instances) sweep (suc number) actor h = place_is places instances sweep number actor h

-- it is within its lane
pub place_within : (places : ℕ → ℕ) (count at : ℕ) (o : Option InstancePlan) →
    ((i : InstancePlan) → o ≡ Some i → at ≡ places i.lane) → (o ≡ None → at ≡ 0) →
    ((i : InstancePlan) → o ≡ Some i → places i.lane ≤ count) → at ≤ count
place_within places count at None own none fits = let z : at ≡ 0 = none refl in omega arith
place_within places count at (Some i) own none fits =
    let q : at ≡ places i.lane = own i refl in let l : places i.lane ≤ count = fits i refl in omega arith

some_at : {X : Type 0} (xs : List X) (k n : ℕ) (m : ℕ) → m ≡ n → k + 1 ≤ m → length xs ≡ n →
    (x : X) × (slice_get xs k ≡ Some x)
some_at [] k n m q l e = absurd (omega arith)
some_at (x ∷ xs) zero n m q l e = (x, refl)
some_at (x ∷ xs) (suc k) n m q l e = some_at xs k (length xs) (length xs) refl (omega arith) refl

-- a hand is an actor's that has made no entry, by the item that is there
pub first_of : (plan : Plan) (epoch : Epoch) (places : ℕ → ℕ) (items : List ActorItems) (k : ℕ) (item : ActorItems)
    (hand : Followed ActorItems AnyFlight) → slice_get items k ≡ Some item →
    ((actor : Actor) → slice_get (era_of_epoch epoch).actors k ≡ Some actor → IsHandOf items_work
    (job_in (items_work item) (errand_of plan places actor (items_work item).count))
    (hand_first (items_work item).begins
    (offers_in (job_in (items_work item) (errand_of plan places actor (items_work item).count)))) hand) →
    IsFirstOf plan epoch places items k hand
first_of plan epoch places items k item hand there each other actor other_there at =
    subst (λ x. IsHandOf items_work (job_in (items_work x) (errand_of plan places actor (items_work x).count))
    (hand_first (items_work x).begins
    (offers_in (job_in (items_work x) (errand_of plan places actor (items_work x).count)))) hand)
    (same_Some item other (sym there ∙ other_there)) (each actor at)

-- the hands are a follower's that begins the epoch
pub begins : {A : Type 0} (s : Setting AnyFlight A) (plan : Plan) (epoch : Epoch) (function : AnyFunction)
    (lanes : List Lane) (base : ℕ) (places : ℕ →
    ℕ) (items : List ActorItems) (hands : List (Followed ActorItems AnyFlight)) →
    AreFirst plan epoch places items hands → AreItemsFor function lanes base epoch items →
    length items ≡ length (era_of_epoch epoch).actors →
    ((k : ℕ) (actor : Actor) (work : Workload AnyFlight) → slice_get (era_of_epoch epoch).actors k ≡ Some actor →
    IsWorkOn function lanes base (base + k) actor.lane work → job_in work (errand_of plan places actor work.count)
    ≡ job_of s (base + k) (at_lane places actor) actor) →
    AreHands items_work s places base (era_of_epoch epoch).actors
    (hands_first s base places (era_of_epoch epoch).actors) hands
begins s plan epoch function lanes base places items hands first for_items count jobs =
    hands_begin items_work s places base (era_of_epoch epoch).actors hands (first.count ∙ count)
    (λ k actor hand at there.
    let inside = slice_get_within hands k hand there in
    let item : (x : ActorItems) × (slice_get items k ≡ Some x) =
    some_at items k (length hands) (length hands) refl (omega (arith, inside)) (sym first.count) in
    let work : Workload AnyFlight = items_work item.0 in
    subst (λ (j : Job AnyFlight). IsHandOf items_work j (hand_first j.begins (offers_in j)) hand)
    (jobs k actor work at (for_items k item.0 actor item.1 at))
    (first.each k hand there item.0 actor item.1 at))
