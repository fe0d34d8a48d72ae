-- The actors of an epoch at their desks, and what their reports come to.
use Rattle.std.specs.Prelude.{◌≡◌, ◌⊎◌, ℕ, ◌+◌, Some, Result, Ok, Err, List, [], ◌∷◌, slice_get}
use Rattle.slnf_bucket.specs.declared.errors.BucketError.{BucketError}
use Rattle.slnf_bucket.specs.declared.errors.BucketError.TheVariants.{StampsSpent}
use Rattle.slnf_plan.specs.declared.plan.Epoch.{Epoch}
use Rattle.slnf_plan.specs.declared.plan.Plan.{Plan}
use Rattle.slnf_turns.specs.Views.{split_off}
use Rattle.slnf_store.specs.declared.stores.Store.{Store}
use Rattle.slnf_store.specs.Passes.{PassState}
use Rattle.slnf_store.specs.Stores.{IsOf}
use Rattle.slnf_run.specs.Setting.{Actor}
use Rattle.slnf_instance.specs.declared.endings.Work.{Work}
use Rattle.slnf_instance.specs.Errands.{job_in}
use Rattle.slnf_instance.specs.Instances.{Acting, StandsBy}
use Rattle.slnf_flight.specs.Actors.{era_of_epoch}
use Rattle.slnf_flight.specs.declared.flights.AnyFlight.{AnyFlight}
use Rattle.slnf_crew.specs.declared.items.ActorItems.{ActorItems}
use Rattle.slnf_crew.specs.Errands.{items_work, errand_of}
use Rattle.slnf_threads.specs.Passing.{after_splits}

-- what holds of each of these, the first of which has this number
abbrev pub EachAt : {X : Type 0} → (ℕ → X → Type 0) → ℕ → List X → Type 0
EachAt P number [] = Unit {0}
EachAt P number (x ∷ xs) = P number x × EachAt P (number + 1) xs

-- what holds of each of the one list with that of the other at its place
abbrev pub Pairwise : {X Y : Type 0} → (X → Y → Type 0) → List X → List Y → Type 0
Pairwise P [] [] = Unit {0}
Pairwise P [] (y ∷ ys) = ⊥
Pairwise P (x ∷ xs) [] = ⊥
Pairwise P (x ∷ xs) (y ∷ ys) = P x y × Pairwise P xs ys

-- The actor with this number of an epoch is sent on the plan's errand over its items, and stands before its first
-- access.
pub record IsSent (plan : Plan) (epoch : Epoch) (places : ℕ → ℕ) (items : List ActorItems) (number : ℕ)
    (i : Acting ActorItems AnyFlight) : Type 0 where
  pub errand : (actor : Actor) (item : ActorItems) → slice_get (era_of_epoch epoch).actors number ≡ Some actor →
      slice_get items number ≡ Some item →
      i.errand ≡ errand_of plan places actor (items_work item).count
  pub stands : (item : ActorItems) → slice_get items number ≡ Some item →
      StandsBy items_work (job_in (items_work item) i.errand) [] i

-- The pass is the one that was split from this root after so many others.
pub record IsNewPass (store : Store) (root : PassState) (number : ℕ) (pass : PassState) : Type 0 where
  pub here : IsOf store pass
  pub known : pass.known ≡ split_off (after_splits number root.known)
  pub clock : pass.clock ≡ root.clock

-- stamps were spent in one of these
abbrev pub SomeSpent : List (Result Work BucketError) → Type 0
SomeSpent [] = ⊥
SomeSpent (Ok work ∷ outcomes) = SomeSpent outcomes
SomeSpent (Err refusal ∷ outcomes) = ((last : ℕ) × (refusal ≡ StampsSpent last)) ⊎ SomeSpent outcomes
