-- What the code keeps of an actor.
use Rattle.std.specs.Prelude.{◌≡◌, ℕ, ◌+◌, ◌-◌, ◌≤◌, Bool, ◌||◌, ◌==◌, if◌then◌else◌, [], length, vec_len, vec_capacity}
use Rattle.slnf_instance.specs.declared.errands.Errand.{Errand}
use Rattle.slnf_run.specs.Jobs.{offers_in}
use Rattle.slnf_instance.specs.Items.{Workload}
use Rattle.slnf_instance.specs.Errands.{job_in, IsErrand}
use Rattle.slnf_instance.specs.Hands.{is_spent}
use Rattle.slnf_local.specs.Hands.{hand_first}
use Rattle.slnf_hand.specs.declared.progress.Progress.{Progress}
use Rattle.slnf_hand.specs.Reached.{Reached, Holds}

-- how far the actor has come
abbrev pub reached : {F : Type 0} → Progress F → Reached F
reached progress = record {
  left = progress.left;
  through = progress.through;
  from = progress.from;
  flights = progress.flights.items;
}

-- an actor has ended
abbrev pub over : {F : Type 0} → Progress F → Bool
over progress = is_spent progress.left || (length progress.flights.items == 0)

-- how many items an actor took that has ended
abbrev pub taken_of : {F : Type 0} → Progress F → ℕ
taken_of progress = (if is_spent progress.left then progress.through else progress.errand.end) - progress.errand.at

-- There is room for a batch, and the actor is within its errand.
pub record Fits {F : Type 0} (progress : Progress F) : Type 0 where
  pub flights_room : progress.errand.batch ≤ vec_capacity progress.flights
  pub firsts_room : progress.errand.batch ≤ vec_capacity progress.firsts
  pub from : progress.errand.at ≤ progress.from
  pub inside : progress.from + vec_len progress.flights ≤ progress.errand.end
  pub few : vec_len progress.flights ≤ progress.errand.batch
  pub begun : progress.errand.at ≤ progress.through
  pub through : progress.through ≤ progress.errand.end

-- The errand is one over the items, and there is room for a batch.
pub record IsSound {F : Type 0} (work : Workload F) (progress : Progress F) : Type 0 where
  pub errand : IsErrand work.count progress.errand
  pub fits : Fits progress

-- The errand is the same, and there is no entry more.
pub record IsSameCount {F : Type 0} (old new : Progress F) : Type 0 where
  pub errand : new.errand ≡ old.errand
  pub left : new.left ≡ old.left
  pub through : new.through ≡ old.through

-- The actor is before any batch.
pub record IsNew {F : Type 0} (errand : Errand) (progress : Progress F) : Type 0 where
  pub errand_is : progress.errand ≡ errand
  pub left : progress.left ≡ errand.stop
  pub through : progress.through ≡ errand.at
  pub from : progress.from ≡ errand.at
  pub none : progress.flights.items ≡ []
  pub fits : Fits progress

-- The actor has this errand, and has made no entry.
pub record IsFirst {F : Type 0} (work : Workload F) (errand : Errand) (progress : Progress F) : Type 0 where
  pub errand_is : progress.errand ≡ errand
  pub fits : Fits progress
  pub holds : Holds (job_in work errand) (hand_first work.begins (offers_in (job_in work errand))) (reached progress)
