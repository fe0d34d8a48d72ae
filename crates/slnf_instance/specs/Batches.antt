-- A batch that is being taken.
use Rattle.std.specs.Prelude.{◌≡◌, ℕ, ◌+◌, ◌-◌, ◌≤◌, Option, List, [], ◌∷◌, ◌++◌, length}
use Rattle.std.specs.List.{range_with_len}
use Rattle.slnf_base.specs.declared.packets.Verdict.{Verdict}
use Rattle.slnf_access.specs.declared.requests.Key.{Key}
use Rattle.slnf_access.specs.Machines.{Stand}
use Rattle.slnf_batch.specs.Firsts.{keys_after}
use Rattle.slnf_run.specs.Jobs.{Job, first_in, joining}
use Rattle.slnf_run.specs.Verdicts.{verdict_at}
use Rattle.slnf_instance.specs.Works.{flight_at, flights_at}

-- how many items from this one on join a new batch
abbrev pub size_of : {F : Type 0} → Job F → ℕ → ℕ
size_of job from = joining job.batch (first_in job) 0 [] (range_with_len from (job.at + job.count - from))

-- how many of the items join that are behind a batch from this item on with these first keys
abbrev pub rest_of : {F : Type 0} → Job F → ℕ → List (Option Key) → ℕ
rest_of job from firsts =
    joining job.batch (first_in job) (length firsts) (keys_after [] firsts)
    (range_with_len (from + length firsts) (job.at + job.count - (from + length firsts)))

-- Items from this one on were taken into a batch, which has these flights and first keys, and others may join it.
pub record IsTaking {F : Type 0} (job : Job F) (from : ℕ) (flights : List (Option F)) (firsts : List (Option Key))
    : Type 0 where
  pub count : length flights ≡ length firsts
  pub flights_are : flights ≡ flights_at job.begins from (length firsts)
  pub few : length firsts ≤ job.batch
  pub inside : from + length firsts ≤ job.at + job.count
  pub joined : size_of job from ≡ length firsts + rest_of job from firsts

-- All items from this one on that join were taken.
pub record IsWhole {F : Type 0} (job : Job F) (from : ℕ) (flights : List (Option F)) : Type 0 where
  pub size : length flights ≡ size_of job from

-- One item more was taken, which begins with this verdict.
pub record HasTaken {F : Type 0} (begins : ℕ → Stand F) (from : ℕ) (old new : List (Option F)) (verdict : Verdict)
    : Type 0 where
  pub flights : new ≡ old ++ flight_at (begins (from + length old)) ∷ []
  pub verdict_is : verdict ≡ verdict_at (begins (from + length old))
