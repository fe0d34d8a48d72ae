-- What an actor does, as the code keeps it, and how many packets are in the batches up to one of them.
use Rattle.std.specs.Prelude.{ℕ, ◌+◌, ◌-◌, not, ◌&&◌, nat_lt, nat_le, if◌then◌else◌, Option, List, [], ◌∷◌}
use Rattle.slnf_access.specs.Machines.{Machine, Stand}
use Rattle.slnf_run.specs.Jobs.{Job, is_among, with_key}
use Rattle.slnf_verdicts.specs.declared.tasks.Task.{Task}

-- The job of a task, over items with this machine that begin so. Which shards keys have tells nothing of verdicts.
abbrev pub job_over : {F : Type 0} → Machine F → (ℕ → Stand F) → Task → Job F
job_over machine begun task = record {
  machine = machine;
  begins = begun;
  shards = 1;
  batch = task.batch;
  at = task.at;
  count = task.count;
  stop = task.stop;
}

-- The number among so many from `at` on; another number counts as the first.
abbrev pub number_in : ℕ → ℕ → ℕ → ℕ
number_in at count item = if nat_le at item && nat_lt (item - at) count then item else at

-- How many of these items are in batches up to that of the item `last`. The batch in hand has `size` items and the
-- first keys `keys`.
abbrev pub batch_end : ℕ → (ℕ → Option ℕ) → ℕ → ℕ → List ℕ → List ℕ → ℕ
batch_end limit first last size keys [] = 0
batch_end limit first last size keys (item ∷ items) =
    if nat_lt size limit && not (is_among (first item) keys)
    then batch_end limit first last (size + 1) (with_key (first item) keys) items + 1
    else if nat_lt last item
    then 0
    else batch_end limit first last 1 (with_key (first item) []) items + 1
