-- What an actor is sent to do, as a job.
use Rattle.std.specs.Prelude.{◌≡◌, ℕ, ◌+◌, ◌-◌, ◌^◌, ◌<◌, ◌≤◌}
use Rattle.slnf_run.specs.Jobs.{Job, within_quota}
use Rattle.slnf_instance.specs.declared.errands.Errand.{Errand}
use Rattle.slnf_instance.specs.Items.{Workload}

-- the job of an errand over these items
abbrev pub job_in : {F : Type 0} → Workload F → Errand → Job F
job_in work errand = record {
  machine = work.machine;
  begins = work.begins;
  shards = errand.shards;
  batch = errand.batch;
  at = errand.at;
  count = errand.end - errand.at;
  stop = errand.stop;
}

-- The errand is one over so many items: it ends where they or its quota end.
pub record IsErrand (count : ℕ) (errand : Errand) : Type 0 where
  pub few : count < 2 ^ 32
  pub batch : 0 < errand.batch
  pub most : errand.batch ≤ 32
  pub shards : 0 < errand.shards
  pub inside : errand.end ≤ count
  pub end : errand.end ≡ errand.at + within_quota errand.quota (count - errand.at)
