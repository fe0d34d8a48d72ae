-- A setting runs a job.
use Rattle.std.specs.Prelude.{◌≡◌, ℕ}
use Rattle.slnf_access.specs.declared.requests.Reply.{Reply}
use Rattle.slnf_run.specs.Setting.{Actor, Setting}
use Rattle.slnf_run.specs.Jobs.{Job, job_of}

-- The setting runs this job as the incarnation's, by this actor from this place of its lane on.
pub record IsRunAs {F A : Type 0} (s : Setting F A) (incarnation place : ℕ) (actor : Actor) (job : Job F)
    : Type 0 where
  pub asked : (flight : F) → (s.scene.machine incarnation).asks flight ≡ job.machine.asks flight
  pub gone : (flight : F) (reply : Reply) →
      (s.scene.machine incarnation).goes flight reply ≡ job.machine.goes flight reply
  pub decided : (flight : F) → (s.scene.machine incarnation).decided flight ≡ job.machine.decided flight
  pub begun : (item : ℕ) → s.scene.begins incarnation item ≡ job.begins item
  pub shards : s.shards ≡ job.shards
  pub batch : (job_of s incarnation place actor).batch ≡ job.batch
  pub at : (job_of s incarnation place actor).at ≡ job.at
  pub count : (job_of s incarnation place actor).count ≡ job.count
  pub stop : actor.stop ≡ job.stop
