-- How an actor's epoch ended.
use Rattle.std.specs.Prelude.{◌≡◌, ◌≢◌, ◌⊎◌, ℕ, ◌-◌, ◌^◌, ◌<◌, ◌≤◌, Option, Some, None, Result, List, [], ◌++◌, MatchResult}
use Rattle.slnf_access.specs.declared.requests.Entry.{Entry}
use Rattle.slnf_bucket.specs.Bucket.{last_stamp}
use Rattle.slnf_bucket.specs.declared.errors.BucketError.{BucketError}
use Rattle.slnf_bucket.specs.declared.errors.BucketError.TheVariants.{StampsSpent}
use Rattle.slnf_turns.specs.Passes.{KeepsKin}
use Rattle.slnf_store.specs.declared.stores.Store.{Store}
use Rattle.slnf_store.specs.Passes.{PassState, own_entries, last_seen}
use Rattle.slnf_store.specs.Stores.{IsOf, shards_of}
use Rattle.slnf_run.specs.Jobs.{Job, by_rounds, wanted_in}
use Rattle.slnf_instance.specs.declared.endings.Work.{Work}
use Rattle.slnf_instance.specs.declared.errands.Errand.{Errand}
use Rattle.slnf_instance.specs.Ends.{ending_in, verdicts_in}
use Rattle.slnf_instance.specs.Errands.{job_in}
use Rattle.slnf_instance.specs.Items.{Workload}
use Rattle.slnf_instance.specs.Instances.{Acting, StandsBy}
use Rattle.slnf_threads.specs.Worked.{IsWorked}

-- the job of an actor, by its items and its errand
abbrev pub job_by : {G F : Type 0} → (G → Workload F) → Acting G F → Job F
job_by work i = job_in (work i.items) i.errand

-- The actor has ended after these entries of its own, and did this.
pub record IsWorkOf {F : Type 0} (job : Job F) (quota : Option ℕ) (own : List Entry) (work : Work) : Type 0 where
  pub none : wanted_in by_rounds job own ≡ None
  pub ending : Some work.ending ≡ ending_in job quota own
  pub verdicts : work.verdicts.items ≡ verdicts_in job own

-- the pass keeps a stamp of at least 2^62 - 32, as its clock or as the last that it saw in one of so many shards
abbrev pub KeepsLateStamp : ℕ → PassState → Type 0
KeepsLateStamp shards pass =
    (2 ^ 62 - 32 ≤ pass.clock)
    ⊎ ((shard : ℕ) × (shard < shards) × (2 ^ 62 - 32 ≤ last_stamp 0 (last_seen shard pass)))

-- stamps are spent only where the last of them is reached, and then the pass keeps a late one
abbrev pub IsRefused : ℕ → PassState → BucketError → Type 0
IsRefused shards pass refusal =
    (last : ℕ) → refusal ≡ StampsSpent last → (last ≡ 2 ^ 62 - 1) × KeepsLateStamp shards pass

-- An actor stands before its first access, on this errand, with a pass of the store that made none.
pub record IsReady {G F : Type 0} (work : G → Workload F) (store : Store) (i : Acting G F) (errand : Errand)
    (pass : PassState) : Type 0 where
  pub here : IsOf store pass
  pub split : pass.known.number ≢ 0
  pub first : own_entries pass ≡ []
  pub sent : i.errand ≡ errand
  pub some : 0 < errand.shards
  pub shards : errand.shards ≡ shards_of store
  pub stands : StandsBy work (job_by work i) [] i

-- The actor went on from one moment to another, and its pass gained these entries.
pub record Gains {G F : Type 0} (work : G → Workload F) (old new : Acting G F) (before after : PassState)
    (more : List Entry) : Type 0 where
  pub errand : new.errand ≡ old.errand
  pub own : own_entries after ≡ own_entries before ++ more
  pub worked : IsWorked (job_by work old) (own_entries before) more
  pub stands : StandsBy work (job_by work old) (own_entries after) new
  pub kin : KeepsKin before.known after.known
  -- the pass's clock is the last of its stamps
  pub clock : after.clock ≡ last_stamp before.clock more

-- What became of an actor and its pass: an instance of this actor stands after the entries that the pass got, each of
-- which is the access that was wanted after those before it. Where no access was refused the actor has ended.
pub record IsReport {G F : Type 0} (work : G → Workload F) (store : Store) (i : Acting G F) (before after : PassState)
    (outcome : Result Work BucketError) : Type 0 where
  pub here : IsOf store after
  pub kin : KeepsKin before.known after.known
  pub clock : after.clock ≡ last_stamp before.clock (own_entries after)
  pub worked : IsWorked (job_by work i) [] (own_entries after)
  pub stands : (last : Acting G F) × StandsBy work (job_by work i) (own_entries after) last
  pub ended : MatchResult outcome (λ done. IsWorkOf (job_by work i) i.errand.quota (own_entries after) done)
      (λ refusal. IsRefused (shards_of store) after refusal)
