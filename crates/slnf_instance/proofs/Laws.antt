-- A setting that runs a job wants of the incarnation what the job wants after its own part.
use Rattle.std.proofs.Common.{◌≡◌, ℕ, List, [], ◌∷◌, ◌++◌, append-nil, Option, Some, length, map, refl, sym, ap, ap₂, ◌∙◌}
use Rattle.slnf_access.specs.declared.requests.Entry.{Entry}
use Rattle.slnf_access.specs.declared.requests.Ask.{Ask}
use Rattle.slnf_access.specs.Machines.{Stand}
use Rattle.slnf_run.specs.Setting.{Actor, Setting}
use Rattle.slnf_run.specs.Parts.{part_of, Post, taken_at}
use Rattle.slnf_run.specs.Scheduled.{Way, wanted, entry_after, with_access}
use Rattle.slnf_run.specs.Verdicts.{verdict_by}
use Rattle.slnf_run.proofs.Parting.{part_of-append, part_of-own, part_of-other}
use Rattle.slnf_instance.specs.Instances.{IsAnswer}
use Rattle.std.specs.List.{range_with_len}
use Rattle.std.proofs.Math.Path.{fun_ext}
use Rattle.slnf_base.specs.declared.packets.Verdict.{Verdict}
use Rattle.slnf_access.specs.declared.requests.Request.{Request}
use Rattle.slnf_access.specs.declared.requests.Reply.{Reply}
use Rattle.slnf_instance.specs.Settings.{IsRunAs}
use Rattle.slnf_instance.specs.Ends.{verdicts_in}
use Rattle.slnf_run.specs.Jobs.{by_rounds, Job, wanted_in, taken_in, verdict_in, job_of}

abbrev job_from : {F : Type 0} → (F → Request) → (F → Reply → Stand F) → (F → Option Verdict) → (ℕ → Stand F) → ℕ →
    ℕ → ℕ → ℕ → Option ℕ → Job F
job_from asks goes decided begins shards batch at count stop =
    record {
      machine = record { asks = asks; goes = goes; decided = decided };
      begins = begins;
      shards =
          shards;
      batch = batch;
      at = at;
      count = count;
      stop = stop;
    }

-- the setting's job is this one
pub same_job : {F A : Type 0} (s : Setting F A) (i place : ℕ) (actor : Actor) (job : Job F) →
    IsRunAs s i place actor job → job_of s i place actor ≡ job
same_job {F = F} s i place actor job r =
    let asks : (s.scene.machine i).asks ≡ job.machine.asks = fun_ext r.asked in
    let goes : (s.scene.machine i).goes ≡ job.machine.goes = fun_ext (λ flight. fun_ext (r.gone flight)) in
    let decided : (s.scene.machine i).decided ≡ job.machine.decided = fun_ext r.decided in
    let begins : s.scene.begins i ≡ job.begins = fun_ext r.begun in
    let old : Job F = job_of s i place actor in
    ap (λ x. job_from x old.machine.goes old.machine.decided old.begins old.shards old.batch old.at old.count
    old.stop) asks
    ∙ (ap (λ x. job_from job.machine.asks x old.machine.decided old.begins old.shards old.batch old.at old.count
    old.stop) goes
    ∙ (ap (λ x. job_from job.machine.asks job.machine.goes x old.begins old.shards old.batch old.at old.count
    old.stop) decided
    ∙ (ap (λ x. job_from job.machine.asks job.machine.goes job.machine.decided x old.shards old.batch old.at old.count
    old.stop) begins
    ∙ (ap (λ x. job_from job.machine.asks job.machine.goes job.machine.decided job.begins x old.batch old.at old.count
    old.stop) r.shards
    ∙ (ap (λ x. job_from job.machine.asks job.machine.goes job.machine.decided job.begins job.shards x old.at
    old.count old.stop) r.batch
    ∙ (ap (λ x. job_from job.machine.asks job.machine.goes job.machine.decided job.begins job.shards job.batch x
    old.count old.stop) r.at
    ∙ (ap (λ x. job_from job.machine.asks job.machine.goes job.machine.decided job.begins job.shards job.batch job.at
    x old.stop) r.count
    ∙ ap (λ x. job_from job.machine.asks job.machine.goes job.machine.decided job.begins job.shards job.batch job.at
    job.count x) r.stop)))))))

-- the access that the setting wants of the actor
pub wanted_run : {F A : Type 0} (s : Setting F A) (es : List Entry) (i place : ℕ) (actor : Actor) (job : Job F) →
    IsRunAs s i place actor job → wanted s by_rounds es i place actor ≡ wanted_in by_rounds job (part_of i es)
wanted_run s es i place actor job r = ap (λ j. wanted_in by_rounds j (part_of i es)) (same_job s i place actor job r)

-- what it took there
pub taken_run : {F A : Type 0} (s : Setting F A) (es : List Entry) (i : ℕ) (post : Post) (job : Job F) →
    IsRunAs s i post.at post.actor job → taken_at s es i post ≡ taken_in job (part_of i es)
taken_run s es i post job r = ap (λ j. taken_in j (part_of i es)) (same_job s i post.at post.actor job r)

map_same : {X Y : Type 0} (f g : X → Y) (xs : List X) → ((x : X) → f x ≡ g x) → map f xs ≡ map g xs
map_same f g [] h = refl
map_same f g (x ∷ xs) h = ap₂ (λ y ys. y ∷ ys) (h x) (map_same f g xs h)

-- and their verdicts there
pub verdicts_run : {F A : Type 0} (s : Setting F A) (es : List Entry) (i : ℕ) (post : Post) (job : Job F) →
    IsRunAs s i post.at post.actor job →
    verdicts_in job (part_of i es) ≡ map (verdict_by s es i post)
    (range_with_len job.at (length (taken_at s es i post)))
verdicts_run s es i post job r =
    ap (λ os. map (verdict_in job (part_of i es)) (range_with_len job.at (length os)))
    (sym (taken_run s es i post job r))
    ∙ map_same (verdict_in job (part_of i es)) (verdict_by s es i post)
    (range_with_len job.at (length (taken_at s es i post)))
    (λ number. sym (ap (λ j. verdict_in j (part_of i es) number) (same_job s i post.at post.actor job r)))

-- One access of the schedule: the entry that it makes answers what is wanted, and is the next of the incarnation's
-- part.
pub record IsTurn {F A : Type 0} (s : Setting F A) (way : Way) (es : List Entry) (i : ℕ) (ask : Ask)
    (reply : Reply) : Type 0 where
  pub answers : IsAnswer (Some ask) reply (entry_after s way es i ask)
  pub part : part_of i (with_access s way es i (Some ask)) ≡ part_of i es ++ entry_after s way es i ask ∷ []

pub turn_is : {F A : Type 0} (s : Setting F A) (way : Way) (es : List Entry) (i : ℕ) (ask : Ask) →
    IsTurn s way es i ask (entry_after s way es i ask).reply
turn_is s way es i ask = record {
  answers = (refl, refl, refl);
  part = part_of-append i es (entry_after s way es i ask ∷ [])
      ∙ ap (λ l. part_of i es ++ l) (part_of-own i (entry_after s way es i ask) [] refl);
}

-- an entry of another incarnation leaves an actor where it stands
pub part_same : (i : ℕ) (es : List Entry) (e : Entry) → (e.incarnation ≡ i → ⊥) →
    part_of i (es ++ e ∷ []) ≡ part_of i es
part_same i es e n =
    part_of-append i es (e ∷ []) ∙ (ap (λ l. part_of i es ++ l) (part_of-other i e [] n) ∙ append-nil (part_of i es))
