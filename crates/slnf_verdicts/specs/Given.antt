-- The verdicts that the actors of a run give to one lane's packets, epoch by epoch.
use Rattle.std.specs.Prelude.{ℕ, ◌+◌, if◌then◌else◌, Option, Some, None, List, [], ◌∷◌, ◌++◌, length, map, slice_get}
use Rattle.std.specs.List.{range_with_len}
use Rattle.slnf_base.specs.declared.packets.Verdict.{Verdict}
use Rattle.slnf_base.specs.declared.packets.Verdict.TheVariants.{Left}
use Rattle.slnf_access.specs.declared.requests.Entry.{Entry}
use Rattle.slnf_run.specs.Jobs.{Job, verdict_in, taken_in, job_of}
use Rattle.slnf_run.specs.Setting.{Actor, Era, Setting, is_on}

-- the verdicts of all that an actor took, by its own entries, from its first packet on
abbrev pub verdicts_in : {F : Type 0} → Job F → List Entry → List Verdict
verdicts_in job own = map (verdict_in job own) (range_with_len job.at (length (taken_in job own)))

-- what these actors of an epoch, the first of which is this incarnation, gave to a lane's packets from `at` on, each
-- incarnation by its own entries
abbrev pub given_in : {F A : Type 0} → Setting F A → (ℕ → List Entry) → ℕ → ℕ → ℕ → List Actor → List Verdict
given_in s parts lane at incarnation [] = []
given_in s parts lane at incarnation (actor ∷ actors) =
    (if is_on lane actor then verdicts_in (job_of s incarnation at actor) (parts incarnation) else [])
    ++ given_in s parts lane at (incarnation + 1) actors

-- what the actors of these epochs gave, the first of which has this first incarnation
abbrev pub given_from : {F A : Type 0} → Setting F A → (ℕ → List Entry) → ℕ → ℕ → ℕ → List Era → List Verdict
given_from s parts lane at base [] = []
given_from s parts lane at base (era ∷ eras) =
    given_in s parts lane at base era.actors
    ++ given_from s parts lane (at + length (given_in s parts lane at base era.actors))
    (base + length era.actors) eras

-- a verdict, where there is one; a packet that nobody took is left
abbrev pub or_left : Option Verdict → Verdict
or_left None = Left
or_left (Some verdict) = verdict

-- the verdicts of a lane with so many packets, the first of which have these
abbrev pub filled : List Verdict → ℕ → List Verdict
filled given count = map (λ number. or_left (slice_get given number)) (range_with_len 0 count)
