-- The stamps of a journal by the clocks of its shards and actors.
use Rattle.std.proofs.Common.{ℕ, ◌+◌, List, [], ◌∷◌, ◌++◌, ap, ◌∙◌, subst}
use Rattle.slnf_access.specs.declared.requests.Entry.{Entry}
use Rattle.slnf_run.specs.Setting.{Setting, era_of}
use Rattle.slnf_run.specs.Scheduled.{usual_way, IsScheduled}
use Rattle.slnf_run.specs.Made.{Grown, IsMade}
use Rattle.slnf_run.proofs.Growth.{grown_at}
use Rattle.slnf_run.proofs.OrderAgain.{grown_of_splits}
use Rattle.slnf_run.proofs.Clocks.{stamp_by_clock}
use Rattle.slnf_run.proofs.Scheduling.{scheduled_made}
use Rattle.slnf_run.specs.Stamps.{HasClockStamp, HasClockStamps}
use Rattle.slnf_run.proofs.Stamps.{laid_of_made}

front : (Q : List Entry → Entry → Type 0) (es before later : List Entry) → Grown Q es (before ++ later) →
    Grown Q es before
front Q es [] later h = tt
front Q es (e ∷ before) later h = (h.0, front Q (es ++ e ∷ []) before later h.1)

pub clocked : (epoch : ℕ → ℕ) (shards : ℕ) (j : List Entry) → Grown (IsMade epoch shards) [] j →
    Grown (HasClockStamp epoch) [] j
clocked epoch shards j made =
    grown_of_splits (HasClockStamp epoch) [] j (λ before later e split.
    let own : Grown (IsMade epoch shards) [] (before ++ e ∷ later) =
    subst (Grown (IsMade epoch shards) []) split made in
    (grown_at (IsMade epoch shards) [] before later e own).stamp
    ∙ ap (λ n. n + 1) (stamp_by_clock epoch shards before e.incarnation e.shard
    (laid_of_made epoch shards [] before (front (IsMade epoch shards) [] before (e ∷ later) own))))

pub scheduled_clocked : {F A : Type 0} (s : Setting F A) (j : List Entry) → IsScheduled s (usual_way s.eras) j →
    HasClockStamps s j
scheduled_clocked s j h = clocked (era_of s.eras) s.shards j (scheduled_made s j h)
