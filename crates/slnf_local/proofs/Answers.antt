-- The computed answer is the one of each list.
use Rattle.std.proofs.Common.{◌≡◌, ℕ, List, [], Option, Some, None, refl, subst}
use Rattle.slnf_access.specs.declared.requests.Entry.{Entry}
use Rattle.slnf_run.specs.Setting.{Setting}
use Rattle.slnf_run.specs.Run.{IsRun}
use Rattle.slnf_local.specs.declared.broken.Broken.{Broken}
use Rattle.slnf_local.specs.Rules.{IsOrderly, IsTrueReply, IsOrdered}
use Rattle.slnf_local.specs.Tells.{Tells}
use Rattle.slnf_local.specs.Tests.{is_orderly, is_true_reply, first_failing}
use Rattle.slnf_local.specs.Passes.{lapse, replied, ordered, first_broken}
use Rattle.slnf_local.proofs.First.{FirstBreak, break_at, failing_tells}
use Rattle.slnf_local.proofs.Testing.{orderly_decides, true_reply_decides}
use Rattle.slnf_local.proofs.Walks.{outcome_tells}
use Rattle.slnf_local.proofs.Telling.{ordered_of_grown, legal_of_grown, lapse_tells, tells_one}

replied_tells : {F A : Type 0} (s : Setting F A) (j : List Entry) (o : Option ℕ) → IsOrdered s.shards j →
    FirstBreak IsTrueReply [] j o → Tells s j (replied s j o)
replied_tells s j None ordered h = lapse_tells s j (lapse s j) ordered (legal_of_grown j h) (outcome_tells s j)
replied_tells s j (Some place) ordered h = (ordered, break_at IsTrueReply j place h)

ordered_tells : {F A : Type 0} (s : Setting F A) (j : List Entry) (o : Option ℕ) →
    FirstBreak (IsOrderly s.shards) [] j o → Tells s j (ordered s j o)
ordered_tells s j None h =
    replied_tells s j (first_failing is_true_reply 1 [] j) (ordered_of_grown s.shards j h)
    (failing_tells IsTrueReply is_true_reply true_reply_decides 1 [] j refl)
ordered_tells s j (Some place) h = break_at (IsOrderly s.shards) j place h

-- each list has an answer, which is computed
pub first_broken_tells : {F A : Type 0} (s : Setting F A) (j : List Entry) → Tells s j (first_broken s j)
first_broken_tells s j =
    ordered_tells s j (first_failing (is_orderly s.shards) 1 [] j)
    (failing_tells (IsOrderly s.shards) (is_orderly s.shards) (orderly_decides s.shards) 1 [] j refl)

-- and it is None exactly where the list is a run
pub run_of_none : {F A : Type 0} (s : Setting F A) (j : List Entry) → first_broken s j ≡ None → IsRun s j
run_of_none s j h = subst (Tells s j) h (first_broken_tells s j)

pub none_of_run : {F A : Type 0} (s : Setting F A) (j : List Entry) → IsRun s j → first_broken s j ≡ None
none_of_run s j run = tells_one s j (first_broken s j) None (first_broken_tells s j) run

pub one_answer : {F A : Type 0} (s : Setting F A) (j : List Entry) (answer : Option Broken) → Tells s j answer →
    answer ≡ first_broken s j
one_answer s j answer told = tells_one s j answer (first_broken s j) told (first_broken_tells s j)
