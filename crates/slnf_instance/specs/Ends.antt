-- How an actor ended, by its own entries.
use Rattle.std.specs.Prelude.{ℕ, ◌-◌, ◌==◌, Bool, false, if◌then◌else◌, Option, Some, None, List, length, map}
use Rattle.std.specs.List.{range_with_len}
use Rattle.slnf_base.specs.declared.packets.Verdict.{Verdict}
use Rattle.slnf_access.specs.declared.requests.Entry.{Entry}
use Rattle.slnf_access.specs.declared.requests.Ask.{Ask}
use Rattle.slnf_instance.specs.declared.endings.Ending.{Ending}
use Rattle.slnf_instance.specs.declared.endings.Ending.TheVariants.{Finished, Drained, Stopped}
use Rattle.slnf_instance.specs.declared.hands.Hand.{Hand}
use Rattle.slnf_instance.specs.Hands.{is_spent, ask_in}
use Rattle.slnf_run.specs.Jobs.{by_rounds, Job, is_stop, wanted_in, taken_in, verdict_in}

-- the quota is that many
abbrev pub is_quota : Option ℕ → ℕ → Bool
is_quota None count = false
is_quota (Some quota) count = quota == count

-- how an actor ended that has reached no stop and wants this: it still works, or it took its quota, or no items are
-- left
abbrev pub unstopped : Option Ask → Option ℕ → ℕ → Option Ending
unstopped (Some ask) quota count = None
unstopped None quota count = if is_quota quota count then Some Drained else Some Finished

-- how an actor with this job and quota ended after its own entries
abbrev pub ending_in : {F : Type 0} → Job F → Option ℕ → List Entry → Option Ending
ending_in job quota own =
    if is_stop job.stop (length own) then Some Stopped
    else unstopped (wanted_in by_rounds job own) quota (length (taken_in job own))

-- the verdicts of all that it took, from its first item on
abbrev pub verdicts_in : {F : Type 0} → Job F → List Entry → List Verdict
verdicts_in job own = map (verdict_in job own) (range_with_len job.at (length (taken_in job own)))

-- how a hand's actor ended
abbrev pub ending_of : {F : Type 0} → Hand F → Option Ending
ending_of hand =
    if is_spent hand.left then Some Stopped
    else unstopped (ask_in hand) hand.errand.quota (hand.errand.end - hand.errand.at)
