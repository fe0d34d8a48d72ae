-- What `run` may leave: each run by the schedule is one in any order, and the words of both, computed.
use Rattle.std.proofs.Common.{◌≡◌, Some, None, List, [], ◌∷◌, codes, refl}
use Rattle.slnf_plan.specs.declared.plan.Plan.{Plan}
use Rattle.slnf_access.specs.declared.requests.Entry.{Entry}
use Rattle.slnf_flight.specs.declared.lanes.Lane.{Lane}
use Rattle.slnf_top.specs.declared.statuses.Status.{Status}
use Rattle.slnf_top.specs.Words.{PlanWords, Run, Step, command_of, plain_command_of}
use Rattle.slnf_top.specs.Reached.{Holds}
use Rattle.slnf_top.specs.Checked.{named_source}
use Rattle.slnf_top.specs.Inputs.{Source}
use Rattle.slnf_top.specs.Written.{BySchedule, SideBySide, IsExplained, Ran, WroteAll}

-- a journal of the schedule is one of some order
explained_so : (plan : Plan) (lanes : List Lane) (journal : List Entry) → IsExplained BySchedule plan lanes journal →
    IsExplained SideBySide plan lanes journal
explained_so plan lanes journal e = record { in_order = e.in_order.1; is_run = e.is_run; sized = e.sized }

ran_so : (source : Source) → Ran BySchedule source → Ran SideBySide source
ran_so source ran = record {
  plan = ran.plan;
  given = ran.given;
  lanes = ran.lanes;
  works_on = ran.works_on;
  journal = ran.journal;
  explained = explained_so ran.plan ran.lanes ran.journal ran.explained;
}

-- what `step` leaves, `run` may leave
pub step_is_a_run : (words : PlanWords) (ended : Status) (held holds : Holds) → WroteAll (Step words) ended held holds →
    WroteAll (Run words) ended held holds
unfolding ran_so
step_is_a_run words ended held holds wrote = record {
  ran = ran_so (named_source words held) wrote.ran;
  hold_files = wrote.hold_files;
  ends = wrote.ends;
}

-- `run p o i` is a command, and none where `run` isn't one, and neither is `run p o`
abbrev some_words : PlanWords
some_words = record { plan = codes "p"; out = codes "o"; captures = codes "i" ∷ [] }

pub run_is_one : command_of (codes "run" ∷ codes "p" ∷ codes "o" ∷ codes "i" ∷ []) ≡ Some (Run some_words)
run_is_one = refl

pub run_is_none : plain_command_of (codes "run" ∷ codes "p" ∷ codes "o" ∷ codes "i" ∷ []) ≡ None
run_is_none = refl

pub both_step : command_of (codes "step" ∷ codes "p" ∷ codes "o" ∷ codes "i" ∷ [])
    ≡ plain_command_of (codes "step" ∷ codes "p" ∷ codes "o" ∷ codes "i" ∷ [])
both_step = refl

pub run_needs_captures : command_of (codes "run" ∷ codes "p" ∷ codes "o" ∷ []) ≡ None
run_needs_captures = refl
