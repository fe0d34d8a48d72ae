-- What the files hold after a run, and what explains them.
use Rattle.std.specs.Prelude.{◌≡◌, ◌==◌, ◌*◌, ℕ, if◌then◌else◌, Some, List, length, map}
use Rattle.slnf_access.specs.declared.requests.Entry.{Entry}
use Rattle.slnf_base.specs.declared.packets.Verdict.{Verdict}
use Rattle.slnf_plan.specs.declared.plan.Plan.{Plan}
use Rattle.slnf_plan.specs.Plain.{plain}
use Rattle.slnf_gen.specs.Plan.{plan_text, plan_told}
use Rattle.slnf_gen.specs.Captures.{captures_of}
use Rattle.slnf_run.specs.Scheduled.{IsScheduled, usual_way}
use Rattle.slnf_run.specs.Stamps.{HasClockStamps}
use Rattle.slnf_run.specs.Verdicts.{verdicts_of, left_in}
use Rattle.slnf_flight.specs.declared.lanes.Lane.{Lane}
use Rattle.slnf_flight.specs.declared.outcomes.Outcome.{Outcome}
use Rattle.slnf_flight.specs.Actors.{eras_of}
use Rattle.slnf_flight.specs.Lanes.{lane_sizes, packet_count}
use Rattle.slnf_flight.specs.PlanSetting.{setting_of}
use Rattle.slnf_setting.specs.Runs.{IsRunOfPlan}
use Rattle.slnf_shelf.specs.Shelf.{Faults}
use Rattle.slnf_top.specs.declared.statuses.Status.{Status}
use Rattle.slnf_top.specs.declared.statuses.Status.TheVariants as status
use Rattle.slnf_check.specs.declared.given.Given.{Given}
use Rattle.slnf_top.specs.declared.loads.LoadInputs.{LoadInputs}
use Rattle.slnf_top.specs.declared.steps.Run.{Run as RunFiles}
use Rattle.slnf_top.specs.declared.outputs.File.{File}
use Rattle.slnf_top.specs.Words.{PlanWords, LoadWords, Command, Run, Step, Check, Box, Load}
use Rattle.slnf_top.specs.Reached.{Holds}
use Rattle.slnf_top.specs.Inputs.{Source, WorksOn, IsPlanOf, AreLanesOf}
use Rattle.slnf_top.specs.Checked.{named_source, IsCheck, IsBox, Names, IsBroken, IsBrokenJournal, HoldsAccepted, HoldsLines, StopsAccepted, StopsLines}
use Rattle.slnf_top.specs.Files.{Texts, files_of, summary_alone, HoldFiles, StoppedAt}

-- the verdicts of a journal
abbrev pub verdicts_in : Plan → List Lane → List Entry → List (List Verdict)
verdicts_in plan lanes journal = verdicts_of (setting_of plan lanes) journal

-- How the actors of a run take turns: by the plan's schedule, or side by side in any order.
pub data Order : Type 0 where
  BySchedule : Order
  SideBySide : Order

-- The journal is one that actors make who take turns so: that of the plan's schedule, with the stamps of its clocks, or
-- any with such stamps.
abbrev pub IsInOrder : Order → Plan → List Lane → List Entry → Type 0
IsInOrder BySchedule plan lanes journal =
    IsScheduled (setting_of plan lanes) (usual_way (eras_of plan.epochs)) journal
    × HasClockStamps (setting_of plan lanes) journal
IsInOrder SideBySide plan lanes journal = HasClockStamps (setting_of plan lanes) journal

-- The journal is in this order, and a run of the plan over the lanes, which one ordinary box explains; and each lane has
-- as many verdicts as packets.
pub record IsExplained (order : Order) (plan : Plan) (lanes : List Lane) (journal : List Entry) : Type 0 where
  pub in_order : IsInOrder order plan lanes journal
  pub is_run : IsRunOfPlan plan lanes journal
  pub sized : map (λ (verdicts : List Verdict). length verdicts) (verdicts_in plan lanes journal) ≡ lane_sizes lanes

-- The outcome is such a journal, with its verdicts and the number of packets that are left.
pub record IsOutcome (order : Order) (plan : Plan) (lanes : List Lane) (outcome : Outcome) : Type 0 where
  pub explained : IsExplained order plan lanes outcome.journal
  pub verdicts : outcome.verdicts ≡ verdicts_in plan lanes outcome.journal
  pub left : outcome.left ≡ left_in outcome.verdicts

-- The files are those of such a journal, which leaves so many packets.
pub record IsRunOf (order : Order) (texts : Texts) (plan : Plan) (given : List Given) (lanes : List Lane)
    (run : RunFiles) : Type 0 where
  pub journal : List Entry
  pub explained : IsExplained order plan lanes journal
  pub files : run.files ≡ texts given (verdicts_in plan lanes journal) journal
  pub left : run.left ≡ left_in (verdicts_in plan lanes journal)

-- how a run ends that leaves so many packets
abbrev pub status_of : ℕ → Status
status_of left = if left == 0 then status.Ok else status.Left

-- A run of the plan and the captures of these bytes, in this order.
pub record Ran (order : Order) (source : Source) : Type 0 where
  pub plan : Plan
  pub given : List Given
  pub lanes : List Lane
  pub works_on : WorksOn source plan given lanes
  pub journal : List Entry
  pub explained : IsExplained order plan lanes journal

-- the files that it writes
abbrev pub files_by : (order : Order) (texts : Texts) (source : Source) → Ran order source → List File
files_by order texts source ran = texts ran.given (verdicts_in ran.plan ran.lanes ran.journal) ran.journal

-- how many packets it leaves
abbrev pub left_by : (order : Order) (source : Source) → Ran order source → ℕ
left_by order source ran = left_in (verdicts_in ran.plan ran.lanes ran.journal)

-- The files are those of a run, which leaves so many packets.
pub record IsRunFrom (order : Order) (texts : Texts) (source : Source) (run : RunFiles) : Type 0 where
  pub ran : Ran order source
  pub files : run.files ≡ files_by order texts source ran
  pub left : run.left ≡ left_by order source ran

-- The files hold the texts of a run, and the command ended with Ok where it leaves no packet, and with Left where it
-- leaves some. `held` is what the names held before, and `holds` what they hold now.
pub record IsWritten (order : Order) (texts : Texts) (source : Source) (ended : Status) (held holds : Holds)
    : Type 0 where
  pub ran : Ran order source
  pub hold_files : HoldFiles (files_by order texts source ran) held holds
  pub ends : ended ≡ status_of (left_by order source ran)

-- The writing of the texts of a run stopped at one of its files: those before it stand whole, it holds a front of its
-- text or, where its begin met a fault, what it held before, and those behind it hold what they held.
pub record IsStopped (order : Order) (texts : Texts) (source : Source) (before now : Faults) (held holds : Holds)
    : Type 0 where
  pub ran : Ran order source
  pub stopped : StoppedAt (files_by order texts source ran) before now held holds

-- `load` works on the plan and the captures of its number
abbrev pub load_source : LoadWords → Source
load_source words = record {
  plan = Some (plan_text words.lanes);
  captures = map Some (captures_of words.number words.lanes words.packets);
}

-- A load's plan, and the lanes of its captures, with as many packets as its words say.
pub record IsLoad (words : LoadWords) (load : LoadInputs) : Type 0 where
  pub is_plan : IsPlanOf load.plan (plan_text words.lanes)
  pub told : plain load.plan ≡ plan_told words.lanes
  pub lanes : AreLanesOf (captures_of words.number words.lanes words.packets) load.lanes
  pub packets : packet_count load.lanes ≡ words.lanes * words.packets

-- the command that runs a plan in this order
abbrev pub run_in : Order → PlanWords → Command
run_in BySchedule words = Step words
run_in SideBySide words = Run words

-- What the files hold after a command that did all. `run` and `step` write the texts of their runs, and `load` the
-- summary alone, and leaves no packet. `check` and `box` end with Ok, and write what they found.
abbrev pub WroteAll : Command → Status → Holds → Holds → Type 0
WroteAll (Run words) ended held holds =
    IsWritten SideBySide (files_of words.out) (named_source words held) ended held holds
WroteAll (Step words) ended held holds =
    IsWritten BySchedule (files_of words.out) (named_source words held) ended held holds
WroteAll (Check words) ended held holds = (ended ≡ status.Ok) × HoldsAccepted words held holds
WroteAll (Box words) ended held holds = (ended ≡ status.Ok) × HoldsLines words held holds
WroteAll (Load words) ended held holds =
    (ended ≡ status.Ok) × IsWritten BySchedule summary_alone (load_source words) ended held holds

-- and after one whose writing met a fault
abbrev pub WroteFront : Command → Faults → Faults → Holds → Holds → Type 0
WroteFront (Run words) before now held holds =
    IsStopped SideBySide (files_of words.out) (named_source words held) before now held holds
WroteFront (Step words) before now held holds =
    IsStopped BySchedule (files_of words.out) (named_source words held) before now held holds
WroteFront (Check words) before now held holds = StopsAccepted words before now held holds
WroteFront (Box words) before now held holds = StopsLines words before now held holds
WroteFront (Load words) before now held holds =
    IsStopped BySchedule summary_alone (load_source words) before now held holds

-- What is so when a rule is broken: `check` names the first of all rules that the files break, and `box` the first that
-- the journal breaks. The other commands name none.
abbrev pub WasBroken : Command → Status → Holds → Type 0
WasBroken (Run words) ended held = ⊥
WasBroken (Step words) ended held = ⊥
WasBroken (Check words) ended held = Names (IsBroken words held) ended
WasBroken (Box words) ended held = Names (IsBrokenJournal words held) ended
WasBroken (Load words) ended held = ⊥

-- what `check` and `box` answered is exact
abbrev pub IsExact : Command → Status → Holds → Type 0
IsExact (Run words) ended held = Unit {0}
IsExact (Step words) ended held = Unit {0}
IsExact (Check words) ended held = IsCheck words held ended
IsExact (Box words) ended held = IsBox words held ended
IsExact (Load words) ended held = Unit {0}
