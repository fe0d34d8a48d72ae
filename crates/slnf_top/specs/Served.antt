-- What `top` and `top_plain` promise.
use Rattle.std.specs.Prelude.{◌≡◌, ◌≢◌, ◌↔◌, ℕ, Option, None, Some, List}
use Rattle.slnf_pcap.specs.declared.errors.PcapError.TheVariants.{NoMemory as PcapNoMemory}
use Rattle.slnf_plan.specs.declared.error.PlanError.TheVariants.{NoMemory as PlanNoMemory}
use Rattle.slnf_shelf.specs.Shelf.{Faults, Moves, SameFiles}
use Rattle.slnf_top.specs.declared.statuses.Status.{Status}
use Rattle.slnf_top.specs.declared.statuses.Status.TheVariants as status
use Rattle.slnf_top.specs.Words.{Command}
use Rattle.slnf_top.specs.Kinds.{Whole, Refusing, Broken, kind_of, HasRead, MayWrite, HasJudged}
use Rattle.slnf_top.specs.Readings.{inputs_of, no_tally, plan_reading, first_refusal}
use Rattle.slnf_top.specs.Reached.{Holds, IsUnread, IsRefused, AllPassed, IsPlanOfCommand, FollowsPlan}
use Rattle.slnf_top.specs.Effects.{input_names, IsOutput, Reads, Calls, WriteRose, NoCalls}
use Rattle.slnf_top.specs.Inputs.{AreHeld}
use Rattle.slnf_top.specs.Written.{WroteAll, WroteFront, WasBroken, IsExact}
use Rattle.slnf_top.specs.Outcome.{IsComplete}

-- What is so when a call has ended whose words ask for this command, or are of no form. `before` and `now` are the counts
-- of faults, `held` is what the names held before, and `holds` what they hold now.
pub record IsServed (asked : Option Command) (ended : Status) (before now : Faults) (held holds : Holds) : Type 0 where
  -- The words are of no form.
  pub usage : (ended ≡ status.Usage) ↔ (asked ≡ None)
  pub usage_stays : ended ≡ status.Usage → Moves NoCalls before now × SameFiles held holds
  -- Which files are read and written, and which faults there were.
  pub counts : (command : Command) → asked ≡ Some command → Moves (Calls command) before now
  pub others : (command : Command) → asked ≡ Some command →
      (name : List ℕ) → ¬ IsOutput command name → holds name ≡ held name
  pub read_fault : (command : Command) → asked ≡ Some command → ended ≡ status.ReadFault →
      IsUnread held (inputs_of command) before now
  pub write_fault : (command : Command) → asked ≡ Some command → ended ≡ status.WriteFault →
      WriteRose command before now
  pub no_fault : ended ≢ status.ReadFault → ended ≢ status.WriteFault → now ≡ before
  -- Before the writing nothing is begun.
  pub nothing_begun : (command : Command) → asked ≡ Some command → ¬ MayWrite (kind_of ended) →
      Moves (Reads command) before now × SameFiles held holds
  -- A refusal is that of the first input, in order, that is refused: each one before it passed.
  pub reached : (command : Command) → asked ≡ Some command → kind_of ended ≡ Refusing →
      IsRefused held (inputs_of command) ended
  -- What is refused for a plan follows from the plan's bytes alone.
  pub plan_refused : (command : Command) → asked ≡ Some command →
      (plan bytes : List ℕ) → IsPlanOfCommand command plan → held plan ≡ Some bytes →
      FollowsPlan ended (plan_reading bytes)
  -- Where the shelf tells all inputs, a refusal is the first that their bytes give.
  pub first_refused : (command : Command) (bytes : List (List ℕ)) → asked ≡ Some command →
      AreHeld held (input_names command) bytes → kind_of ended ≡ Refusing →
      first_refusal (inputs_of command) no_tally bytes ≡ Some ended
  -- No refusal carries want of memory.
  pub no_inner_memory : (ended ≢ status.PlanBad PlanNoMemory)
      × ((lane : ℕ) → ended ≢ status.CaptureBad lane PcapNoMemory)
  -- A rule is named by `check` and `box` alone: it is the first that the files break, with its least place.
  pub broken : (command : Command) → asked ≡ Some command → kind_of ended ≡ Broken → WasBroken command ended held
  -- `check` and `box` end with Ok exactly where the files are those of a run, and with Refused exactly for the first
  -- rule that they break.
  pub exactly : (command : Command) → asked ≡ Some command → HasJudged (kind_of ended) → IsExact command ended held
  -- After Ok, Left, Refused and WriteFault each input passed.
  pub passed : (command : Command) → asked ≡ Some command → HasRead (kind_of ended) →
      AllPassed held (inputs_of command)
  -- Where the inputs give no refusal and no call met a fault, the command does all or names a rule, unless memory is
  -- wanting.
  pub answered : (command : Command) (bytes : List (List ℕ)) → asked ≡ Some command →
      AreHeld held (input_names command) bytes → first_refusal (inputs_of command) no_tally bytes ≡ None →
      now ≡ before → IsComplete command ended
  -- After Ok and Left the files hold the texts of a run, which one ordinary box explains: Ok where it leaves no
  -- packet, and Left where it leaves some. `load` ends with Ok. After Ok of `check` the files that it read are those of
  -- a run, and after Ok of `box` the journal is, and `-` holds the box's answers.
  pub written : (command : Command) → asked ≡ Some command → kind_of ended ≡ Whole →
      WroteAll command ended held holds
  -- After WriteFault the files before the one with the fault hold the texts of such a run, it holds a front of its
  -- text or what it held, and those behind it hold what they held.
  pub stopped : (command : Command) → asked ≡ Some command → ended ≡ status.WriteFault →
      WroteFront command before now held holds
