-- How `run` and `step` ended, by what was read and written.
use Rattle.std.proofs.Common.{◌≡◌, ℕ, ◌≤◌, List, [], ◌∷◌, length, map, refl, ap, sym, subst, arith}
use Rattle.slnf_shelf.specs.Shelf.{Faults, Moves, SameFiles}
use Rattle.slnf_flight.specs.declared.lanes.Lane.{Lane}
use Rattle.slnf_flight.specs.declared.outcomes.Outcome.{Outcome}
use Rattle.slnf_check.specs.declared.given.Given.{Given}
use Rattle.slnf_check.specs.Given.{AreRead, AreSized}
use Rattle.slnf_top.specs.declared.inputs.Inputs.{Inputs}
use Rattle.slnf_top.specs.declared.outputs.File.{File}
use Rattle.slnf_top.specs.declared.steps.Run.{Run}
use Rattle.slnf_top.specs.declared.statuses.Status.{Status}
use Rattle.slnf_top.specs.declared.statuses.Status.TheVariants as status
use Rattle.slnf_top.specs.Words.{PlanWords}
use Rattle.slnf_top.specs.Names.{outputs_of, run_names}
use Rattle.slnf_top.specs.Readings.{Input, captures_in, run_inputs, inputs_of, name_of}
use Rattle.slnf_top.specs.Reached.{Holds, AllPassed}
use Rattle.slnf_top.specs.Effects.{IsAmong, IsOutput, ReadsOf, Reads, RoseAt}
use Rattle.slnf_top.specs.Inputs.{AreTold, AreInputs}
use Rattle.slnf_top.specs.Files.{files_of, names_of, IsNamed, WritesFiles, Wrote}
use Rattle.slnf_top.specs.Refused.{RefusesInputs, StopsWriting, StaysUnless, StopsAt}
use Rattle.slnf_top.specs.Reads.{WereInputsRead}
use Rattle.slnf_top.specs.Checked.{named_source}
use Rattle.slnf_top.specs.Written.{Order, BySchedule, SideBySide, IsOutcome, IsRunOf, Ran, IsRunFrom, IsWritten, IsStopped, WroteAll, WroteFront, run_in, status_of, verdicts_in}
use Rattle.slnf_top.specs.Outcome.{Ended}
use Rattle.slnf_top.proofs.Apart.{AreApart, files_apart, named_output}
use Rattle.slnf_top.proofs.Ending.{WritesRun, refused_inputs, wanting_behind, stopped_at, all_written}
use Rattle.slnf_check.proofs.Sizes.{length_map, as_many}
use Rattle.slnf_top.proofs.Runs.{sized}

-- captures by their names
pub names_are : (names : List (List ℕ)) → map name_of (captures_in names) ≡ names
names_are [] = refl
names_are (name ∷ names) = ap (λ (ns : List (List ℕ)). name ∷ ns) (names_are names)

-- the command that runs a plan reads its inputs, writes the files of a run, and ends by these
inputs_in : (order : Order) (words : PlanWords) → inputs_of (run_in order words) ≡ run_inputs words
inputs_in BySchedule words = refl
inputs_in SideBySide words = refl

outputs_in : (order : Order) (words : PlanWords) → outputs_of (run_in order words) ≡ run_names words
outputs_in BySchedule words = refl
outputs_in SideBySide words = refl

wrote_in : (order : Order) (words : PlanWords) (ended : Status) (held holds : Holds) →
    IsWritten order (files_of words.out) (named_source words held) ended held holds →
    WroteAll (run_in order words) ended held holds
wrote_in BySchedule words ended held holds is = is
wrote_in SideBySide words ended held holds is = is

stopped_in : (order : Order) (words : PlanWords) (a c : Faults) (held holds : Holds) →
    IsStopped order (files_of words.out) (named_source words held) a c held holds →
    WroteFront (run_in order words) a c held holds
stopped_in BySchedule words a c held holds is = is
stopped_in SideBySide words a c held holds is = is

-- the reads of the inputs
pub input_reads : (words : PlanWords) (a b : Faults) → Moves (ReadsOf (words.plan ∷ words.captures)) a b →
    Moves (ReadsOf (map name_of (run_inputs words))) a b
input_reads words a b moved =
    subst (λ (ns : List (List ℕ)). Moves (ReadsOf (words.plan ∷ ns)) a b) (sym (names_are words.captures)) moved

reads_in : (order : Order) (words : PlanWords) (a b : Faults) →
    Moves (ReadsOf (words.plan ∷ words.captures)) a b → Moves (Reads (run_in order words)) a b
reads_in order words a b moved =
    subst (λ (is : List Input). Moves (ReadsOf (map name_of is)) a b) (sym (inputs_in order words))
    (input_reads words a b moved)

-- there are as many captures as names
pub told_length : (held : Holds) (names : List (List ℕ)) (given : List Given) → AreTold (map held names) given →
    length given ≡ length names
told_length held [] [] h = refl
told_length held [] (g ∷ given) h = absurd h
told_length held (name ∷ names) [] h = absurd h
told_length held (name ∷ names) (g ∷ given) h =
    let q : length given ≡ length names = told_length held names given h.1 in omega arith

-- few captures and lanes, as the words name few
module _ {X : Type 0} (view : X → List ℕ) (named : List X) (plan : List ℕ) (held : Holds) (inputs : Inputs)
    (few : length named ≤ 32) (are : AreInputs plan (map view named) held inputs) where
  pub few_given : length inputs.captures.given ≤ 32
  few_given =
      let count : length (map view named) ≡ length named = length_map view named in
      let given : length inputs.captures.given ≡ length (map view named) =
      told_length held (map view named) inputs.captures.given are.are_told in
      omega arith

  pub few_lanes : (lanes : List Lane) → lanes ≡ inputs.captures.lanes → length lanes ≤ 32
  few_lanes lanes same =
      let given : length inputs.captures.given ≤ 32 = few_given in
      let both : length inputs.captures.given ≡ length inputs.captures.lanes =
      as_many inputs.captures.given inputs.captures.lanes are.are_read in
      let all : length lanes ≡ length inputs.captures.lanes = ap length same in
      omega arith

-- the outcome is that of the captures' lanes
module _ (order : Order) (inputs : Inputs) (lanes : List Lane) (outcome : Outcome)
    (same : lanes ≡ inputs.captures.lanes) (is : IsOutcome order inputs.plan lanes outcome) where
  pub outcome_by : IsOutcome order inputs.plan inputs.captures.lanes outcome
  outcome_by = subst (λ (ls : List Lane). IsOutcome order inputs.plan ls outcome) same is

  pub sized_by : AreRead inputs.captures.given inputs.captures.lanes → AreSized inputs.captures.given outcome.verdicts
  sized_by read = sized order inputs.plan inputs.captures.given inputs.captures.lanes outcome read outcome_by

-- the inputs were read
pub were_read : (words : PlanWords) (inputs : Inputs) (a b : Faults) (held middle : Holds) →
    Moves (ReadsOf (words.plan ∷ words.captures)) a b → b ≡ a → SameFiles held middle →
    AreInputs words.plan words.captures held inputs → WereInputsRead words inputs a b held middle
were_read words inputs a b held middle counts still same are =
    record { counts = counts; still = still; same = same; are = are }

-- all inputs were read, and none is refused
module _ (order : Order) (words : PlanWords) (inputs : Inputs) (a b : Faults) (held middle : Holds)
    (read : WereInputsRead words inputs a b held middle) where
  all_passed : AllPassed held (inputs_of (run_in order words))
  all_passed =
      subst (AllPassed held) (sym (inputs_in order words))
      (record { tally = inputs.captures.tally; passed = read.are.passed })

  -- memory was wanting behind the reading
  pub wanting_in : Ended (run_in order words) status.NoMemory a b held middle
  wanting_in =
      wanting_behind (run_in order words) a b held middle (reads_in order words a b read.counts) read.still
      read.same

-- the reading was refused
pub refused_in : (order : Order) (words : PlanWords) (ended : Status) (a b : Faults) (held middle : Holds) →
    Moves (ReadsOf (words.plan ∷ words.captures)) a b → SameFiles held middle →
    RefusesInputs held (run_inputs words) a b ended → StaysUnless status.ReadFault a b ended →
    Ended (run_in order words) ended a b held middle
refused_in order words ended a b held middle counts same refused still =
    refused_inputs (run_in order words) ended a b held middle (reads_in order words a b counts) same
    (subst (λ (is : List Input). RefusesInputs held is a b ended) (sym (inputs_in order words)) refused) still

module _ (order : Order) (words : PlanWords) (inputs : Inputs) (run : Run) (a b c : Faults) (held middle holds : Holds)
    (read : WereInputsRead words inputs a b held middle)
    (is : IsRunOf order (files_of words.out) inputs.plan inputs.captures.given inputs.captures.lanes run) where
  -- the run that the files tell of
  ran_by : Ran order (named_source words held)
  ran_by = record {
    plan = inputs.plan;
    given = inputs.captures.given;
    lanes = inputs.captures.lanes;
    works_on = record { is_plan = read.are.is_plan; are_told = read.are.are_told; are_read = read.are.are_read };
    journal = is.journal;
    explained = is.explained;
  }

  run_by : IsRunFrom order (files_of words.out) (named_source words held) run
  unfolding ran_by
  run_by = record { ran = ran_by; files = is.files; left = is.left }

  -- the names of the files differ, and are those of outputs
  apart_by : length inputs.captures.given ≤ 32 → AreApart run.files
  apart_by few =
      let verdicts = verdicts_in inputs.plan inputs.captures.lanes is.journal in
      subst AreApart (sym is.files) (files_apart words.out inputs.captures.given verdicts is.journal few)

  outputs_by : (name : List ℕ) → IsNamed run.files name → IsOutput (run_in order words) name
  outputs_by name h =
      let verdicts = verdicts_in inputs.plan inputs.captures.lanes is.journal in
      subst (λ (ns : List (List ℕ)). IsAmong ns name) (sym (outputs_in order words))
      (named_output words inputs.captures.given verdicts is.journal name
      (told_length held words.captures inputs.captures.given read.are.are_told)
      (subst (λ (fs : List File). IsNamed fs name) is.files h))

  module _ (files : List File) (same_files : files ≡ run.files) (few : length inputs.captures.given ≤ 32)
      (write : Moves (WritesFiles files) b c)
      (others : (other : List ℕ) → ¬ IsNamed files other → holds other ≡ middle other) where
    -- the files were written behind the reading
    writes_run : WritesRun (run_in order words) order (files_of words.out) (named_source words held) run a b c held
        middle holds
    writes_run = record {
      read = reads_in order words a b read.counts;
      still = read.still;
      same = read.same;
      passed = all_passed order words inputs a b held middle read;
      is_run = run_by;
      apart = apart_by few;
      outputs = outputs_by;
      write = subst (λ (fs : List File). Moves (WritesFiles fs) b c) same_files write;
      others =
          subst (λ (fs : List File). (other : List ℕ) → ¬ IsNamed fs other → holds other ≡ middle other)
          same_files others;
    }

    -- the writing was stopped
    pub stopped_writing : (ended : Status) → StopsWriting (RoseAt (names_of files) b c) ended →
        StaysUnless status.WriteFault b c ended → StopsAt files b c middle holds ended →
        Ended (run_in order words) ended a c held holds
    stopped_writing ended stopped still at_one =
        stopped_at (run_in order words) order (files_of words.out) (named_source words held) run a b c held middle
        holds writes_run ended (stopped_in order words a c held holds)
        (subst (λ (fs : List File). StopsWriting (RoseAt (names_of fs) b c) ended) same_files stopped) still
        (subst (λ (fs : List File). StopsAt fs b c middle holds ended) same_files at_one)

    -- all was written
    pub ended_writing : Wrote files middle holds → c ≡ b → Ended (run_in order words) (status_of run.left) a c held holds
    ended_writing wrote still =
        all_written (run_in order words) order (files_of words.out) (named_source words held) run a b c held middle
        holds writes_run (wrote_in order words (status_of run.left) held holds)
        (subst (λ (fs : List File). Wrote fs middle holds) same_files wrote) still
