-- How `check` and `box` ended, by what was read and written.
use Rattle.std.proofs.Common.{◌≡◌, inl, inr, ℕ, List, [], ◌∷◌, refl, ap, sym, ◌∙◌, subst}
use Rattle.std.specs.Prelude.{IfSome, Result, OnOk, IfErr}
use Rattle.slnf_follow.specs.declared.refusals.Refusal.{Refusal}
use Rattle.slnf_check.specs.declared.given.RunFiles.{RunFiles}
use Rattle.slnf_check.specs.declared.refusals.CheckError.{CheckError}
use Rattle.slnf_check.specs.declared.refusals.CheckError.TheVariants as errors
use Rattle.slnf_check.specs.Checks.{IsRefusedJournal, AreRefused}
use Rattle.slnf_check.specs.Answers.{IfRefused}
use Rattle.slnf_shelf.specs.Shelf.{Faults, Moves, SameFiles}
use Rattle.slnf_top.specs.declared.statuses.Status.{Status}
use Rattle.slnf_top.specs.declared.statuses.Status.TheVariants as status
use Rattle.slnf_top.specs.declared.inputs.Inputs.{Inputs}
use Rattle.slnf_top.specs.declared.inputs.Tally.{Tally}
use Rattle.slnf_top.specs.declared.outputs.File.{File}
use Rattle.slnf_top.specs.Names.{standard_output, outputs_of, journal_name}
use Rattle.slnf_top.specs.Words.{PlanWords, Command, Run, Step, Check, Box, Load}
use Rattle.slnf_top.specs.Readings.{run_inputs, journal_file, products_by, inputs_of, no_tally}
use Rattle.slnf_top.specs.Reached.{Holds}
use Rattle.slnf_top.specs.Effects.{IsAmong, ReadsOf, RoseAt}
use Rattle.slnf_top.specs.Inputs.{AreInputs}
use Rattle.slnf_top.specs.Refused.{RefusesInputs, StopsWriting, StopsAt, StaysUnless, status_of_check}
use Rattle.slnf_top.specs.Reads.{WereRead, WereRefused, WerePassed, WereStopped, AreFilesOf}
use Rattle.slnf_top.specs.Files.{names_of, HoldFiles, IsNamed, WritesFiles, Wrote, StoppedAt}
use Rattle.slnf_top.specs.Checked.{BreaksBy, Worked, Checked, Followed, IsFound, TellsAccepted, TellsLines}
use Rattle.slnf_top.specs.Written.{WroteAll, WroteFront}
use Rattle.slnf_top.specs.Outcome.{Ended}
use Rattle.slnf_top.proofs.Apart.{AreApart}
use Rattle.slnf_top.proofs.Behind.{read_then, refused_front, refused_back}
use Rattle.slnf_top.proofs.RunFiles.{files_earlier}
use Rattle.slnf_top.proofs.Ending.{WritesAll, refused_ended, wanting_behind, broken_behind, ended_ok, ended_err}
use Rattle.slnf_top.proofs.Stepping.{input_reads}

-- an error of a check, as a status
pub breaks_by : (P : Refusal → Type 0) (error : CheckError) (ended : Status) → ended ≡ status_of_check error →
    IfRefused P error → BreaksBy P ended
breaks_by P (errors.Refused refusal) ended is h = inr (refusal, is, h)
breaks_by P errors.NoMemory ended is h = inl is

-- the plan and the captures were read, or one was refused
module _ (words : PlanWords) (a b : Faults) (held holds : Holds) where
  pub inputs_read : (inputs : Inputs) → AreInputs words.plan words.captures held inputs →
      Moves (ReadsOf (words.plan ∷ words.captures)) a b → b ≡ a → SameFiles held holds →
      WereRead (run_inputs words) no_tally inputs.captures.tally a b held holds
  inputs_read inputs are counts still same =
      record { counts = input_reads words a b counts; still = still; same = same; passed = are.passed }

  pub inputs_refused : (ended : Status) → Moves (ReadsOf (words.plan ∷ words.captures)) a b →
      StaysUnless status.ReadFault a b ended → SameFiles held holds →
      RefusesInputs held (run_inputs words) a b ended →
      WereRefused (run_inputs words) no_tally a b held holds ended
  inputs_refused ended counts still same refused =
      record { counts = input_reads words a b counts; still = still; same = same; refused = refused }

-- what a command worked on
pub worked_by : (words : PlanWords) (held : Holds) (inputs : Inputs) →
    AreInputs words.plan words.captures held inputs → Worked words held
worked_by words held inputs are = record {
  plan = inputs.plan;
  given = inputs.captures.given;
  lanes = inputs.captures.lanes;
  works_on = record { is_plan = are.is_plan; are_told = are.are_told; are_read = are.are_read };
}

-- One file is written behind the reading, to standard output.
writes_one : (command : Command) (last : Tally) (a b c : Faults) (held middle holds : Holds) (file : File)
    (files : List File) → outputs_of command ≡ standard_output ∷ [] → file.name ≡ standard_output →
    WereRead (inputs_of command) no_tally last a b held middle → files ≡ file ∷ [] →
    Moves (WritesFiles files) b c → ((other : List ℕ) → ¬ IsNamed files other → holds other ≡ middle other) →
    WritesAll command files a b c held middle holds
writes_one command last a b c held middle holds file files outputs named read is write others = record {
  read = read.counts;
  still = read.still;
  same = read.same;
  passed = record { tally = last; passed = read.passed };
  apart = subst AreApart (sym is) ((λ none. none), tt);
  outputs = λ name h.
      subst (λ (ns : List (List ℕ)). IsAmong ns name) (sym outputs)
      (elim (subst (λ (fs : List File). IsNamed fs name) is h) [ inl e ↦ inl (e ∙ named) | inr none ↦ absurd none ]);
  write = write;
  others = others;
}

-- `check`
module _ (words : PlanWords) (inputs : Inputs) (a b c : Faults) (held half middle : Holds)
    (are : AreInputs words.plan words.captures held inputs)
    (read : WereRead (run_inputs words) no_tally inputs.captures.tally a b held half) where
  pub all_read : WerePassed (products_by words.out words.captures) b c half middle →
      WereRead (inputs_of (Check words)) no_tally inputs.captures.tally a c held middle
  all_read p =
      read_then (run_inputs words) (products_by words.out words.captures) no_tally inputs.captures.tally a b c
      held half middle read inputs.captures.tally (p inputs.captures.tally)

  pub products_ended : (ended : Status) → WereStopped (products_by words.out words.captures) b c half middle ended →
      Ended (Check words) ended a c held middle
  products_ended ended r =
      refused_ended (Check words) ended a c held middle
      (refused_back (run_inputs words) (products_by words.out words.captures) no_tally inputs.captures.tally a b c
      held half middle read ended (r inputs.captures.tally))

  module _ (files : RunFiles) (told : AreFilesOf words.out words.captures half files) where
    checked_by : Checked words held
    checked_by = record {
      worked = worked_by words held inputs are;
      files = files;
      told = files_earlier words.out words.captures held half files read.same told;
    }

    -- the files break a rule, or memory was wanting
    pub breaks_ended : (ended : Status) →
        BreaksBy (AreRefused inputs.plan inputs.captures.lanes inputs.captures.given files) ended →
        WereRead (inputs_of (Check words)) no_tally inputs.captures.tally a c held middle →
        Ended (Check words) ended a c held middle
    unfolding checked_by worked_by
    breaks_ended ended (inl is) all =
        subst (λ (s : Status). Ended (Check words) s a c held middle) (sym is)
        (wanting_behind (Check words) a c held middle all.counts all.still all.same)
    breaks_ended ended (inr h) all =
        subst (λ (s : Status). Ended (Check words) s a c held middle) (sym h.1)
        (broken_behind (Check words) h.0 a c held middle all.counts all.still all.same
        (record { tally = inputs.captures.tally; passed = all.passed })
        (h.0, refl, record { checked = checked_by; refused = h.2 }))

    -- the files are accepted
    pub accepted_found : (file : File) →
        TellsAccepted inputs.plan inputs.captures.lanes inputs.captures.given files file → IsFound (Check words) held file
    unfolding checked_by worked_by
    accepted_found file tells =
        (tells.entries, record { checked = checked_by; are_true = tells.are_true }, tells.file_is)

-- `box`
module _ (words : PlanWords) (inputs : Inputs) (a b c : Faults) (held half middle : Holds)
    (are : AreInputs words.plan words.captures held inputs)
    (read : WereRead (run_inputs words) no_tally inputs.captures.tally a b held half) where
  pub journal_read : WerePassed (journal_file words.out ∷ []) b c half middle →
      WereRead (inputs_of (Box words)) no_tally inputs.captures.tally a c held middle
  journal_read p =
      read_then (run_inputs words) (journal_file words.out ∷ []) no_tally inputs.captures.tally a b c
      held half middle read inputs.captures.tally (p inputs.captures.tally)

  pub journal_ended : (ended : Status) → WereStopped (journal_file words.out ∷ []) b c half middle ended →
      Ended (Box words) ended a c held middle
  journal_ended ended r =
      refused_ended (Box words) ended a c held middle
      (refused_back (run_inputs words) (journal_file words.out ∷ []) no_tally inputs.captures.tally a b c
      held half middle read ended (r inputs.captures.tally))

  module _ (journal : List ℕ) (told : IfSome (half (journal_name words.out)) (λ bytes. journal ≡ bytes)) where
    followed_by : Followed words held
    followed_by = record {
      worked = worked_by words held inputs are;
      journal = journal;
      told = subst (λ o. IfSome o (λ bytes. journal ≡ bytes)) (read.same (journal_name words.out)) told;
    }

    pub breaks_journal : (ended : Status) →
        BreaksBy (IsRefusedJournal inputs.plan inputs.captures.lanes journal) ended →
        WereRead (inputs_of (Box words)) no_tally inputs.captures.tally a c held middle →
        Ended (Box words) ended a c held middle
    unfolding followed_by worked_by
    breaks_journal ended (inl is) all =
        subst (λ (s : Status). Ended (Box words) s a c held middle) (sym is)
        (wanting_behind (Box words) a c held middle all.counts all.still all.same)
    breaks_journal ended (inr h) all =
        subst (λ (s : Status). Ended (Box words) s a c held middle) (sym h.1)
        (broken_behind (Box words) h.0 a c held middle all.counts all.still all.same
        (record { tally = inputs.captures.tally; passed = all.passed })
        (h.0, refl, record { followed = followed_by; refused = h.2 }))

    pub answered_found : (file : File) → TellsLines inputs.plan inputs.captures.lanes journal file →
        IsFound (Box words) held file
    unfolding followed_by worked_by
    answered_found file tells = record { followed = followed_by; tells = tells }

-- what was found goes to standard output, and is what the command writes
module _ (held : Holds) (file : File) where
  found_output : (command : Command) → IsFound command held file →
      (outputs_of command ≡ standard_output ∷ []) × (file.name ≡ standard_output)
  found_output (Run words) none = absurd none
  found_output (Step words) none = absurd none
  found_output (Check words) found = (refl, ap (λ (f : File). f.name) found.2)
  found_output (Box words) found = (refl, ap (λ (f : File). f.name) found.tells.file_is)
  found_output (Load words) none = absurd none

  found_all : (command : Command) (holds : Holds) (fs : List File) → fs ≡ file ∷ [] → IsFound command held file →
      HoldFiles fs held holds → WroteAll command status.Ok held holds
  found_all (Run words) holds fs is none hold = absurd none
  found_all (Step words) holds fs is none hold = absurd none
  found_all (Check words) holds fs is found hold = (
    refl,
    (
      found.0,
      found.1,
      subst (λ (f : File). HoldFiles (f ∷ []) held holds) found.2
          (subst (λ (xs : List File). HoldFiles xs held holds) is hold),
    ),
  )
  found_all (Box words) holds fs is found hold =
      (refl, (file, found, subst (λ (xs : List File). HoldFiles xs held holds) is hold))
  found_all (Load words) holds fs is none hold = absurd none

  found_front : (command : Command) (a d : Faults) (holds : Holds) (fs : List File) → fs ≡ file ∷ [] →
      IsFound command held file → StoppedAt fs a d held holds → WroteFront command a d held holds
  found_front (Run words) a d holds fs is none stops = absurd none
  found_front (Step words) a d holds fs is none stops = absurd none
  found_front (Check words) a d holds fs is found stops = (
    found.0,
    found.1,
    subst (λ (f : File). StoppedAt (f ∷ []) a d held holds) found.2
        (subst (λ (xs : List File). StoppedAt xs a d held holds) is stops),
  )
  found_front (Box words) a d holds fs is found stops =
      (file, found, subst (λ (xs : List File). StoppedAt xs a d held holds) is stops)
  found_front (Load words) a d holds fs is none stops = absurd none

  -- it was written behind the reading, or the writing was stopped
  pub found_ended : {T : Type 0} (r : Result T Status) (command : Command) (last : Tally) (a b c : Faults)
      (middle holds : Holds) (fs : List File) → fs ≡ file ∷ [] → IsFound command held file →
      WereRead (inputs_of command) no_tally last a b held middle → Moves (WritesFiles fs) b c →
      ((other : List ℕ) → ¬ IsNamed fs other → holds other ≡ middle other) → OnOk r (Wrote fs middle holds) →
      OnOk r (c ≡ b) → IfErr r (StopsWriting (RoseAt (names_of fs) b c)) → IfErr r (StaysUnless status.WriteFault b c) →
      IfErr r (StopsAt fs b c middle holds) →
      OnOk r (Ended command status.Ok a c held holds) × IfErr r (λ ended. Ended command ended a c held holds)
  found_ended r command last a b c middle holds fs is found read write others wrote still stopped stays at_one =
      let goes = found_output command found in
      let writes : WritesAll command fs a b c held middle holds =
      writes_one command last a b c held middle holds file fs goes.0 goes.1 read is write others in (
        ended_ok command fs a b c held middle holds writes r (found_all command holds fs is found) wrote still,
        ended_err command fs a b c held middle holds writes r (found_front command a c holds fs is found) stopped
            stays at_one,
      )

-- the plan or a capture was refused
pub check_refused : (words : PlanWords) (ended : Status) (a b : Faults) (held holds : Holds) →
    WereRefused (run_inputs words) no_tally a b held holds ended → Ended (Check words) ended a b held holds
check_refused words ended a b held holds r =
    refused_ended (Check words) ended a b held holds
    (refused_front (run_inputs words) (products_by words.out words.captures) no_tally a b held holds ended r)

pub box_refused : (words : PlanWords) (ended : Status) (a b : Faults) (held holds : Holds) →
    WereRefused (run_inputs words) no_tally a b held holds ended → Ended (Box words) ended a b held holds
box_refused words ended a b held holds r =
    refused_ended (Box words) ended a b held holds
    (refused_front (run_inputs words) (journal_file words.out ∷ []) no_tally a b held holds ended r)
