-- How a command ended, put together from how its steps ended.
use Rattle.std.proofs.Common.{◌≡◌, ◌≢◌, inl, inr, ℕ, Bool, true, false, cond, List, refl, ap, sym, ◌∙◌, subst}
use Rattle.std.specs.Prelude.{◌==◌, Result, Ok, Err, OnOk, IfErr}
use Rattle.slnf_shelf.specs.declared.shelf.Call.{Call}
use Rattle.slnf_shelf.specs.declared.shelf.Call.TheVariants.{Read, Begin, Append}
use Rattle.slnf_shelf.specs.Shelf.{Faults, Moves, SameFiles}
use Rattle.slnf_shelf.proofs.Laws.{Moves-then, Moves-wider, Rose-after}
use Rattle.slnf_follow.specs.declared.refusals.Refusal.{Refusal}
use Rattle.slnf_top.specs.declared.statuses.Status.{Status}
use Rattle.slnf_top.specs.declared.statuses.Status.TheVariants as status
use Rattle.slnf_top.specs.declared.outputs.File.{File}
use Rattle.slnf_top.specs.declared.steps.Run.{Run}
use Rattle.slnf_top.specs.Words.{Command}
use Rattle.slnf_top.specs.Kinds.{Kind, Whole, Formless, Refusing, Broken, Unread, Unwritten, kind_of, MayWrite}
use Rattle.slnf_top.specs.Readings.{Input, inputs_of, no_tally}
use Rattle.slnf_top.specs.Reached.{Holds, IsUnread, IsRefused, AllPassed}
use Rattle.slnf_top.specs.Effects.{IsOutput, Reads, Calls, RoseAt, WriteRose}
use Rattle.slnf_top.specs.Inputs.{Source}
use Rattle.slnf_top.specs.Refused.{RefusesInputs, StopsWriting, StaysUnless, StopsAt}
use Rattle.slnf_top.specs.Files.{Texts, names_of, HoldFiles, IsNamed, WritesFiles, Wrote, StoppedAt}
use Rattle.slnf_top.specs.Written.{Order, IsRunFrom, status_of, IsWritten, IsStopped, WroteAll, WroteFront, WasBroken}
use Rattle.slnf_top.specs.Reads.{WereRefused}
use Rattle.slnf_top.specs.Outcome.{Ended}
use Rattle.slnf_top.proofs.Apart.{AreApart}
use Rattle.slnf_top.proofs.Writing.{wrote_holds, hold_since, stopped_since}
use Rattle.slnf_top.proofs.ByKind.{refuses_at, refuses_reads, stops_at, stops_writes}

-- the reads are among the calls of a command, and so is the writing of its outputs
reads_call : (command : Command) (call : Call) (name : List ℕ) → Reads command call name → Calls command call name
reads_call command Read name h = h
reads_call command Begin name h = absurd h
reads_call command Append name h = absurd h

writes_call : (command : Command) (files : List File) →
    ((name : List ℕ) → IsNamed files name → IsOutput command name) →
    (call : Call) (name : List ℕ) → WritesFiles files call name → Calls command call name
writes_call command files outputs Read name h = absurd h
writes_call command files outputs Begin name h = outputs name h
writes_call command files outputs Append name h = outputs name h

-- the reading of the inputs was refused
pub refused_inputs : (command : Command) (ended : Status) (a b : Faults) (held holds : Holds) →
    Moves (Reads command) a b → SameFiles held holds → RefusesInputs held (inputs_of command) a b ended →
    StaysUnless status.ReadFault a b ended → Ended command ended a b held holds
refused_inputs command ended a b held holds counts same h still =
    let inputs : List Input = inputs_of command in
    let at = refuses_at (IsUnread held inputs a b) (IsRefused held inputs) ended in
    record {
      counts = Moves-wider (Reads command) (Calls command) a b (reads_call command) counts;
      others = λ name apart. same name;
      not_usage = λ e. at Formless (ap kind_of e) h;
      read_fault = λ e. at Unread (ap kind_of e) h;
      write_fault = λ e. absurd (at Unwritten (ap kind_of e) h);
      no_fault = λ not_read not_write. still not_read;
      nothing_begun = λ not. (counts, same);
      reached = λ e. at Refusing e h;
      broken = λ e. absurd (at Broken e h);
      passed = λ read. absurd (refuses_reads (IsUnread held inputs a b) (IsRefused held inputs) ended h read);
      written = λ e. absurd (at Whole e h);
      stopped = λ e. absurd (at Unwritten (ap kind_of e) h);
    }

-- memory was wanting behind the reading of the inputs
pub wanting_behind : (command : Command) (a b : Faults) (held holds : Holds) → Moves (Reads command) a b → b ≡ a →
    SameFiles held holds → Ended command status.NoMemory a b held holds
wanting_behind command a b held holds counts still same =
    refused_inputs command status.NoMemory a b held holds counts same tt (λ not. still)

-- the same, told of the inputs
pub refused_ended : (command : Command) (ended : Status) (a b : Faults) (held holds : Holds) →
    WereRefused (inputs_of command) no_tally a b held holds ended → Ended command ended a b held holds
refused_ended command ended a b held holds r =
    refused_inputs command ended a b held holds r.counts r.same r.refused r.still

-- a refusal by a rule is none of these
not_others : (refusal : Refusal) → let ended : Status = status.Refused refusal in
    (ended ≢ status.Usage) × (ended ≢ status.ReadFault) × (ended ≢ status.WriteFault)
not_others refusal = (λ e. cc, λ e. cc, λ e. cc)

not_whole : Broken ≡ Whole → ⊥
not_whole e = cc

not_input : Broken ≡ Refusing → ⊥
not_input e = cc

-- a rule was named behind the reading of the inputs
pub broken_behind : (command : Command) (refusal : Refusal) (a b : Faults) (held holds : Holds) →
    Moves (Reads command) a b → b ≡ a → SameFiles held holds → AllPassed held (inputs_of command) →
    WasBroken command (status.Refused refusal) held → Ended command (status.Refused refusal) a b held holds
broken_behind command refusal a b held holds counts still same passed broken =
    let others = not_others refusal in
    record {
      counts = Moves-wider (Reads command) (Calls command) a b (reads_call command) counts;
      others = λ name apart. same name;
      not_usage = others.0;
      read_fault = λ e. absurd (others.1 e);
      write_fault = λ e. absurd (others.2 e);
      no_fault = λ not_read not_write. still;
      nothing_begun = λ not. (counts, same);
      reached = λ e. absurd (not_input e);
      broken = λ e. broken;
      passed = λ read. passed;
      written = λ e. absurd (not_whole e);
      stopped = λ e. absurd (others.2 e);
    }

-- What is so when the inputs were read and the writing of these files began.
pub record WritesAll (command : Command) (files : List File) (a b c : Faults) (held middle holds : Holds)
    : Type 0 where
  pub read : Moves (Reads command) a b
  pub still : b ≡ a
  pub same : SameFiles held middle
  pub passed : AllPassed held (inputs_of command)
  pub apart : AreApart files
  pub outputs : (name : List ℕ) → IsNamed files name → IsOutput command name
  pub write : Moves (WritesFiles files) b c
  pub others : (other : List ℕ) → ¬ IsNamed files other → holds other ≡ middle other

-- a command that did all ended otherwise than so
whole_formless : (k : Kind) → k ≡ Whole → k ≡ Formless → ⊥
whole_formless k e f = cc

whole_unread : (k : Kind) → k ≡ Whole → k ≡ Unread → ⊥
whole_unread k e f = cc

whole_unwritten : (k : Kind) → k ≡ Whole → k ≡ Unwritten → ⊥
whole_unwritten k e f = cc

whole_refusing : (k : Kind) → k ≡ Whole → k ≡ Refusing → ⊥
whole_refusing k e f = cc

whole_broken : (k : Kind) → k ≡ Whole → k ≡ Broken → ⊥
whole_broken k e f = cc

module _ (command : Command) (files : List File) (a b c : Faults) (held middle holds : Holds)
    (w : WritesAll command files a b c held middle holds) where
  -- the calls of reading and then writing
  read_then_write : Moves (Calls command) a c
  read_then_write =
      Moves-then (Calls command) a b c
      (Moves-wider (Reads command) (Calls command) a b (reads_call command) w.read)
      (Moves-wider (WritesFiles files) (Calls command) b c (writes_call command files w.outputs) w.write)

  other_files : (name : List ℕ) → ¬ IsOutput command name → holds name ≡ held name
  other_files name apart = w.others name (λ n. apart (w.outputs name n)) ∙ w.same name

  -- a fault of writing behind the reading
  rose_whole : RoseAt (names_of files) b c → WriteRose command a c
  rose_whole h = (
    h.0,
    w.outputs h.0 h.1,
    elim (h.2) [
      | inl begins ↦ inl (Rose-after (Reads command) Begin h.0 a b c w.read begins)
      | inr appends ↦ inr (Rose-after (Reads command) Append h.0 a b c w.read appends)
    ],
  )

  -- it stopped at one of the files
  stops_there : StoppedAt files b c middle holds → StoppedAt files a c held holds
  stops_there stops =
      stopped_since files a c held middle holds w.same
      (subst (λ (f : Faults). StoppedAt files f c middle holds) w.still stops)

  -- the writing was stopped
  pub ended_stopped : (ended : Status) → (StoppedAt files a c held holds → WroteFront command a c held holds) →
      StopsWriting (RoseAt (names_of files) b c) ended → StaysUnless status.WriteFault b c ended →
      StopsAt files b c middle holds ended → Ended command ended a c held holds
  ended_stopped ended front h still stops =
      let at = stops_at (RoseAt (names_of files) b c) ended in
      record {
        counts = read_then_write;
        others = other_files;
        not_usage = λ e. at Formless (ap kind_of e) h;
        read_fault = λ e. absurd (at Unread (ap kind_of e) h);
        write_fault = λ e. rose_whole (at Unwritten (ap kind_of e) h);
        no_fault = λ not_read not_write. still not_write ∙ w.still;
        nothing_begun = λ not. absurd (stops_writes (RoseAt (names_of files) b c) ended h not);
        reached = λ e. absurd (at Refusing e h);
        broken = λ e. absurd (at Broken e h);
        passed = λ read. w.passed;
        written = λ e. absurd (at Whole e h);
        stopped = λ e. front (stops_there (stops e));
      }

  -- each file holds its text
  all_hold : Wrote files middle holds → HoldFiles files held holds
  all_hold wrote = hold_since files held middle holds w.same (wrote_holds files middle holds w.apart wrote)

  -- all was written
  pub ended_whole : (ended : Status) → kind_of ended ≡ Whole →
      (HoldFiles files held holds → WroteAll command ended held holds) → Wrote files middle holds → c ≡ b →
      Ended command ended a c held holds
  ended_whole ended whole all wrote still =
      let kind : Kind = kind_of ended in
      record {
        counts = read_then_write;
        others = other_files;
        not_usage = λ e. whole_formless kind whole (ap kind_of e);
        read_fault = λ e. absurd (whole_unread kind whole (ap kind_of e));
        write_fault = λ e. absurd (whole_unwritten kind whole (ap kind_of e));
        no_fault = λ not_read not_write. still ∙ w.still;
        nothing_begun = λ not. absurd (not (subst MayWrite (sym whole) tt));
        reached = λ e. absurd (whole_refusing kind whole e);
        broken = λ e. absurd (whole_broken kind whole e);
        passed = λ read. w.passed;
        written = λ e. all (all_hold wrote);
        stopped = λ e. absurd (whole_unwritten kind whole (ap kind_of e));
      }

  -- a command that ends with Ok where its files are written
  pub ended_ok : {T : Type 0} (r : Result T Status) →
      (HoldFiles files held holds → WroteAll command status.Ok held holds) →
      OnOk r (Wrote files middle holds) → OnOk r (c ≡ b) → OnOk r (Ended command status.Ok a c held holds)
  ended_ok (Ok x) all wrote still = ended_whole status.Ok refl all wrote still
  ended_ok (Err e) all wrote still = tt

  pub ended_err : {T : Type 0} (r : Result T Status) →
      (StoppedAt files a c held holds → WroteFront command a c held holds) →
      IfErr r (StopsWriting (RoseAt (names_of files) b c)) → IfErr r (StaysUnless status.WriteFault b c) →
      IfErr r (StopsAt files b c middle holds) → IfErr r (λ ended. Ended command ended a c held holds)
  ended_err (Ok x) front h still stops = tt
  ended_err (Err e) front h still stops = ended_stopped e front h still stops

-- What is so when the inputs were read and the writing of a run's files began.
pub record WritesRun (command : Command) (order : Order) (texts : Texts) (source : Source) (run : Run)
    (a b c : Faults) (held middle holds : Holds) : Type 0 where
  pub read : Moves (Reads command) a b
  pub still : b ≡ a
  pub same : SameFiles held middle
  pub passed : AllPassed held (inputs_of command)
  pub is_run : IsRunFrom order texts source run
  pub apart : AreApart run.files
  pub outputs : (name : List ℕ) → IsNamed run.files name → IsOutput command name
  pub write : Moves (WritesFiles run.files) b c
  pub others : (other : List ℕ) → ¬ IsNamed run.files other → holds other ≡ middle other

-- how a run ends is an end of a command that did all
whole_if : (b : Bool) → kind_of (cond b status.Ok status.Left) ≡ Whole
whole_if true = refl
whole_if false = refl

module _ (command : Command) (order : Order) (texts : Texts) (source : Source) (run : Run) (a b c : Faults)
    (held middle holds : Holds) (w : WritesRun command order texts source run a b c held middle holds) where
  writes_all : WritesAll command run.files a b c held middle holds
  writes_all = record {
    read = w.read;
    still = w.still;
    same = w.same;
    passed = w.passed;
    apart = w.apart;
    outputs = w.outputs;
    write = w.write;
    others = w.others;
  }

  -- the writing was stopped
  pub stopped_at : (ended : Status) →
      (IsStopped order texts source a c held holds → WroteFront command a c held holds) →
      StopsWriting (RoseAt (names_of run.files) b c) ended → StaysUnless status.WriteFault b c ended →
      StopsAt run.files b c middle holds ended → Ended command ended a c held holds
  stopped_at ended front h still stops =
      ended_stopped command run.files a b c held middle holds writes_all ended
      (λ stopped. front (record {
        ran = w.is_run.ran;
        stopped = subst (λ (fs : List File). StoppedAt fs a c held holds) w.is_run.files stopped;
      }))
      h still stops

  -- all was written
  pub all_written :
      (IsWritten order texts source (status_of run.left) held holds →
      WroteAll command (status_of run.left) held holds) →
      Wrote run.files middle holds → c ≡ b → Ended command (status_of run.left) a c held holds
  all_written whole wrote still =
      ended_whole command run.files a b c held middle holds writes_all (status_of run.left) (whole_if (run.left == 0))
      (λ hold. whole (record {
        ran = w.is_run.ran;
        hold_files = subst (λ (fs : List File). HoldFiles fs held holds) w.is_run.files hold;
        ends = ap status_of w.is_run.left;
      }))
      wrote still
