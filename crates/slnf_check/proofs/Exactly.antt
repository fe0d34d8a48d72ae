-- Files are those of one true run, or they are refused by one rule at one place, and never both.
use Rattle.std.proofs.Common.{◌≡◌, ◌⊎◌, inl, inr, ℕ, Option, Some, None, List, Result, Ok, Err, refl, sym, ap, ◌∙◌, subst}
use Rattle.std.specs.Prelude.{option_map}
use Rattle.slnf_access.specs.declared.requests.Entry.{Entry}
use Rattle.slnf_plan.specs.declared.plan.Plan.{Plan}
use Rattle.slnf_run.specs.Run.{IsRun}
use Rattle.slnf_run.specs.Setting.{Setting}
use Rattle.slnf_run.specs.Verdicts.{verdicts_of}
use Rattle.slnf_flight.specs.declared.lanes.Lane.{Lane}
use Rattle.slnf_flight.specs.declared.flights.AnyFlight.{AnyFlight}
use Rattle.slnf_flight.specs.Flights.{Arrival}
use Rattle.slnf_flight.specs.PlanSetting.{setting_of}
use Rattle.slnf_journal.specs.declared.errors.JournalError.{JournalError}
use Rattle.slnf_journal.specs.Reading.{journal_in}
use Rattle.slnf_journal.specs.Versions.{One}
use Rattle.slnf_local.specs.declared.broken.Broken.{Broken}
use Rattle.slnf_local.specs.Tells.{Tells}
use Rattle.slnf_local.specs.Passes.{first_broken}
use Rattle.slnf_local.proofs.Telling.{tells_one}
use Rattle.slnf_local.proofs.Answers.{first_broken_tells}
use Rattle.slnf_follow.specs.declared.refusals.Refusal.{Refusal}
use Rattle.slnf_follow.specs.Refusals.{refusal_of, IsAnswer}
use Rattle.slnf_check.specs.declared.given.Given.{Given}
use Rattle.slnf_check.specs.declared.given.RunFiles.{RunFiles}
use Rattle.slnf_check.specs.Outputs.{unread, or_else, verdicts_refusal, outputs_refusal, outputs_of}
use Rattle.slnf_check.specs.Checks.{IsJournalOf, IsUnfollowed, IsRefusedJournal, AreTrue, leavings_refusal, AreRefused}
use Rattle.slnf_check.proofs.SameTexts.{unmapped}
use Rattle.slnf_check.proofs.Leavings.{both_none, verdicts_same, verdicts_true, outputs_same, outputs_true}

-- a list of entries has one answer
pub answers_once : {F A : Type 0} (s : Setting F A) (j : List Entry) (one other : Option Refusal) →
    IsAnswer s j one → IsAnswer s j other → one ≡ other
answers_once s j one other a b =
    a.answer_is ∙ ap (option_map refusal_of) (tells_one s j a.broken b.broken a.tells b.tells) ∙ sym b.answer_is

-- no refusal is told exactly of a run
pub run_where_none : {F A : Type 0} (s : Setting F A) (j : List Entry) → IsAnswer s j None → IsRun s j
run_where_none s j a = subst (Tells s j) (unmapped refusal_of a.broken (sym a.answer_is)) a.tells

none_where_run : {F A : Type 0} (s : Setting F A) (j : List Entry) → IsRun s j → IsAnswer s j None
none_where_run s j run = record { broken = None; tells = run; answer_is = refl }

module _ (plan : Plan) (lanes : List Lane) where
  abbrev s : Setting AnyFlight Arrival
  s = setting_of plan lanes

  -- a journal's text that says so is a run's
  abbrev Says : Result (List Entry) JournalError → List Entry → Type 0
  Says said entries = (said ≡ Ok entries) × IsRun s entries

  said_apart : (said : Result (List Entry) JournalError) (entries : List Entry) (refusal : Refusal) →
      Says said entries → IsUnfollowed plan lanes said refusal → ⊥
  said_apart (Err error) entries refusal says h = let same : Err error ≡ Ok entries = says.0 in cc
  said_apart (Ok these) entries refusal says h =
      let same : Ok these ≡ Ok entries = says.0 in
      let these_are : entries ≡ these = cc in
      let run : IsRun s these = subst (IsRun s) these_are says.1 in
      let none : Some refusal ≡ None = answers_once s these (Some refusal) None h (none_where_run s these run) in cc

  said_once : (said : Result (List Entry) JournalError) (one other : Refusal) → IsUnfollowed plan lanes said one →
      IsUnfollowed plan lanes said other → one ≡ other
  said_once (Err error) one other a b = a ∙ sym b
  said_once (Ok entries) one other a b =
      let same : Some one ≡ Some other = answers_once s entries (Some one) (Some other) a b in cc

  told_so : (entries : List Entry) (broken : Option Broken) → Tells s entries broken →
      IsRun s entries ⊎ ((refusal : Refusal) × IsAnswer s entries (Some refusal))
  told_so entries None told = inl told
  told_so entries (Some broken) told =
      inr (refusal_of broken, record { broken = Some broken; tells = told; answer_is = refl })

  said_some : (said : Result (List Entry) JournalError) → ((entries : List Entry) × Says said entries)
      ⊎ ((refusal : Refusal) × IsUnfollowed plan lanes said refusal)
  said_some (Err error) = inr (unread error, refl)
  said_some (Ok entries) = elim (told_so entries (first_broken s entries) (first_broken_tells s entries)) [
    | inl run ↦ inl (entries, (refl, run))
    | inr refused ↦ inr refused
  ]

  module _ (bytes : List ℕ) where
    abbrev said : Result (List Entry) JournalError
    said = journal_in One bytes

    pub journal_some : ((entries : List Entry) × IsJournalOf plan lanes bytes entries)
        ⊎ ((refusal : Refusal) × IsRefusedJournal plan lanes bytes refusal)
    journal_some = elim (said_some said) [
      | inl h ↦ inl (h.0, record { read = h.1.0; run = h.1.1 })
      | inr h ↦ inr h
    ]

    pub journal_apart : (entries : List Entry) (refusal : Refusal) → IsJournalOf plan lanes bytes entries →
        IsRefusedJournal plan lanes bytes refusal → ⊥
    journal_apart entries refusal h refused = said_apart said entries refusal (h.read, h.run) refused

    pub journal_one_run : (one other : List Entry) → IsJournalOf plan lanes bytes one →
        IsJournalOf plan lanes bytes other → one ≡ other
    journal_one_run one other a b = let same : Ok one ≡ Ok other = sym a.read ∙ b.read in cc

    pub journal_one_refusal : (one other : Refusal) → IsRefusedJournal plan lanes bytes one →
        IsRefusedJournal plan lanes bytes other → one ≡ other
    journal_one_refusal one other a b = said_once said one other a b

  module _ (given : List Given) (files : RunFiles) where
    abbrev left_of : List Entry → Option Refusal
    left_of entries = leavings_refusal given files (verdicts_of s entries)

    abbrev Journal : List Entry → Type 0
    Journal entries = IsJournalOf plan lanes files.journal entries

    -- what is refused by none of rules 6 and 7 is true, and the other way round
    pub true_where_passed : (entries : List Entry) → Journal entries →
        verdicts_refusal files.verdicts (verdicts_of s entries) ≡ None →
        outputs_refusal 0 files.outputs (outputs_of given (verdicts_of s entries)) ≡ None →
        AreTrue plan lanes given files entries
    true_where_passed entries h verdicts_pass outputs_pass = record {
      journal = h;
      verdicts = verdicts_true files.verdicts (verdicts_of s entries) verdicts_pass;
      outputs = outputs_true 0 files.outputs (outputs_of given (verdicts_of s entries)) outputs_pass;
    }

    true_where_none : (entries : List Entry) → Journal entries → left_of entries ≡ None →
        AreTrue plan lanes given files entries
    true_where_none entries h none =
        let both = both_none (verdicts_refusal files.verdicts (verdicts_of s entries))
        (outputs_refusal 0 files.outputs (outputs_of given (verdicts_of s entries))) none in
        true_where_passed entries h both.0 both.1

    none_where_true : (entries : List Entry) → AreTrue plan lanes given files entries → left_of entries ≡ None
    none_where_true entries h =
        let verdicts = verdicts_of s entries in
        ap (λ (r : Option Refusal). or_else r (outputs_refusal 0 files.outputs (outputs_of given verdicts)))
        (verdicts_same files.verdicts verdicts h.verdicts)
        ∙ outputs_same 0 files.outputs (outputs_of given verdicts) h.outputs

    left_some : (entries : List Entry) (found : Option Refusal) → Journal entries → left_of entries ≡ found →
        AreTrue plan lanes given files entries ⊎ ((refusal : Refusal) × AreRefused plan lanes given files refusal)
    left_some entries None h is = inl (true_where_none entries h is)
    left_some entries (Some refusal) h is = inr (refusal, inr (entries, h, is))

    pub files_some : ((entries : List Entry) × AreTrue plan lanes given files entries)
        ⊎ ((refusal : Refusal) × AreRefused plan lanes given files refusal)
    files_some = elim (journal_some files.journal) [
      | inl h ↦ elim (left_some h.0 (left_of h.0) h.1 refl) [
        | inl t ↦ inl (h.0, t)
        | inr r ↦ inr r
      ]
      | inr r ↦ inr (r.0, inl r.1)
    ]

    left_apart : (entries these : List Entry) (refusal : Refusal) → AreTrue plan lanes given files entries →
        Journal these → left_of these ≡ Some refusal → ⊥
    left_apart entries these refusal h j some =
        let same : entries ≡ these = journal_one_run files.journal entries these h.journal j in
        let none : left_of these ≡ None =
        subst (λ (es : List Entry). left_of es ≡ None) same (none_where_true entries h) in
        let both : Some refusal ≡ None = sym some ∙ none in cc

    pub files_apart : (entries : List Entry) (refusal : Refusal) → AreTrue plan lanes given files entries →
        AreRefused plan lanes given files refusal → ⊥
    files_apart entries refusal h (inl refused) = journal_apart files.journal entries refusal h.journal refused
    files_apart entries refusal h (inr refused) = left_apart entries refused.0 refusal h refused.1 refused.2

    pub files_one_run : (one other : List Entry) → AreTrue plan lanes given files one →
        AreTrue plan lanes given files other → one ≡ other
    files_one_run one other a b = journal_one_run files.journal one other a.journal b.journal

    pub files_one_refusal : (one other : Refusal) → AreRefused plan lanes given files one →
        AreRefused plan lanes given files other → one ≡ other
    files_one_refusal one other (inl a) (inl b) = journal_one_refusal files.journal one other a b
    files_one_refusal one other (inl a) (inr b) = absurd (journal_apart files.journal b.0 one b.1 a)
    files_one_refusal one other (inr a) (inl b) = absurd (journal_apart files.journal a.0 other a.1 b)
    files_one_refusal one other (inr a) (inr b) =
        let same : a.0 ≡ b.0 = journal_one_run files.journal a.0 b.0 a.1 b.1 in
        let first : left_of b.0 ≡ Some one = subst (λ (es : List Entry). left_of es ≡ Some one) same a.2 in
        let second : left_of b.0 ≡ Some other = b.2 in
        let both : Some one ≡ Some other = sym first ∙ second in cc
