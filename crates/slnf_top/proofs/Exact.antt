-- What `check` and `box` answer is exact, by the laws of slnf_check.
use Rattle.std.proofs.Common.{◌≡◌, ℕ, List, refl, ap, sym, ◌∙◌, subst}
use Rattle.slnf_access.specs.declared.requests.Entry.{Entry}
use Rattle.slnf_plan.specs.declared.plan.Plan.{Plan}
use Rattle.slnf_flight.specs.declared.lanes.Lane.{Lane}
use Rattle.slnf_follow.specs.declared.refusals.Refusal.{Refusal}
use Rattle.slnf_check.specs.declared.given.Given.{Given}
use Rattle.slnf_check.specs.declared.given.RunFiles.{RunFiles}
use Rattle.slnf_check.specs.Checks.{IsJournalOf, IsRefusedJournal, AreTrue, AreRefused}
use Rattle.slnf_shelf.specs.Shelf.{Faults}
use Rattle.slnf_top.specs.declared.statuses.Status.{Status}
use Rattle.slnf_top.specs.declared.statuses.Status.TheVariants as status
use Rattle.slnf_top.specs.Words.{PlanWords, Command, Run, Step, Check, Box, Load}
use Rattle.slnf_top.specs.Kinds.{Kind, Whole, Formless, Refusing, Broken, Unread, Unwritten, Wanting, kind_of, HasJudged}
use Rattle.slnf_top.specs.Reached.{Holds}
use Rattle.slnf_top.specs.Checked.{IsCheck, IsBox, IsBroken, IsBrokenJournal, Names, HoldsAccepted, HoldsLines}
use Rattle.slnf_top.specs.Written.{WroteAll, WasBroken, IsExact}
use Rattle.slnf_top.specs.Outcome.{Ended}

-- the laws of files and of journals
abbrev pub FilesApart : Type 0
FilesApart =
    (plan : Plan) (lanes : List Lane) (given : List Given) (files : RunFiles) (entries : List Entry)
    (refusal : Refusal) → AreTrue plan lanes given files entries → AreRefused plan lanes given files refusal → ⊥

abbrev pub FilesOnce : Type 0
FilesOnce =
    (plan : Plan) (lanes : List Lane) (given : List Given) (files : RunFiles) (one other : Refusal) →
    AreRefused plan lanes given files one → AreRefused plan lanes given files other → one ≡ other

abbrev pub JournalsApart : Type 0
JournalsApart =
    (plan : Plan) (lanes : List Lane) (bytes : List ℕ) (entries : List Entry) (refusal : Refusal) →
    IsJournalOf plan lanes bytes entries → IsRefusedJournal plan lanes bytes refusal → ⊥

abbrev pub JournalsOnce : Type 0
JournalsOnce =
    (plan : Plan) (lanes : List Lane) (bytes : List ℕ) (one other : Refusal) →
    IsRefusedJournal plan lanes bytes one → IsRefusedJournal plan lanes bytes other → one ≡ other

-- Ok is no refusal, and a refusal is one
ok_refused : (refusal : Refusal) → status.Ok ≡ status.Refused refusal → ⊥
ok_refused refusal e = cc

same_refusal : (one other : Refusal) → status.Refused one ≡ status.Refused other → one ≡ other
same_refusal one other e = cc

module _ (words : PlanWords) (ended : Status) (held holds : Holds) where
  accepted_exactly : FilesApart → (ended ≡ status.Ok) × HoldsAccepted words held holds → IsCheck words held ended
  accepted_exactly apart (e, (entries, accepted, hold)) =
      let worked = accepted.checked.worked in
      let files = accepted.checked.files in
      record {
        checked = accepted.checked;
        accepts = (λ ok. (entries, accepted.are_true), λ true_files. e);
        refuses = λ refusal. (
          λ named. absurd (ok_refused refusal (sym e ∙ named)),
          λ broken. absurd
              (apart worked.plan worked.lanes worked.given files entries refusal accepted.are_true broken),
        );
      }

  broken_exactly : FilesApart → FilesOnce → Names (IsBroken words held) ended → IsCheck words held ended
  broken_exactly apart once (first, e, broken) =
      let worked = broken.checked.worked in
      let files = broken.checked.files in
      record {
        checked = broken.checked;
        accepts = (
          λ ok. absurd (ok_refused first (sym ok ∙ e)),
          λ true_files. absurd
              (apart worked.plan worked.lanes worked.given files true_files.0 first true_files.1 broken.refused),
        );
        refuses = λ refusal. (
          λ named. subst (λ (r : Refusal). AreRefused worked.plan worked.lanes worked.given files r)
              (same_refusal first refusal (sym e ∙ named)) broken.refused,
          λ other. e ∙ ap status.Refused
              (once worked.plan worked.lanes worked.given files first refusal broken.refused other),
        );
      }

  answered_exactly : JournalsApart → (ended ≡ status.Ok) × HoldsLines words held holds → IsBox words held ended
  answered_exactly apart (e, (file, answered, hold)) =
      let worked = answered.followed.worked in
      let journal = answered.followed.journal in
      let tells = answered.tells in
      record {
        followed = answered.followed;
        answers = (λ ok. (tells.entries, tells.is_journal), λ true_journal. e);
        refuses = λ refusal. (
          λ named. absurd (ok_refused refusal (sym e ∙ named)),
          λ broken. absurd
              (apart worked.plan worked.lanes journal tells.entries refusal tells.is_journal broken),
        );
      }

  refused_exactly : JournalsApart → JournalsOnce → Names (IsBrokenJournal words held) ended → IsBox words held ended
  refused_exactly apart once (first, e, broken) =
      let worked = broken.followed.worked in
      let journal = broken.followed.journal in
      record {
        followed = broken.followed;
        answers = (
          λ ok. absurd (ok_refused first (sym ok ∙ e)),
          λ true_journal. absurd
              (apart worked.plan worked.lanes journal true_journal.0 first true_journal.1 broken.refused),
        );
        refuses = λ refusal. (
          λ named. subst (λ (r : Refusal). IsRefusedJournal worked.plan worked.lanes journal r)
              (same_refusal first refusal (sym e ∙ named)) broken.refused,
          λ other. e ∙ ap status.Refused (once worked.plan worked.lanes journal first refusal broken.refused other),
        );
      }

module _ (files_apart : FilesApart) (files_once : FilesOnce) (journals_apart : JournalsApart)
    (journals_once : JournalsOnce) (ended : Status) (held holds : Holds) where
  wrote_exactly : (command : Command) → WroteAll command ended held holds → IsExact command ended held
  wrote_exactly (Run words) wrote = tt
  wrote_exactly (Step words) wrote = tt
  wrote_exactly (Check words) wrote = accepted_exactly words ended held holds files_apart wrote
  wrote_exactly (Box words) wrote = answered_exactly words ended held holds journals_apart wrote
  wrote_exactly (Load words) wrote = tt

  named_exactly : (command : Command) → WasBroken command ended held → IsExact command ended held
  named_exactly (Run words) none = absurd none
  named_exactly (Step words) none = absurd none
  named_exactly (Check words) named = broken_exactly words ended held holds files_apart files_once named
  named_exactly (Box words) named = refused_exactly words ended held holds journals_apart journals_once named
  named_exactly (Load words) none = absurd none

  exactly_by : (command : Command) (a b : Faults) (kind : Kind) → kind_of ended ≡ kind → HasJudged kind →
      Ended command ended a b held holds → IsExact command ended held
  exactly_by command a b Whole e judged all = wrote_exactly command (all.written e)
  exactly_by command a b Formless e judged all = absurd judged
  exactly_by command a b Refusing e judged all = absurd judged
  exactly_by command a b Broken e judged all = named_exactly command (all.broken e)
  exactly_by command a b Unread e judged all = absurd judged
  exactly_by command a b Unwritten e judged all = absurd judged
  exactly_by command a b Wanting e judged all = absurd judged

  pub judged_exactly : (command : Command) (a b : Faults) → Ended command ended a b held holds →
      HasJudged (kind_of ended) → IsExact command ended held
  judged_exactly command a b all judged = exactly_by command a b (kind_of ended) refl judged all
