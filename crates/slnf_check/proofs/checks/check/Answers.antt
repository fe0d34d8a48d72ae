use Rattle.std.proofs.Common.{◌≡◌, ◌∙◌, ◌≤◌, None, length, sym, ap, subst, arith}
use Rattle.slnf_run.specs.Verdicts.{verdicts_of}
use Rattle.slnf_flight.specs.PlanSetting.{setting_of}
use Rattle.slnf_check.specs.Given.{AreSized}
use Rattle.slnf_check.specs.Outputs.{verdicts_refusal, outputs_of, outputs_refusal}
use Rattle.slnf_check.specs.Checks.{IsJournalOf}
use Rattle.slnf_check.proofs.Exactly.{true_where_passed}
use Rattle.slnf_check.proofs.Sizes.{are_given, as_many, sized_from}
use Rattle.slnf_check.proofs.checks.check.Goals as goal

pub check_outputs-requires-clause-few : goal.check_outputs-requires-clause-few
check_outputs-requires-clause-few c =
    let same : length c.args.given.now ≡ length c.args.lanes.now =
    as_many c.args.given.now c.args.lanes.now c.requires.read in
    let few : length c.args.lanes.now ≤ 32 = c.requires.few_lanes in
    omega (arith, same, few)

pub check_outputs-requires-clause-given : goal.check_outputs-requires-clause-given
check_outputs-requires-clause-given c = are_given c.args.given.now c.args.lanes.now c.requires.read

pub check_outputs-requires-clause-sized : goal.check_outputs-requires-clause-sized
check_outputs-requires-clause-sized c =
    subst (AreSized c.args.given.now) (sym (c.as_slice-6.ensures ∙ c.in_ok-verdicts.ensures))
    (sized_from (setting_of c.args.plan.now c.args.lanes.now) c.as_slice-2.result.now 0 c.args.given.now
    c.args.lanes.now c.requires.read)

pub returns-clause-accepted : goal.returns-clause-accepted
returns-clause-accepted c =
    let plan = c.args.plan.now in
    let lanes = c.args.lanes.now in
    let given = c.args.given.now in
    let files = c.args.files.now in
    let entries = c.in_ok-entries.entries in
    let verdicts = verdicts_of (setting_of plan lanes) entries in
    let own = c.in_ok-verdicts.ensures ∙ ap (verdicts_of (setting_of plan lanes)) c.as_slice-2.ensures in
    let journal : IsJournalOf plan lanes files.journal entries =
    subst (λ bytes. IsJournalOf plan lanes bytes entries) c.as_slice.ensures c.in_ok-entries.ensures.followed in
    let verdicts_pass : verdicts_refusal files.verdicts verdicts ≡ None =
    subst (λ text. verdicts_refusal text verdicts ≡ None) c.as_slice-3.ensures
    (subst (λ vs. verdicts_refusal c.as_slice-3.result.now vs ≡ None) (c.as_slice-4.ensures ∙ own)
    c.in_ok-check_verdicts.ensures.passed) in
    let outputs_pass : outputs_refusal 0 files.outputs (outputs_of given verdicts) ≡ None =
    subst (λ outputs. outputs_refusal 0 outputs (outputs_of given verdicts) ≡ None) c.as_slice-5.ensures
    (subst (λ vs. outputs_refusal 0 c.as_slice-5.result.now (outputs_of given vs) ≡ None) (c.as_slice-6.ensures ∙ own)
    c.in_ok-check_outputs.ensures.passed) in
    (entries, c.len.ensures, true_where_passed plan lanes given files entries journal verdicts_pass outputs_pass)
