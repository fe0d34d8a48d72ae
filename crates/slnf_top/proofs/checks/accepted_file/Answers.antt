use Rattle.std.proofs.Common.{List, subst, refl}
use Rattle.std.proofs.lemmas.Result.{err_from_is_err_and}
use Rattle.slnf_flight.specs.declared.lanes.Lane.{Lane}
use Rattle.slnf_check.specs.declared.given.Given.{Given}
use Rattle.slnf_check.specs.Answers.{IfRefused}
use Rattle.slnf_check.specs.Checks.{AreRefused}
use Rattle.slnf_top.specs.Refused.{status_of_check}
use Rattle.slnf_top.proofs.Judging.{breaks_by}
use Rattle.slnf_top.proofs.checks.accepted_file.Goals as goal

pub returns-in_err-accepted-clause-refused : goal.returns-in_err-accepted-clause-refused
returns-in_err-accepted-clause-refused c =
    let inputs = c.args.inputs.now in
    let files = c.args.files.now in
    let error = c.in_err-accepted.field-0.0 in
    let p = err_from_is_err_and c.from_residual.result c.from_residual.ensures.1 in
    rw (p.1, p.2) (breaks_by (AreRefused inputs.plan inputs.captures.lanes inputs.captures.given files) error
    (status_of_check error) refl
    (subst (λ (ls : List Lane). IfRefused (AreRefused inputs.plan ls inputs.captures.given files) error)
    c.as_slice-lanes.ensures
    (subst (λ (gs : List Given). IfRefused (AreRefused inputs.plan c.as_slice-lanes.result.now gs files) error)
    c.as_slice-given.ensures
    c.in_err-accepted.ensures.refused)))
