use Rattle.std.proofs.Common.{◌∙◌, map, refl, sym}
use Rattle.std.specs.Prelude.{string_bytes}
use Rattle.std.proofs.lemmas.Result.{err_from_is_err_and}
use Rattle.slnf_top.specs.Words.{Check, plan_named}
use Rattle.slnf_top.proofs.RunFiles.{outputs_count}
use Rattle.slnf_top.proofs.Stepping.{few_lanes, told_length}
use Rattle.slnf_top.proofs.Judging.{inputs_read, inputs_refused, all_read, products_ended, breaks_ended, accepted_found, check_refused}
use Rattle.slnf_top.proofs.checks.accept.Goals as goal

pub accepted_file-requires-clause-few_lanes : goal.accepted_file-requires-clause-few_lanes
accepted_file-requires-clause-few_lanes g c =
    let words = c.args.words.now in
    few_lanes string_bytes words.captures.now words.plan.now (g.S.Shelf.holds c.args.shelf.now) c.in_ok-inputs.inputs
    words.few c.in_ok-inputs.ensures.read c.in_ok-inputs.inputs.captures.lanes refl

pub accepted_file-requires-clause-outputs : goal.accepted_file-requires-clause-outputs
accepted_file-requires-clause-outputs g c =
    let names = map string_bytes c.args.words.now.captures.now in
    outputs_count c.args.words.now.out.now names (g.S.Shelf.holds c.read_inputs.new.shelf) c.in_ok-files.files
    c.in_ok-files.ensures.told
    ∙ sym (told_length (g.S.Shelf.holds c.args.shelf.now) names c.in_ok-inputs.inputs.captures.given
    c.in_ok-inputs.ensures.read.are_told)

pub returns-in_err-inputs-clause-ended : goal.returns-in_err-inputs-clause-ended
returns-in_err-inputs-clause-ended g c =
    let p = err_from_is_err_and c.from_residual.result c.from_residual.ensures.1 in
    rw (p.1, p.2) (check_refused (plan_named c.args.words.now) c.in_err-inputs.field-0.0 _ _ _ _
    (inputs_refused (plan_named c.args.words.now) _ _ _ _ c.in_err-inputs.field-0.0 c.read_inputs.ensures.counts c.in_err-inputs.ensures.still
    c.read_inputs.ensures.files c.in_err-inputs.ensures.refused))

pub returns-in_err-files-clause-ended : goal.returns-in_err-files-clause-ended
returns-in_err-files-clause-ended g c =
    let inputs = c.in_ok-inputs.inputs in
    let p = err_from_is_err_and c.from_residual-in_err-files.result c.from_residual-in_err-files.ensures.1 in
    rw (p.1, p.2) (products_ended (plan_named c.args.words.now) inputs _ _ _ _ _ _ c.in_ok-inputs.ensures.read
    (inputs_read (plan_named c.args.words.now) _ _ _ _ inputs c.in_ok-inputs.ensures.read c.read_inputs.ensures.counts
    c.in_ok-inputs.ensures.no_fault c.read_inputs.ensures.files)
    c.in_err-files.field-0.0 c.in_err-files.ensures.refused)

pub returns-in_err-accepted-clause-ended : goal.returns-in_err-accepted-clause-ended
returns-in_err-accepted-clause-ended g c =
    let inputs = c.in_ok-inputs.inputs in
    let read = inputs_read (plan_named c.args.words.now) _ _ _ _ inputs c.in_ok-inputs.ensures.read
    c.read_inputs.ensures.counts c.in_ok-inputs.ensures.no_fault c.read_inputs.ensures.files in
    let p = err_from_is_err_and c.from_residual-in_err-accepted.result c.from_residual-in_err-accepted.ensures.1 in
    rw (p.1, p.2) (breaks_ended _ inputs _ _ _ _ _ _ c.in_ok-inputs.ensures.read read
    c.in_ok-files.files c.in_ok-files.ensures.told c.in_err-accepted.field-0.0
    c.in_err-accepted.ensures.refused
    (all_read _ inputs _ _ _ _ _ _ c.in_ok-inputs.ensures.read read c.in_ok-files.ensures.read))

pub returns : goal.returns
returns g c =
    let inputs = c.in_ok-inputs.inputs in
    let read = inputs_read (plan_named c.args.words.now) _ _ _ _ inputs c.in_ok-inputs.ensures.read
    c.read_inputs.ensures.counts c.in_ok-inputs.ensures.no_fault c.read_inputs.ensures.files in
    let both =
    c.write_found.ensures (Check (plan_named c.args.words.now)) inputs.captures.tally (g.S.Shelf.faults c.args.shelf.now)
    (g.S.Shelf.holds c.args.shelf.now)
    (all_read _ inputs _ _ _ _ _ _ c.in_ok-inputs.ensures.read read c.in_ok-files.ensures.read)
    (accepted_found _ inputs _ _ (g.S.Shelf.faults c.read_products.new.shelf) _ _ (g.S.Shelf.holds c.read_products.new.shelf)
    c.in_ok-inputs.ensures.read read
    c.in_ok-files.files c.in_ok-files.ensures.told c.in_ok-accepted.accepted
    c.in_ok-accepted.ensures.accepted) in
    record { accepted = both.0; ended = both.1 }
