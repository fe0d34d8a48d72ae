use Rattle.std.proofs.Common.{map}
use Rattle.std.specs.Prelude.{string_bytes}
use Rattle.std.proofs.lemmas.Result.{err_from_is_err_and}
use Rattle.slnf_top.proofs.AllRead.{refused_plan, refused_behind, all_read}
use Rattle.slnf_top.proofs.inputs.read_inputs.Goals as goal

pub returns-in_err-plan-clause-refused : goal.returns-in_err-plan-clause-refused
returns-in_err-plan-clause-refused g c =
    let p = err_from_is_err_and c.from_residual.result c.from_residual.ensures.1 in
    rw (p.1, p.2) (refused_plan c.args.plan.now (map string_bytes c.args.names.now)
    (g.S.Shelf.faults c.args.shelf.now)
    (g.S.Shelf.faults c.read_plan_file.new.shelf) (g.S.Shelf.holds c.args.shelf.now)
    c.in_err-plan.field-0.0 c.in_err-plan.ensures.refused)

pub returns-clause-read : goal.returns-clause-read
returns-clause-read g c =
    all_read c.args.plan.now (map string_bytes c.args.names.now) (g.S.Shelf.holds c.args.shelf.now)
    (g.S.Shelf.holds c.read_plan_file.new.shelf) c.in_ok-plan.plan c.in_ok-captures.captures
    c.read_plan_file.ensures.files
    c.in_ok-plan.ensures.plan c.in_ok-captures.ensures.read

pub returns-in_err-captures-clause-refused : goal.returns-in_err-captures-clause-refused
returns-in_err-captures-clause-refused g c =
    let p = err_from_is_err_and c.from_residual-in_err-captures.result c.from_residual-in_err-captures.ensures.1 in
    rw (p.1, p.2) (refused_behind c.args.plan.now (map string_bytes c.args.names.now)
    (g.S.Shelf.faults c.args.shelf.now)
    (g.S.Shelf.faults c.read_plan_file.new.shelf) (g.S.Shelf.faults c.read_captures.new.shelf)
    (g.S.Shelf.holds c.args.shelf.now) (g.S.Shelf.holds c.read_plan_file.new.shelf) c.in_ok-plan.plan
    c.in_err-captures.field-0.0 c.read_plan_file.ensures.counts c.read_plan_file.ensures.files
    c.in_ok-plan.ensures.plan
    c.in_err-captures.ensures.refused)
