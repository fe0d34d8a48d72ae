-- an instance's lane has these too, and no lane has what is behind the instances
use Rattle.std.proofs.Common.{◌++◌, ◌∙◌, None, get_or, sym, ap, arith, append-nil}
use Rattle.std.proofs.lemmas.Option.{slice_get-get_or}
use Rattle.slnf_plan.specs.declared.plan.InstancePlan.{InstancePlan}
use Rattle.slnf_ledger.specs.Ledger.{verdicts_at, added_by}
use Rattle.slnf_ledger.proofs.Handing.{added_to, none_there}
use Rattle.slnf_ledger.proofs.works.add_work.Goals as goal

abbrev none : InstancePlan
none = record { lane = 0; quota = None; stop = None }

pub returns-in_ok-add-clause-added : goal.returns-in_ok-add-clause-added
returns-in_ok-add-clause-added c lane =
    let i : InstancePlan = get_or c.args.instances.now c.args.number none in
    let at = slice_get-get_or c.args.instances.now c.args.number none (omega arith) in
    ap (λ l. verdicts_at l lane) c.in_ok-add.ensures
    ∙ (added_to c.args.ledger.now i.lane lane c.args.verdicts.now (c.requires i at)
    ∙ ap (λ o. verdicts_at c.args.ledger.now lane ++ added_by o c.args.verdicts.now lane) (sym at))

pub returns-else-number-instances-clause-added : goal.returns-else-number-instances-clause-added
returns-else-number-instances-clause-added c lane =
    sym (append-nil (verdicts_at c.args.ledger.now lane))
    ∙ ap (λ o. verdicts_at c.args.ledger.now lane ++ added_by o c.args.verdicts.now lane)
    (sym (none_there c.args.instances.now c.args.number (omega arith)))
