use Rattle.std.proofs.Common.{◌≡◌, true, refl}
use Rattle.toml.specs.View.{table_view}
use Rattle.slnf_plan.specs.declared.function_kind.FunctionKind.TheVariants as kinds
use Rattle.slnf_plan.specs.declared.plan.FunctionPlan.TheVariants.{Balancer}
use Rattle.slnf_plan.specs.Plain.{plain_function}
use Rattle.slnf_plan.specs.Plans.{function_row}
use Rattle.slnf_plan.specs.Ranges.{fits_function}
use Rattle.slnf_plan.proofs.Laws.{given_ok}
use Rattle.slnf_plan.proofs.FunctionLaws.{fits_of}
use Rattle.slnf_plan.proofs.functions.function_at.Goals as goal

pub returns-in-Firewall-clause-fits : goal.returns-in-Firewall-clause-fits
unfolding function_row
returns-in-Firewall-clause-fits c =
    let ms = table_view c.args.table.now in
    given_ok plain_function (λ f. fits_function f ≡ true) c.required-in-Firewall.result
    (function_row kinds.Firewall ms) (fits_of kinds.Firewall ms) c.required-in-Firewall.ensures

pub returns-in_ok-service-in-Balancer-clause-fits : goal.returns-in_ok-service-in-Balancer-clause-fits
unfolding function_row
returns-in_ok-service-in-Balancer-clause-fits c =
    let ms = table_view c.args.table.now in
    fits_of kinds.Balancer ms (Balancer c.in_ok-service-in-Balancer.service) (rw c.in_ok-service-in-Balancer.ensures refl)
