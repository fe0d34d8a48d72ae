-- the laws of the plan's setting at the epoch give each actor's job
use Rattle.std.proofs.Common.{sym, subst}
use Rattle.slnf_flight.specs.Functions.{IsFunctionOf}
use Rattle.slnf_crew.proofs.Hired.{has_epoch, hired_job}
use Rattle.slnf_crew.proofs.theorems.actors_have_jobs.Goals as goal

pub returns : goal.returns
returns c plan lanes number base epoch function places k actor work at base_is of_plan actor_at works =
    hired_job plan lanes number base epoch function places
    (has_epoch plan lanes number base epoch function at base_is
    (subst (λ o. IsFunctionOf plan.function o function) (sym at) of_plan)
    (c.plan_begins_so.ensures.machine plan lanes)
    (λ o of i item packet. c.function_is_plans.ensures.starts plan.function o function of i item packet)
    (λ j item i there. c.plan_begins_so.ensures.instance plan lanes number j item epoch i at there)
    (λ item pool stop is sweeps.
    c.plan_begins_so.ensures.sweep plan lanes number item epoch pool stop is at sweeps))
    k actor work actor_at works
