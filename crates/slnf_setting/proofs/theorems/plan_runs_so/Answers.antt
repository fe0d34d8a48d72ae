use Rattle.slnf_setting.proofs.PlanRuns.{runs_of_plan, clocks_of_plan}
use Rattle.slnf_setting.proofs.theorems.plan_runs_so.Goals as goal

pub returns : goal.returns
returns c = record { runs = runs_of_plan; stamps = clocks_of_plan }
