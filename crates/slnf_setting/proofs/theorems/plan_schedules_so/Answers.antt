use Rattle.slnf_setting.proofs.PlanSchedules.{run_of_schedule, stamps_of_schedule}
use Rattle.slnf_setting.proofs.theorems.plan_schedules_so.Goals as goal

pub returns : goal.returns
returns c = record { run = run_of_schedule; stamps = stamps_of_schedule }
