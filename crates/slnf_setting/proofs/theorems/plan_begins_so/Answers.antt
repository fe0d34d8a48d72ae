use Rattle.slnf_setting.proofs.Sees.{plan_sees_lanes}
use Rattle.slnf_setting.proofs.PlanBegins.{machine_is, instance_begins, sweep_begins}
use Rattle.slnf_setting.proofs.theorems.plan_begins_so.Goals as goal

pub returns : goal.returns
returns c = record { machine = machine_is; instance = instance_begins; sweep = sweep_begins; sees = plan_sees_lanes }
