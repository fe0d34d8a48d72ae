-- What a plan's schedule makes.
use Rattle.std.proofs.Common.{◌<◌, ◌^◌, List, length}
use Rattle.slnf_access.specs.declared.requests.Entry.{Entry}
use Rattle.slnf_plan.specs.declared.plan.Plan.{Plan}
use Rattle.slnf_run.specs.Run.{IsRun}
use Rattle.slnf_run.specs.Scheduled.{usual_way, IsScheduled}
use Rattle.slnf_run.specs.Stamps.{HasClockStamps}
use Rattle.slnf_run.proofs.Ways.{usual_lawful}
use Rattle.slnf_run.proofs.Scheduling.{scheduled_is_run}
use Rattle.slnf_run.proofs.Clocked.{scheduled_clocked}
use Rattle.slnf_flight.specs.declared.lanes.Lane.{Lane}
use Rattle.slnf_flight.specs.PlanSetting.{setting_of}

-- The journal is a run of the plan's setting,
pub run_of_schedule : (plan : Plan) (lanes : List Lane) (j : List Entry) →
    IsScheduled (setting_of plan lanes) (usual_way (setting_of plan lanes).eras) j → length j < 2 ^ 62 →
    IsRun (setting_of plan lanes) j
run_of_schedule plan lanes j scheduled short =
    scheduled_is_run (setting_of plan lanes) (usual_way (setting_of plan lanes).eras)
    (usual_lawful (setting_of plan lanes).eras) j scheduled short

-- and has the clock's stamps.
pub stamps_of_schedule : (plan : Plan) (lanes : List Lane) (j : List Entry) →
    IsScheduled (setting_of plan lanes) (usual_way (setting_of plan lanes).eras) j →
    HasClockStamps (setting_of plan lanes) j
stamps_of_schedule plan lanes j scheduled = scheduled_clocked (setting_of plan lanes) j scheduled
