use Rattle.std.proofs.Common.{None, sym, subst}
use Rattle.slnf_run.specs.Run.{IsRun}
use Rattle.slnf_flight.specs.PlanSetting.{setting_of}
use Rattle.slnf_check.proofs.Exactly.{run_where_none}
use Rattle.slnf_check.proofs.checks.follow.Goals as goal

pub returns-in-None-clause-followed : goal.returns-in-None-clause-followed
returns-in-None-clause-followed c =
    let s = setting_of c.args.plan.now c.args.lanes.now in
    record {
      read = sym c.in_ok-entries.ensures.value;
      run = subst (IsRun s) c.as_slice.ensures
          (run_where_none s c.as_slice.result.now ((c.in_ok-first_break.ensures.answer None).0 c.in-None.is));
    }
