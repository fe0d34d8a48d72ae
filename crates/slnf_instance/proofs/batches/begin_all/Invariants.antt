-- so many items were taken
use Rattle.std.proofs.Common.{◌-◌, ◌≤◌, length, vec_capacity}
use Rattle.slnf_run.specs.Verdicts.{verdict_at}
use Rattle.slnf_instance.specs.Errands.{job_in}
use Rattle.slnf_instance.specs.Batches.{IsTaking}
use Rattle.slnf_instance.specs.Hands.{AreBegun}
use Rattle.slnf_instance.proofs.batches.begin_all.Given as goal

abbrev pub invariant-loop-verdict : goal.invariant-loop-verdict
invariant-loop-verdict g l = record {
  taking : IsTaking (job_in (g.T.Items.work l.items) l.errand) l.from l.flights.items l.firsts.items;
  verdicts : AreBegun (λ item. verdict_at ((g.T.Items.work l.items).begins item)) l.errand.at l.from
      (length l.flights.items) l.fn.verdicts l.verdicts;
  flights_room : l.errand.batch ≤ vec_capacity l.flights;
  firsts_room : l.errand.batch ≤ vec_capacity l.firsts;
}

abbrev pub decreases-loop-verdict : goal.decreases-loop-verdict
decreases-loop-verdict g l = l.errand.batch - length l.flights.items
