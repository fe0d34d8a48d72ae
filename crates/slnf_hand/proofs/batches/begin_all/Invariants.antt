-- items were taken
use Rattle.std.proofs.Common.{◌-◌, ◌≤◌, length, vec_capacity}
use Rattle.slnf_instance.specs.Errands.{job_in}
use Rattle.slnf_instance.specs.Batches.{IsTaking}
use Rattle.slnf_hand.proofs.batches.begin_all.Given as goal

abbrev pub invariant-loop : goal.invariant-loop
invariant-loop g l = record {
  taking : IsTaking (job_in (g.T.Items.work l.items) l.errand) l.from l.flights.items l.firsts.items;
  flights_room : l.errand.batch ≤ vec_capacity l.flights;
  firsts_room : l.errand.batch ≤ vec_capacity l.firsts;
}

abbrev pub decreases-loop : goal.decreases-loop
decreases-loop g l = l.errand.batch - length l.flights.items
