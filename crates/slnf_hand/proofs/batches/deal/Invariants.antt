-- batches of which none flies were taken
use Rattle.std.proofs.Common.{◌-◌, ◌+◌, ℕ, length}
use Rattle.slnf_instance.specs.Errands.{job_in}
use Rattle.slnf_hand.specs.Reached.{IsDealtTo, end_of}
use Rattle.slnf_hand.specs.Progress.{reached, Fits, IsSameCount}
use Rattle.slnf_hand.proofs.Dealing.{GoesTo}
use Rattle.slnf_hand.proofs.batches.deal.Given as goal

abbrev pub invariant-loop-progress : goal.invariant-loop-progress
invariant-loop-progress g l = record {
  fits : Fits l.progress;
  same : IsSameCount l.fn.progress l.progress;
  goes : (number : ℕ)
      → IsDealtTo (job_in (g.T.Items.work l.items) l.fn.progress.errand) number (end_of (reached l.fn.progress))
      → GoesTo (job_in (g.T.Items.work l.items) l.fn.progress.errand) number (reached l.fn.progress)
      (reached l.progress);
}

abbrev pub decreases-loop-progress : goal.decreases-loop-progress
decreases-loop-progress g l = l.progress.errand.end - (l.progress.from + length l.progress.flights.items)
