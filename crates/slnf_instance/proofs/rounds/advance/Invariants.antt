-- the batch in hand is done, and the next one isn't taken yet
use Rattle.std.proofs.Common.{◌-◌, ◌+◌, ◌≡◌, List, [], length}
use Rattle.slnf_access.specs.declared.requests.Entry.{Entry}
use Rattle.slnf_instance.specs.Errands.{job_in}
use Rattle.slnf_instance.specs.Hands.{Fits, IsSameErrand, IsDone}
use Rattle.slnf_instance.proofs.rounds.advance.Given as goal

abbrev pub invariant-loop-hand : goal.invariant-loop-hand
invariant-loop-hand g l = record {
  fits : Fits l.hand;
  same : IsSameErrand l.fn.hand l.hand;
  none : l.hand.asks.items ≡ [];
  done : (own : List Entry)
      → IsDone (job_in (g.T.Items.work l.items) l.fn.hand.errand) own l.fn.hand
      → IsDone (job_in (g.T.Items.work l.items) l.fn.hand.errand) own l.hand;
}

abbrev pub decreases-loop-hand : goal.decreases-loop-hand
decreases-loop-hand g l = l.hand.errand.end - (l.hand.from + length l.hand.flights.items)
