-- the epochs so far have passed
use Rattle.slnf_threads.specs.UnderWay.{IsUnderWay}
use Rattle.slnf_threads.proofs.plans.pass_epochs.Given as goal

abbrev pub invariant-loop-number : goal.invariant-loop-number
invariant-loop-number g l = IsUnderWay l.plan l.lanes l.number l.run
