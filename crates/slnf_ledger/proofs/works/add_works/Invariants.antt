-- what is there, and what the actors that are left give, are all
use Rattle.std.proofs.Common.{◌≡◌, ◌++◌, ℕ, List, drop, length}
use Rattle.slnf_access.specs.declared.requests.Entry.{Entry}
use Rattle.slnf_plan.specs.declared.plan.InstancePlan.{InstancePlan}
use Rattle.slnf_run.specs.Jobs.{Job}
use Rattle.slnf_flight.specs.declared.flights.AnyFlight.{AnyFlight}
use Rattle.slnf_ledger.specs.Ledger.{verdicts_at, DidSo, given_from}
use Rattle.slnf_ledger.proofs.works.add_works.Given as goal

abbrev pub invariant-loop-number : goal.invariant-loop-number
invariant-loop-number l = record {
  count : length l.ledger ≡ length l.fn.ledger;
  given : (jobs : ℕ → InstancePlan → Job AnyFlight) (owns : ℕ → List Entry) → DidSo jobs owns l.works l.instances →
      (lane : ℕ) → verdicts_at l.ledger lane ++ given_from jobs owns l.number (drop l.number l.instances) lane
      ≡ verdicts_at l.fn.ledger lane ++ given_from jobs owns 0 l.instances lane;
}
