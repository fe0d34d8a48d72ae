-- what is there, and what the actors that are left give, are all
use Rattle.std.proofs.Common.{◌≡◌, ◌≤◌, ◌++◌, ℕ, List, drop, length}
use Rattle.std.specs.Vec.Iter.{into_iter_items}
use Rattle.slnf_access.specs.declared.requests.Entry.{Entry}
use Rattle.slnf_plan.specs.declared.plan.InstancePlan.{InstancePlan}
use Rattle.slnf_run.specs.Jobs.{Job}
use Rattle.slnf_ledger.specs.Ledger.{verdicts_at, given_from}
use Rattle.slnf_orch.specs.Hiring.{DoStand}
use Rattle.slnf_orch.proofs.crews.hand_over.Given as goal

abbrev pub invariant-loop-actor : goal.invariant-loop-actor
invariant-loop-actor g l = record {
  rest : into_iter_items l.actor-iterator ≡ drop l.number l.fn.crew.items;
  count : length l.ledger ≡ length l.fn.ledger;
  given : (jobs : ℕ → InstancePlan → Job g.row.T-Flight.Denot) (owns : ℕ → List Entry) →
      length l.instances ≤ length l.fn.crew.items → DoStand g.T.Items.work jobs owns l.fn.crew.items l.instances →
      (lane : ℕ) → verdicts_at l.ledger lane ++ given_from jobs owns l.number (drop l.number l.instances) lane
      ≡ verdicts_at l.fn.ledger lane ++ given_from jobs owns 0 l.instances lane;
}
