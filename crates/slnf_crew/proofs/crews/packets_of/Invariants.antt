-- the items so far
use Rattle.std.proofs.Common.{◌≡◌, ℕ, ◌+◌, Some, length, slice_get}
use Rattle.slnf_plan.specs.declared.plan.InstancePlan.{InstancePlan}
use Rattle.slnf_flight.specs.Lanes.{packets_on}
use Rattle.slnf_crew.specs.declared.items.ActorItems.{ActorItems}
use Rattle.slnf_crew.specs.Errands.{items_work}
use Rattle.slnf_crew.specs.Items.{packets_work}
use Rattle.slnf_crew.proofs.crews.packets_of.Given as goal

abbrev pub invariant-loop-number : goal.invariant-loop-number
invariant-loop-number l = record {
  count : length l.items.items ≡ l.number;
  each : (k : ℕ) (item : ActorItems) (i : InstancePlan) → slice_get l.items.items k ≡ Some item →
      slice_get l.instances k ≡ Some i → items_work item
      ≡ packets_work l.function (packets_on l.lanes i.lane) (l.base + k);
}
