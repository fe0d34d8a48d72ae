use Rattle.std.proofs.Common.{◌≡◌, [], drop, length}
use Rattle.toml.specs.View.{items_view}
use Rattle.slnf_plan.specs.Plans.{instance_table}
use Rattle.slnf_plan.specs.Tables.{elements}
use Rattle.slnf_plan.proofs.instances.instances.Given as goal

abbrev pub invariant-loop-value : goal.invariant-loop-value
invariant-loop-value l = record {
  count : length l.items.items ≡ l.value-index;
  so_far : elements instance_table l.items.items
      (items_view (drop l.value-index l.values)) ≡ elements instance_table [] (items_view l.values);
}
