use Rattle.std.proofs.Common.{◌≡◌, [], map, drop, length}
use Rattle.toml.specs.View.{items_view}
use Rattle.slnf_plan.specs.Tables.{elements}
use Rattle.slnf_plan.proofs.lists.elements.Given as goal

abbrev pub invariant-loop-value : goal.invariant-loop-value
invariant-loop-value g l = record {
  count : length l.items.items ≡ l.value-index;
  so_far : elements (λ _. g.K.Kind.reads l.element) (map g.K.Kind.plain l.items.items)
      (items_view (drop l.value-index l.values)) ≡ elements (λ _. g.K.Kind.reads l.element) [] (items_view l.values);
}
