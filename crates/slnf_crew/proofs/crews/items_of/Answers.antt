-- the instances' items, and the sweep's behind them
use Rattle.std.proofs.Common.{Vec, Global, ◌∙◌, [], ◌∷◌, slice_get, length, sym, ap, subst, append-nil}
use Rattle.slnf_crew.specs.declared.items.ActorItems.{ActorItems}
use Rattle.slnf_crew.specs.Errands.{AreItemsFor}
use Rattle.slnf_crew.proofs.PlanEpochs.{lanes_few}
use Rattle.slnf_crew.proofs.Staffing.{staffed, sweep_of_one}
use Rattle.slnf_crew.proofs.crews.items_of.Goals as goal
use Rattle.slnf_crew.proofs.crews.items_of.Goals.{in-No, in-Yes+in_ok-push-in-Yes}

pub packets_of-requires-clause-few : goal.packets_of-requires-clause-few
packets_of-requires-clause-few c = lanes_few c.args.lanes.now c.requires.few_packets

pub returns-clause-each : goal.returns-clause-each
returns-clause-each c = elim c.match-epoch.branch [
  | in-No w ↦
      subst (AreItemsFor c.args.function.now c.args.lanes.now c.args.base c.args.epoch.now)
      (append-nil c.in_ok-items.items.items
      ∙ sym (ap (λ (v : Vec ActorItems Global). v.items) w.items-is))
      (staffed c.args.function.now c.args.lanes.now c.args.base c.args.epoch.now c.in_ok-items.items.items []
      (c.in_ok-items.ensures.count ∙ ap length c.as_slice.ensures)
      (λ k item i item_at i_at. c.in_ok-items.ensures.each k item i item_at
      (ap (λ l. slice_get l k) c.as_slice.ensures ∙ i_at)) (λ m item stop there sweep. absurd (cc)))
  | in-Yes+in_ok-push-in-Yes w ↦
      subst (AreItemsFor c.args.function.now c.args.lanes.now c.args.base c.args.epoch.now)
      (sym (ap (λ (v : Vec ActorItems Global). v.items) w.items-is ∙ w.in_ok-push-in-Yes.ensures.items))
      (staffed c.args.function.now c.args.lanes.now c.args.base c.args.epoch.now c.in_ok-items.items.items (_ ∷ [])
      (c.in_ok-items.ensures.count ∙ ap length c.as_slice.ensures)
      (λ k item i item_at i_at. c.in_ok-items.ensures.each k item i item_at
      (ap (λ l. slice_get l k) c.as_slice.ensures ∙ i_at))
      (sweep_of_one c.args.function.now c.args.base c.args.epoch.now.sweep _ w.sweep_of.ensures))
]
