-- one entry more
use Rattle.std.proofs.Common.{sym, subst, ◌∙◌}
use Rattle.slnf_flight.specs.PlanSetting.{setting_of}
use Rattle.slnf_replay.specs.Follows.{AreInHand}
use Rattle.slnf_replay.proofs.HandsAfter.{empty_hands}
use Rattle.slnf_replay.proofs.Marks.{no_marks, marks_fit, marks_next}
use Rattle.slnf_replay.proofs.Scenes.{has_places}
use Rattle.slnf_replay.proofs.places.places_of.Goals as goal

pub loop-number-init : goal.loop-number-init
loop-number-init c = record {
  hands = subst (AreInHand (setting_of c.args.plan.now c.args.lanes.now).scene c.args.seats.now c.args.journal.now 0)
      (sym c.make-hands.ensures)
      (empty_hands (setting_of c.args.plan.now c.args.lanes.now).scene c.args.seats.now c.args.journal.now);
  places = c.in_ok-places.ensures.items_if_clones_equal (λ y same. same)
      ∙ no_marks (setting_of c.args.plan.now c.args.lanes.now).scene c.args.journal.now;
}

pub mark-requires : goal.mark-requires
mark-requires c =
    marks_fit (setting_of c.args.plan.now c.args.lanes.now).scene c.args.journal.now
    (has_places c.args.plan.now.function c.args.plan.now.epochs c.args.lanes.now c.args.journal.now)
    c.loop-number.number c.in_ok-place.place c.loop-number.places.items c.in_ok-place.ensures.place
    c.loop-number.invariant.places

pub loop-number-preserved : goal.loop-number-preserved
loop-number-preserved c = record {
  hands = c.in_ok-place.ensures.hands;
  places = marks_next (setting_of c.args.plan.now c.args.lanes.now).scene c.args.journal.now
      (has_places c.args.plan.now.function c.args.plan.now.epochs c.args.lanes.now c.args.journal.now)
      c.loop-number.number c.in_ok-place.place c.loop-number.places.items c.mark.new.places.items
      c.in_ok-place.ensures.place c.loop-number.invariant.places c.mark.ensures;
}
