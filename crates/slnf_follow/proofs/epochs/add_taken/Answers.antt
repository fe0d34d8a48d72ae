-- one actor more is counted
use Rattle.std.proofs.Common.{◌<◌, Some, ℕ, length, get_or, arith, sym, ap, ◌∙◌}
use Rattle.std.proofs.lemmas.List.{get_or_read, length-set}
use Rattle.std.proofs.lemmas.Option.{slice_get-get_or}
use Rattle.slnf_plan.specs.declared.plan.InstancePlan.{InstancePlan}
use Rattle.slnf_follow.specs.Follows.{come_to}
use Rattle.slnf_follow.proofs.Adding.{no_instance, one_more, one_added, room_left}
use Rattle.slnf_follow.proofs.epochs.add_taken.Goals as goal

pub loop-done-preserved : goal.loop-done-preserved
loop-done-preserved g c =
    let inv = c.loop-done.invariant in
    let instances = c.args.instances.now in
    let hands = c.args.hands.now in
    let n = c.loop-done.done in
    let i : InstancePlan = get_or instances n no_instance in
    let hand = c.index-hands-done.result in
    let at = slice_get-get_or instances n no_instance c.loop-done-test.true in
    let there = slice_get-get_or hands n hand (omega (arith, c.loop-done-test.true, c.requires.hands))
    ∙ ap Some (sym c.index-hands-done.is) in
    let own : i.lane < length c.loop-done.places.items = omega (arith, c.requires.lanes n i at, inv.count) in
    let more = λ (lane : ℕ). one_more c.loop-done.places.items i.lane lane c.index_mut.result.now c.taken-taken.result
    own (get_or_read c.loop-done.places.items i.lane _ own c.index_mut.ensures.value 0) in
    record {
      upto = omega (arith, c.loop-done-test.true);
      count = length-set c.loop-done.places.items i.lane _ ∙ inv.count;
      rest = λ lane. one_added lane n instances hands i hand c.taken-taken.result _ _ _ at there
          c.taken-taken.ensures.is (more lane) (inv.rest lane);
      room = λ lane. room_left i.lane lane n (length instances) c.taken-taken.result
          (come_to c.loop-done.places.items lane) _ c.loop-done-test.true c.taken-taken.ensures.few (more lane)
          (inv.room lane);
    }
