use Rattle.std.proofs.Common.{arith}
use Rattle.slnf_gen.proofs.Laws.{instances-more}
use Rattle.slnf_gen.proofs.plan.plan_text.Goals as goal

pub loop-lane-preserved : goal.loop-lane-preserved
loop-lane-preserved c =
    instances-more _ _ _ _ _
    (omega arith) c.loop-lane.invariant c.in_ok-extend_from_slice.ensures.items c.in_ok-push_instance-2.ensures
