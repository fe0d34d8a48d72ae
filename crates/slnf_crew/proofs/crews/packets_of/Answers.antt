-- one instance's items more
use Rattle.std.proofs.Common.{◌≡◌, ◌+◌, Some, slice_get, ap, arith}
use Rattle.slnf_plan.specs.declared.plan.InstancePlan.{InstancePlan}
use Rattle.slnf_flight.specs.Lanes.{packets_on}
use Rattle.slnf_crew.specs.Errands.{items_work}
use Rattle.slnf_crew.specs.Items.{packets_work}
use Rattle.slnf_crew.proofs.Pushes.{pushed, read_at}
use Rattle.slnf_crew.proofs.crews.packets_of.Goals as goal

pub loop-number-preserved : goal.loop-number-preserved
loop-number-preserved c = record {
  count = omega (arith, c.in_ok-push.ensures.len, c.loop-number.invariant.count);
  each = λ k item i there at.
      pushed (λ j x. (p : InstancePlan) → slice_get c.args.instances.now j ≡ Some p → items_work x
      ≡ packets_work c.args.function.now (packets_on c.args.lanes.now p.lane) (c.args.base + j))
      c.loop-number.items.items c.push.new.self.items _ c.loop-number.number c.in_ok-push.ensures.items
      c.loop-number.invariant.count (λ j x x_at p p_at. c.loop-number.invariant.each j x p x_at p_at)
      (read_at (λ p. packets_work c.args.function.now c.packets_on-packets.result.now
      (c.args.base + c.loop-number.number)
      ≡ packets_work c.args.function.now (packets_on c.args.lanes.now p.lane) (c.args.base + c.loop-number.number))
      c.args.instances.now c.loop-number.number _ (omega arith)
      (ap (λ l. packets_work c.args.function.now l (c.args.base + c.loop-number.number)) c.packets_on-packets.ensures))
      k item there i at;
}
