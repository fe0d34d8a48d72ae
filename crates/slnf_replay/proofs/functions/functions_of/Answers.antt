-- one epoch more
use Rattle.std.proofs.Common.{arith}
use Rattle.slnf_replay.proofs.Crews.{one_more}
use Rattle.slnf_replay.proofs.functions.functions_of.Goals as goal

pub loop-number-preserved : goal.loop-number-preserved
loop-number-preserved c = record {
  count = omega (arith, c.in_ok-push.ensures.len, c.loop-number.invariant.count);
  each = one_more c.args.plan.now.function c.args.plan.now.epochs c.loop-number.functions.items
      c.push.new.self.items _ c.loop-number.number c.loop-number.invariant.count c.in_ok-of.ensures.function
      c.in_ok-push.ensures.items c.loop-number.invariant.each;
}

pub returns : goal.returns
returns c = record {
  count = omega (arith, c.loop-number.invariant.count);
  each = c.loop-number.invariant.each;
}
