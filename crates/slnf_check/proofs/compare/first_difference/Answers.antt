use Rattle.std.proofs.Common.{sym, arith}
use Rattle.slnf_check.proofs.Agreement.{agree_more, least, differ_at, same_texts, one_ends}
use Rattle.slnf_check.proofs.compare.first_difference.Goals as goal

pub loop-place-init : goal.loop-place-init
loop-place-init c = λ i below. absurd (omega (arith, below))

pub returns-then-ones-place : goal.returns-then-ones-place
returns-then-ones-place c = record {
  place = sym (differ_at c.loop-place.place c.args.ones.now c.args.others.now c.loop-place.invariant
      (omega (arith, c.loop-place-test.true, c.min-most.ensures))
      (omega (arith, c.loop-place-test.true, c.min-most.ensures)) c.if-ones-place.true);
  within = omega (arith, c.loop-place-test.true, c.min-most.ensures);
}

pub loop-place-preserved : goal.loop-place-preserved
loop-place-preserved c =
    agree_more c.loop-place.place c.args.ones.now c.args.others.now c.loop-place.invariant c.if-ones-place.false

pub returns-then-ones-others : goal.returns-then-ones-others
returns-then-ones-others c = record {
  place = sym (same_texts c.args.ones.now c.args.others.now
      (λ i below. c.loop-place.invariant i
      (omega (arith, below, c.loop-place-test.false, c.min-most.ensures, c.if-ones-others.true)))
      c.if-ones-others.true);
  within = tt;
}

pub returns-else-ones-others : goal.returns-else-ones-others
returns-else-ones-others c = record {
  place = sym (one_ends c.min-most.result c.args.ones.now c.args.others.now
      (λ i below. c.loop-place.invariant i (omega (arith, below, c.loop-place-test.false)))
      (omega (arith, c.min-most.ensures)) (omega (arith, c.min-most.ensures))
      (least _ _ _ c.min-most.ensures) c.if-ones-others.false);
  within = omega (arith, c.min-most.ensures);
}
