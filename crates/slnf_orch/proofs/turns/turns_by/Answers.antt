-- one turn more
use Rattle.std.proofs.Common.{◌≤◌, ◌∙◌, length, refl, arith}
use Rattle.slnf_orch.proofs.Rounds.{turned-first, turned-next, turned-last}
use Rattle.slnf_orch.proofs.turns.turns_by.Goals as goal

pub loop-number-init : goal.loop-number-init
loop-number-init g c = record {
  room = c.requires.room;
  clocks = refl;
  instances = refl;
  count = refl;
  turned = λ stage m h. turned-first g.T.Items.work stage m _ _ h;
}

pub loop-number-preserved : goal.loop-number-preserved
loop-number-preserved g c =
    let moved = c.in_ok-turn_at.ensures in
    record {
      room = moved.room;
      clocks = moved.clocks ∙ c.loop-number.invariant.clocks;
      instances = moved.instances ∙ c.loop-number.invariant.instances;
      count = moved.count ∙ c.loop-number.invariant.count;
      turned = λ stage m h.
          turned-next g.T.Items.work stage m c.args.numbers.now c.loop-number.number-index _ _ _
          c.loop-number-test.true (c.loop-number.invariant.turned stage m h) (moved.turned stage);
    }

pub returns-clause-turned : goal.returns-clause-turned
returns-clause-turned g c stage m h =
    let done : length c.args.numbers.now ≤ c.loop-number.number-index = omega (arith) in
    turned-last g.T.Items.work stage m c.args.numbers.now c.loop-number.number-index _ done
    (c.loop-number.invariant.turned stage m h)
