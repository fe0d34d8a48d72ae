-- what one actor gives, and the others
use Rattle.std.proofs.Common.{◌≤◌, ◌++◌, ◌∙◌, length, sym, ap, arith, append-nil}
use Rattle.std.proofs.Math.ListN.{drop_of_length-le}
use Rattle.std.proofs.lemmas.List.{nil_from_length}
use Rattle.std.specs.Vec.Iter.{into_iter_items}
use Rattle.slnf_ledger.specs.Ledger.{verdicts_at, given_from}
use Rattle.slnf_ledger.proofs.Handing.{at_drop, handed_step, none_left}
use Rattle.slnf_orch.proofs.crews.hand_over.Goals as goal

pub loop-actor-preserved : goal.loop-actor-preserved
loop-actor-preserved g c =
    let there = at_drop c.args.crew.items c.loop-actor.number c.in-Some.actor _
    (sym c.loop-actor.invariant.rest ∙ c.in-Some.ensures.steps.0) in
    record {
      rest = there.1;
      count = c.in_ok-add_work.ensures.count ∙ c.loop-actor.invariant.count;
      given = λ jobs owns long stand lane.
          handed_step jobs owns lane c.args.instances.now c.loop-actor.number c.as_slice.result.now
          (verdicts_at c.loop-actor.ledger lane) (verdicts_at c.add_work.new.ledger lane) _
          (c.in_ok-add_work.ensures.added lane)
          (λ i at. c.as_slice.ensures.value
          ∙ c.finish-work.ensures.verdicts (jobs c.loop-actor.number i) (owns c.loop-actor.number)
          (stand c.loop-actor.number c.in-Some.actor i there.0 at))
          (c.loop-actor.invariant.given jobs owns long stand lane);
    }

pub returns-clause-given : goal.returns-clause-given
returns-clause-given g c jobs owns long stand lane =
    let done : length c.args.crew.items ≤ c.loop-actor.number =
    none_left c.args.crew.items c.loop-actor.number (sym c.loop-actor.invariant.rest
    ∙ nil_from_length (into_iter_items c.loop-actor.actor-iterator)
    (omega (arith, c.in-None.ensures.steps.0, c.loop-actor.actor-iterator.rest.ok))) in
    sym (append-nil (verdicts_at c.loop-actor.ledger lane))
    ∙ (ap (λ l. verdicts_at c.loop-actor.ledger lane ++ given_from jobs owns c.loop-actor.number l lane)
    (sym (drop_of_length-le c.args.instances.now (omega arith)))
    ∙ c.loop-actor.invariant.given jobs owns long stand lane)
