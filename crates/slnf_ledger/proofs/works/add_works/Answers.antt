-- what one actor gives, and the others
use Rattle.std.proofs.Common.{◌≤◌, ◌++◌, ◌∙◌, length, sym, ap, arith, append-nil}
use Rattle.std.proofs.Math.ListN.{drop_of_length-le}
use Rattle.std.proofs.lemmas.Option.{slice_get-get_or}
use Rattle.slnf_ledger.specs.Ledger.{verdicts_at, given_from}
use Rattle.slnf_ledger.proofs.Handing.{handed_step}
use Rattle.slnf_ledger.proofs.works.add_works.Goals as goal

pub loop-number-preserved : goal.loop-number-preserved
loop-number-preserved c =
    let k = c.loop-number.number in
    let there = slice_get-get_or c.args.works.now k c.index-works-number.result c.loop-number-test.true in
    record {
      count = c.in_ok-add_work.ensures.count ∙ c.loop-number.invariant.count;
      given = λ jobs owns did lane.
          handed_step jobs owns lane c.args.instances.now k c.as_slice.result.now
          (verdicts_at c.loop-number.ledger lane) (verdicts_at c.add_work.new.ledger lane) _
          (c.in_ok-add_work.ensures.added lane)
          (λ i at. c.as_slice.ensures.value ∙ did k _ i there at)
          (c.loop-number.invariant.given jobs owns did lane);
    }

pub returns-clause-given : goal.returns-clause-given
returns-clause-given c jobs owns did lane =
    let done : length c.args.works.now ≤ c.loop-number.number = omega (arith, c.loop-number-test.false) in
    sym (append-nil (verdicts_at c.loop-number.ledger lane))
    ∙ (ap (λ l. verdicts_at c.loop-number.ledger lane ++ given_from jobs owns c.loop-number.number l lane)
    (sym (drop_of_length-le c.args.instances.now (omega (arith, done, c.requires.works))))
    ∙ c.loop-number.invariant.given jobs owns did lane)
