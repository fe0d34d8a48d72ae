-- one lane more without a verdict
use Rattle.std.proofs.Common.{map, ap, ◌∙◌, arith}
use Rattle.slnf_ledger.specs.Ledger.{verdicts_at}
use Rattle.slnf_ledger.proofs.Filling.{none_more}
use Rattle.slnf_ledger.proofs.ledgers.Ledger.make.Goals as goal

pub loop-alloc-preserved : goal.loop-alloc-preserved
loop-alloc-preserved c = record {
  most = omega (arith, c.in_ok-push.ensures.len, c.loop-alloc-test.true, c.len.ensures);
  none = λ lane. ap (λ l. verdicts_at (map (λ v. v.items) l) lane) c.in_ok-push.ensures.items
      ∙ none_more c.loop-alloc.lanes.items _ lane c.new.ensures.items c.loop-alloc.invariant.none;
}
