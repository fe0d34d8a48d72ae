-- one empty part more
use Rattle.std.proofs.Common.{ap, ◌∙◌}
use Rattle.slnf_verdicts.specs.Tables.{lists, list_at}
use Rattle.slnf_verdicts.proofs.Tables.{empty_more}
use Rattle.slnf_verdicts.proofs.parts.reach.Goals as goal

pub loop-alloc-preserved : goal.loop-alloc-preserved
loop-alloc-preserved c = λ i.
    ap (λ l. list_at (lists l) i) c.in_ok-push.ensures.items
    ∙ (empty_more c.loop-alloc.parts.items _ i c.new.ensures.items ∙ c.loop-alloc.invariant i)
