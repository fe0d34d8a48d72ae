-- one entry more
use Rattle.std.proofs.Common.{◌∙◌, arith}
use Rattle.slnf_verdicts.proofs.Partings.{part_next}
use Rattle.slnf_verdicts.proofs.parts.each_part.Goals as goal

pub loop-entry-preserved : goal.loop-entry-preserved
loop-entry-preserved c = λ i.
    part_next c.args.journal.now c.loop-entry.entry-index i _ c.reach.new.parts.items c.index_mut-part.result.now
    c.push.new.self (omega arith) (c.in_ok-reach.ensures.inside)
    c.index_mut-part.ensures.value c.in_ok-push.ensures.items
    (c.in_ok-reach.ensures.same i ∙ c.loop-entry.invariant i)
