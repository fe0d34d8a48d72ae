-- one number more
use Rattle.std.proofs.Common.{◌∙◌, ◌++◌, ◌∷◌, [], sym, ap, arith}
use Rattle.std.specs.List.{range_with_len}
use Rattle.slnf_orch.proofs.Live.{range_more}
use Rattle.slnf_orch.proofs.turns.numbers_of.Goals as goal

pub loop-number-preserved : goal.loop-number-preserved
loop-number-preserved c =
    c.in_ok-push.ensures.items
    ∙ (ap (λ l. l ++ c.loop-number.number ∷ []) c.loop-number.invariant
    ∙ (ap (λ n. range_with_len 0 c.loop-number.number ++ n ∷ []) (omega arith)
    ∙ sym (range_more 0 c.loop-number.number)))
