use Rattle.std.proofs.Common.{ℕ, ◌+◌, [], ◌∷◌, ap, ◌∙◌}
use Rattle.slnf_sum.specs.Sum.{adjusted}
use Rattle.slnf_sum.proofs.Laws.{adjusted-one, adjusted-push}
use Rattle.slnf_view.specs.Field.{word_at}
use Rattle.slnf_rewrite.proofs.adjust_address.Goals as goal

pub returns : goal.returns
returns c =
    let first = word_at c.args.frame.now c.args.place in
    let second = word_at c.args.frame.now (c.args.place + 2) in
    let high = c.halves-high.result.0 in
    let low = c.halves-high.result.1 in
    let both = ap (λ (check : ℕ). adjusted check second low) (adjusted-one c.args.check first high)
    ∙ adjusted-push c.args.check ((first, high) ∷ []) second low in
    cc
