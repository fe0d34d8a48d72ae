-- one packet more
use Rattle.std.proofs.Common.{◌≡◌, ◌+◌, slice_get, ap, ◌∙◌, arith}
use Rattle.slnf_verdicts.specs.Given.{or_left}
use Rattle.slnf_verdicts.proofs.Numbers.{map_next}
use Rattle.slnf_verdicts.proofs.rows.fill.Goals as goal

pub loop-number-preserved : goal.loop-number-preserved
loop-number-preserved c =
    let q : c.loop-number.number ≡ 0 + c.loop-number.number = omega arith in
    map_next (λ number. or_left (slice_get c.args.given.now number)) 0 c.args.count c.loop-number.number
    c.loop-number.row.items c.push.new.self.items _ c.verdict_at.result (omega arith)
    (c.verdict_at.ensures ∙ ap (λ number. or_left (slice_get c.args.given.now number)) q)
    c.in_ok-push.ensures.items c.loop-number.invariant
