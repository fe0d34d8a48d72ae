-- one packet more
use Rattle.std.proofs.Common.{◌+◌, sym, ap, ◌∙◌, arith}
use Rattle.std.proofs.lemmas.Option.{slice_get-get_or}
use Rattle.slnf_flight.specs.Begins.{begins_with}
use Rattle.slnf_verdicts.specs.Standings.{standing_at, begun_of}
use Rattle.slnf_verdicts.proofs.Numbers.{map_next}
use Rattle.slnf_verdicts.proofs.standings.begin_all.Goals as goal

pub loop-place-preserved : goal.loop-place-preserved
loop-place-preserved g c =
    map_next (λ number. standing_at (begun_of ((g.F.Function.behaviour c.args.function.now).begins
    c.args.incarnation) c.args.packets.now number))
    c.args.at c.args.count c.loop-place.place c.loop-place.standings.items c.push.new.self.items _ c.started.result
    (omega arith)
    (c.started.ensures ∙ ap standing_at (c.begin.ensures
    ∙ ap (begins_with ((g.F.Function.behaviour c.args.function.now).begins c.args.incarnation
    (c.args.at + c.loop-place.place)))
    (sym (slice_get-get_or c.args.packets.now (c.args.at + c.loop-place.place) _
    (omega (arith, c.requires.inside))))))
    c.in_ok-push.ensures.items c.loop-place.invariant
