-- one item more is taken, and its verdict is in its place
use Rattle.std.proofs.Common.{◌≡◌, ◌+◌, ◌∷◌, [], length, length-append, arith, ap, ◌∙◌}
use Rattle.slnf_run.specs.Verdicts.{verdict_at}
use Rattle.slnf_instance.proofs.Taking.{begun_next}
use Rattle.slnf_instance.proofs.batches.begin_all.Goals as goal

pub loop-verdict-preserved : goal.loop-verdict-preserved
loop-verdict-preserved g c =
    let inv = c.loop-verdict.invariant in
    let begins = (g.T.Items.work c.args.items.now).begins in
    let took = c.begin_next.ensures.took c.in-Some.verdict c.in-Some.is in
    let taking = c.begin_next.ensures.taking in
    let flights = c.loop-verdict.flights.items in
    let more : length c.begin_next.new.flights.items ≡ length flights + 1 =
    ap length took.flights ∙ length-append flights (_ ∷ []) in
    let len = c.begin_next.new.flights.ok.0 in
    record {
      taking = taking;
      verdicts =
          begun_next (λ item. verdict_at (begins item)) c.args.errand.now.at c.args.from (length flights) _ _ _
          c.loop-verdict.verdicts c.in-Some.verdict c.requires.from inv.verdicts
          (omega (
            arith,
            more,
            len,
            c.len.ensures,
            taking.inside,
            taking.count,
            c.loop-verdict.auto.verdicts,
            c.requires.verdicts,
            c.requires.from,
            c.requires.errand.end,
          ))
          took.verdict_is (omega (arith, more, len, c.len.ensures, c.requires.from)) more;
      flights_room = omega (arith, inv.flights_room, c.begin_next.ensures.flights_room);
      firsts_room = omega (arith, inv.firsts_room, c.begin_next.ensures.firsts_room);
    }
