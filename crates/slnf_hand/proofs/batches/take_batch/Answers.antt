-- the next batch is taken
use Rattle.std.proofs.Common.{◌+◌, arith, ap, sym, ◌∙◌}
use Rattle.slnf_instance.specs.Works.{flights_at}
use Rattle.slnf_instance.specs.Errands.{job_in}
use Rattle.slnf_instance.proofs.Taking.{taking_none, size_some}
use Rattle.slnf_hand.proofs.batches.take_batch.Goals as goal

pub begin_all-requires-clause-taking : goal.begin_all-requires-clause-taking
begin_all-requires-clause-taking g c =
    let progress = c.args.progress.now in
    taking_none (job_in (g.T.Items.work c.args.items.now) progress.errand) (progress.from + c.len.result) _ _
    c.clear.ensures.items c.clear-2.ensures.items
    (omega (arith, c.len.ensures, progress.flights.ok.0, c.requires.more, c.requires.errand.end))

pub returns-clause-taken : goal.returns-clause-taken
returns-clause-taken g c =
    let progress = c.args.progress.now in
    let job = job_in (g.T.Items.work c.args.items.now) progress.errand in
    let taking = c.begin_all.ensures.taking in
    record {
      from = omega (arith, c.len.ensures, progress.flights.ok.0);
      size = c.begin_all.ensures.whole.size;
      flights = taking.flights_are ∙ ap (flights_at job.begins (progress.from + c.len.result)) (sym taking.count);
    }

pub returns-clause-some : goal.returns-clause-some
returns-clause-some g c =
    let progress = c.args.progress.now in
    let job = job_in (g.T.Items.work c.args.items.now) progress.errand in
    let some = size_some job (progress.from + c.len.result) c.requires.errand.batch
    (omega (arith, c.len.ensures, progress.flights.ok.0, c.requires.more, c.requires.errand.end)) in
    omega (arith, some, c.begin_all.ensures.whole.size)
