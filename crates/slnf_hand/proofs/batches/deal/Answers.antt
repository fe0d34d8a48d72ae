-- the next batch is taken, and one of its items flies or none does
use Rattle.std.proofs.Common.{◌+◌, arith, ap, ◌∙◌, sym, subst}
use Rattle.slnf_run.specs.Jobs.{Job, offers_in}
use Rattle.slnf_instance.specs.declared.errands.Errand.{Errand}
use Rattle.slnf_instance.specs.Errands.{job_in}
use Rattle.slnf_local.specs.Hands.{items_in}
use Rattle.slnf_hand.specs.Reached.{some_fly, IsTaken, Rests}
use Rattle.slnf_hand.specs.Progress.{reached}
use Rattle.slnf_hand.proofs.Dealing.{takes, taken_flies, taken_ends, none_left}
use Rattle.slnf_hand.proofs.batches.deal.Goals as goal

pub returns-then-some_fly-clause-deals : goal.returns-then-some_fly-clause-deals
returns-then-some_fly-clause-deals g c number dealt =
    let job : Errand → Job _ = λ errand. job_in (g.T.Items.work c.args.items.now) errand in
    let inv = c.loop-progress.invariant in
    let j = job c.args.progress.now.errand in
    let goes = inv.goes number dealt in
    let old = reached c.loop-progress.progress in
    let new = reached c.take_batch.new.progress in
    let took = takes j goes.next old new c.requires.errand.batch
    (subst (λ e. IsTaken (job e) old new) inv.same.errand c.take_batch.ensures.taken) goes.dealt in
    let flies = ap some_fly (sym c.as_slice.ensures.value) ∙ (sym c.some_fly.ensures ∙ c.if-some_fly.true) in
    subst (λ next. Rests j next (items_in j.begins next (offers_in j)) new) (sym goes.same)
    (taken_flies j goes.next old new took flies)

pub loop-progress-preserved : goal.loop-progress-preserved
loop-progress-preserved g c =
    let job : Errand → Job _ = λ errand. job_in (g.T.Items.work c.args.items.now) errand in
    let inv = c.loop-progress.invariant in
    let j = job c.args.progress.now.errand in
    let same = c.take_batch.ensures.same in
    let old = reached c.loop-progress.progress in
    let new = reached c.take_batch.new.progress in
    let taken = subst (λ e. IsTaken (job e) old new) inv.same.errand c.take_batch.ensures.taken in
    let ends = ap some_fly (sym c.as_slice.ensures.value) ∙ (sym c.some_fly.ensures ∙ c.if-some_fly.false) in
    record {
      fits = c.take_batch.ensures.fits;
      same = record {
        errand = same.errand ∙ inv.same.errand;
        left = same.left ∙ inv.same.left;
        through = same.through ∙ inv.same.through;
      };
      goes = λ number dealt.
          let goes = inv.goes number dealt in
          let took = takes j goes.next old new c.requires.errand.batch taken goes.dealt in
          record {
            next = goes.next + 1;
            dealt = took.rest;
            same = goes.same ∙ taken_ends j goes.next old new took ends;
          };
    }

pub returns-clause-deals : goal.returns-clause-deals
returns-clause-deals g c number dealt =
    let job : Errand → Job _ = λ errand. job_in (g.T.Items.work c.args.items.now) errand in
    let inv = c.loop-progress.invariant in
    let j = job c.args.progress.now.errand in
    let progress = c.loop-progress.progress in
    none_left j number (reached c.args.progress.now) (reached progress)
    (record {
      left = progress.left;
      through = progress.through;
      from = progress.from;
      flights =
          c.clear.new.self.items;
    })
    (inv.goes number dealt)
    (omega (
      arith,
      c.loop-progress-test.false,
      c.len.ensures,
      progress.flights.ok.0,
      ap (λ (e : Errand). e.end) inv.same.errand,
      c.requires.errand.end,
    )) c.clear.ensures.items
