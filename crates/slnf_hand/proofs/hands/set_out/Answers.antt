-- the first batch of which an item flies is in hand
use Rattle.std.proofs.Common.{subst}
use Rattle.slnf_instance.specs.Errands.{job_in}
use Rattle.slnf_hand.specs.Reached.{DealsOn}
use Rattle.slnf_hand.specs.Progress.{reached}
use Rattle.slnf_hand.proofs.Setting.{first_dealt}
use Rattle.slnf_hand.proofs.hands.set_out.Goals as goal

pub returns : goal.returns
returns g c =
    let work = g.T.Items.work c.args.items.now in
    let new = c.in_ok-progress.ensures in
    first_dealt work c.args.errand c.in_ok-progress.progress c.deal.new.progress new c.deal.ensures.same
    c.deal.ensures.fits
    (subst (λ e. DealsOn (job_in work e) (reached c.in_ok-progress.progress) (reached c.deal.new.progress))
    new.errand_is c.deal.ensures.deals)
