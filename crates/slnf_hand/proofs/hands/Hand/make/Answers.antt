-- the hand is that of an actor before its first entry
use Rattle.std.proofs.Common.{ap}
use Rattle.slnf_instance.specs.Errands.{job_in}
use Rattle.slnf_hand.proofs.hands.Hand.make.Goals as goal

pub returns : goal.returns
returns g c =
    let first = c.in_ok-progress.ensures in
    record {
      job_is = ap (job_in (g.T.Items.work c.args.items.now)) first.errand_is;
      holds = first.holds;
    }
