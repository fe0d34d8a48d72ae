-- a new hand goes to its first access
use Rattle.std.proofs.Common.{◌∙◌, [], inl, refl, sym}
use Rattle.slnf_instance.specs.Errands.{job_in}
use Rattle.slnf_instance.proofs.Answering.{first_done}
use Rattle.slnf_instance.proofs.instances.set_out.Goals as goal

pub returns-then-not-is_spent-clause-stands : goal.returns-then-not-is_spent-clause-stands
returns-then-not-is_spent-clause-stands g c =
    let hand = c.args.hand.now in
    let job = job_in (g.T.Items.work c.args.items.now) hand.errand in
    inl (c.advance.ensures.goes [] (first_done job hand refl refl c.requires.first
    (sym c.is_spent.ensures ∙ c.if-not-is_spent.true)))
