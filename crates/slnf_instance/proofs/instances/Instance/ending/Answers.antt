-- the ending is the actor's
use Rattle.std.proofs.Common.{◌≡◌, ◌∙◌, subst, sym, ap}
use Rattle.slnf_instance.specs.Ends.{ending_in}
use Rattle.slnf_instance.specs.Instances.{StandsBy}
use Rattle.slnf_instance.proofs.Finishing.{ending_is}
use Rattle.slnf_instance.proofs.instances.Instance.ending.Goals as goal

pub returns-clause-ending : goal.returns-clause-ending
returns-clause-ending g c job own s =
    subst (λ v. StandsBy g.T.Items.work job own v → c.end_of.result ≡ ending_in job v.errand.quota own) c.self.view_is
    (λ k. c.end_of.ensures
    ∙ ending_is job own c.self.inside.hand k.stands (sym (ap (λ j. j.count) k.job_is))) s
