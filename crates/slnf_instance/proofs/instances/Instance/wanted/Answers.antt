-- what is asked is wanted
use Rattle.std.proofs.Common.{◌≡◌, ◌∙◌, subst}
use Rattle.slnf_run.specs.Jobs.{by_rounds, wanted_in}
use Rattle.slnf_instance.specs.Instances.{StandsBy}
use Rattle.slnf_instance.proofs.Answering.{asks_wanted}
use Rattle.slnf_instance.proofs.instances.Instance.wanted.Goals as goal

pub returns-clause-wanted : goal.returns-clause-wanted
returns-clause-wanted g c job own s =
    subst (λ v. StandsBy g.T.Items.work job own v → c.next_ask.result ≡ wanted_in by_rounds job own) c.self.view_is
    (λ k. c.next_ask.ensures ∙ asks_wanted job own c.self.inside.hand k.stands) s
