-- it has taken what its hand says
use Rattle.std.proofs.Common.{◌≡◌, ◌∙◌, subst}
use Rattle.slnf_hand.specs.Reached.{taken_by}
use Rattle.slnf_hand.specs.Hands.{IsHandOf}
use Rattle.slnf_hand.proofs.Laws.{taken_is}
use Rattle.slnf_hand.proofs.hands.Hand.taken.Goals as goal

pub returns-clause-taken : goal.returns-clause-taken
returns-clause-taken g c job held h =
    let work = g.T.Items.work in
    subst (λ v. IsHandOf work job held v → c.taken_of.result ≡ taken_by job held) c.self.view_is
    (λ k. c.taken_of.ensures ∙ taken_is work job held _ k) h
