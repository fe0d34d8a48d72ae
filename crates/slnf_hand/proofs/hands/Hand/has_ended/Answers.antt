-- it has ended where its hand says so
use Rattle.std.proofs.Common.{◌≡◌, ◌∙◌, subst}
use Rattle.slnf_hand.specs.Reached.{has_ended}
use Rattle.slnf_hand.specs.Hands.{IsHandOf}
use Rattle.slnf_hand.proofs.Laws.{ended_is}
use Rattle.slnf_hand.proofs.hands.Hand.has_ended.Goals as goal

pub returns-clause-ended : goal.returns-clause-ended
returns-clause-ended g c job held h =
    let work = g.T.Items.work in
    subst (λ v. IsHandOf work job held v → c.is_over.result ≡ has_ended job held) c.self.view_is
    (λ k. c.is_over.ensures ∙ ended_is work job held _ k) h
