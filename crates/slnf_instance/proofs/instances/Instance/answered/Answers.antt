-- the actor stands after one more entry
use Rattle.std.proofs.Common.{◌≡◌, ◌++◌, ◌∷◌, ◌∙◌, [], ap, sym, subst}
use Rattle.slnf_instance.specs.Errands.{job_in}
use Rattle.slnf_instance.specs.Hands.{StandsAfter}
use Rattle.slnf_instance.specs.Instances.{ask_by, StandsBy, IsAnswer}
use Rattle.slnf_instance.proofs.Answering.{asks_same}
use Rattle.slnf_instance.proofs.instances.Instance.answered.Goals as goal

pub returns-clause-stands : goal.returns-clause-stands
returns-clause-stands g c job own e s is =
    let hand = c.self.inside.hand in
    let after = c.answer.new.hand in
    let work = g.T.Items.work in
    let stands = subst (λ v. StandsBy work job own v → IsAnswer (ask_by v) c.args.reply e
    → (job_in (work c.self.inside.items.now) after.errand ≡ job) × StandsAfter job (own ++ e ∷ []) after)
    c.self.view_is
    (λ k a.
    let mine = c.answer.ensures.stands own e (subst (λ j. StandsAfter j own hand) (sym k.job_is) k.stands)
    (subst (λ o. IsAnswer o c.args.reply e) (asks_same hand) a) in (
      ap (job_in (work c.self.inside.items.now)) c.answer.ensures.errand ∙ k.job_is,
      subst (λ j. StandsAfter j (own ++ e ∷ []) after) k.job_is mine,
    )) s is in
    record { job_is = stands.0; stands = stands.1 }
