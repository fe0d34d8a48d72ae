-- what the actor did
use Rattle.std.proofs.Common.{◌≡◌, ◌∙◌, ◌+◌, ◌-◌, ◌≤◌, Some, length, take, subst, sym, ap, arith}
use Rattle.slnf_instance.specs.Hands.{StandsAfter}
use Rattle.slnf_instance.specs.Ends.{ending_in, verdicts_in}
use Rattle.slnf_instance.specs.Instances.{ask_by, StandsBy}
use Rattle.slnf_instance.proofs.Answering.{asks_same, asks_wanted}
use Rattle.slnf_instance.proofs.Finishing.{ending_is, done}
use Rattle.slnf_instance.proofs.instances.Instance.finish.Goals as goal

pub returns-clause-ending : goal.returns-clause-ending
returns-clause-ending g c job own s =
    subst (λ v. StandsBy g.T.Items.work job own v → Some c.unwrap-ending.result ≡ ending_in job v.errand.quota own)
    c.self.view_is
    (λ k. sym c.unwrap-ending.ensures ∙ (c.end_of.ensures
    ∙ ending_is job own c.self.inside.hand k.stands (sym (ap (λ j. j.count) k.job_is)))) s

pub returns-clause-verdicts : goal.returns-clause-verdicts
returns-clause-verdicts g c job own s =
    let hand = c.self.inside.hand in
    let fits = c.self.invariant.fits in
    let none : _ = sym (asks_same hand) ∙ (ap ask_by c.self.view_is ∙ c.requires) in
    let inside : hand.from + length hand.flights.items - hand.errand.at ≤ length hand.verdicts.items =
    omega (arith, fits.given, fits.from, fits.inside, hand.flights.ok.0, hand.verdicts.ok.0) in
    let n : hand.from + c.len.result - hand.errand.at ≡ hand.from + length hand.flights.items - hand.errand.at =
    omega (arith, c.len.ensures, hand.flights.ok.0) in
    subst (λ v. StandsBy g.T.Items.work job own v → c.truncate.new.self.items ≡ verdicts_in job own) c.self.view_is
    (λ k.
    let stands = subst (λ j. StandsAfter j own hand) (sym k.job_is) k.stands in
    c.truncate.ensures.items ∙ (ap (λ m. take m hand.verdicts.items) n
    ∙ ((done _ own hand stands none (sym (asks_wanted _ own hand stands) ∙ none) inside).verdicts_are
    ∙ ap (λ j. verdicts_in j own) k.job_is))) s
