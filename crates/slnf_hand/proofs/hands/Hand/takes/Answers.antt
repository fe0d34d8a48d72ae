-- the actor's next entry
use Rattle.std.proofs.Common.{◌≡◌, ◌∙◌, IsTrue, ap, subst}
use Rattle.slnf_run.specs.Jobs.{offers_in}
use Rattle.slnf_instance.specs.Errands.{job_in}
use Rattle.slnf_local.specs.Hands.{hand_after}
use Rattle.slnf_hand.specs.Reached.{Holds, Expects}
use Rattle.slnf_hand.specs.Progress.{reached}
use Rattle.slnf_hand.specs.Hands.{IsHandOf}
use Rattle.slnf_hand.proofs.hands.Hand.takes.Goals as goal

pub returns-clause-expects : goal.returns-clause-expects
returns-clause-expects g c job held h =
    let progress = c.self.inside.progress in
    let work = g.T.Items.work in
    let mine = job_in (work c.self.inside.items.now) progress.errand in
    subst (λ v. IsHandOf work job held v
    → (IsTrue c.take_entry.result → Expects job held c.args.entry.now)
    × (Expects job held c.args.entry.now → IsTrue c.take_entry.result)) c.self.view_is
    (λ k.
    subst (λ j. Holds j held (reached progress)
    → (IsTrue c.take_entry.result → Expects j held c.args.entry.now)
    × (Expects j held c.args.entry.now → IsTrue c.take_entry.result)) k.job_is
    (c.take_entry.ensures.expects held) k.holds) h

pub returns-clause-next : goal.returns-clause-next
returns-clause-next g c job held h taken =
    let progress = c.self.inside.progress in
    let after = c.take_entry.new.progress in
    let work = g.T.Items.work in
    let next = subst (λ v. IsHandOf work job held v
    → (job_in (work c.self.inside.items.now) after.errand ≡ job)
    × Holds job (hand_after job.machine job.begins (offers_in job) held c.args.entry.now) (reached after))
    c.self.view_is
    (λ k. (
      ap (job_in (work c.self.inside.items.now)) c.take_entry.ensures.errand ∙ k.job_is,
      subst (λ j. Holds j held (reached progress)
          → Holds j (hand_after j.machine j.begins (offers_in j) held c.args.entry.now) (reached after)) k.job_is
          (λ holds. c.take_entry.ensures.next held holds taken) k.holds,
    )) h in
    record { job_is = next.0; holds = next.1 }
