-- the task is the instance's job
use Rattle.std.proofs.Common.{◌≡◌, ◌-◌, length, refl, ◌∙◌, ap, arith}
use Rattle.slnf_run.specs.Jobs.{within_quota}
use Rattle.slnf_verdicts.proofs.PlanJobs.{followed_own, verdicts_same}
use Rattle.slnf_verdicts.proofs.replays.replay_instance.Goals as goal

pub replay-requires-clause-followed : goal.replay-requires-clause-followed
replay-requires-clause-followed c =
    followed_own c.args.plan.now c.args.lanes.now c.args.epoch c.args.incarnation c.args.instance.now
    c.in_ok-function.function c.packets_on-packets.result.now c.in_ok-function.ensures.function c.packets_on-packets.ensures
    c.requires.begins c.args.part.now c.requires.followed

pub returns : goal.returns
returns c =
    let left : c.saturating_sub.result ≡ length c.packets_on-packets.result.now - c.args.at =
    omega (arith, c.saturating_sub.ensures) in
    c.in_ok-verdicts.ensures
    ∙ verdicts_same c.args.plan.now c.args.lanes.now c.args.epoch c.args.incarnation c.args.instance.now
    c.in_ok-function.function c.packets_on-packets.result.now c.in_ok-function.ensures.function c.packets_on-packets.ensures
    c.requires.begins _ c.args.at c.args.part.now refl refl refl
    (c.within_quota.ensures ∙ ap (within_quota c.args.instance.now.quota) left)
