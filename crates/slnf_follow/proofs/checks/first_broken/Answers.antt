-- each rule over all of the entries before the next
use Rattle.std.proofs.Common.{subst}
use Rattle.std.proofs.lemmas.Result.{IfOk-weaker}
use Rattle.slnf_flight.specs.PlanSetting.{setting_of}
use Rattle.slnf_local.specs.Rules.{IsOrderly, IsTrueReply}
use Rattle.slnf_local.proofs.Telling.{ordered_of_grown, legal_of_grown, lapse_tells}
use Rattle.slnf_rules.specs.Rules.{FirstBroken}
use Rattle.slnf_follow.proofs.checks.first_broken.Goals as goal

pub first_lapse-requires-clause-legal : goal.first_lapse-requires-clause-legal
first_lapse-requires-clause-legal c =
    legal_of_grown c.args.entries.now (subst (FirstBroken IsTrueReply c.args.entries.now) c.in-None-2.is
    c.in_ok-place-in-None.ensures)

pub returns-in-Some : goal.returns-in-Some
returns-in-Some c = subst (FirstBroken (IsOrderly c.args.plan.now.shards) c.args.entries.now) c.in-Some.is
    c.first_disorder.ensures

pub returns-in-Some-2 : goal.returns-in-Some-2
returns-in-Some-2 c =
    let j = c.args.entries.now in (
      ordered_of_grown c.args.plan.now.shards j
          (subst (FirstBroken (IsOrderly c.args.plan.now.shards) j) c.in-None.is c.first_disorder.ensures),
      subst (FirstBroken IsTrueReply j) c.in-Some-2.is c.in_ok-place-in-None.ensures,
    )

pub returns-in-None-2 : goal.returns-in-None-2
returns-in-None-2 c =
    let s = setting_of c.args.plan.now c.args.lanes.now in
    let j = c.args.entries.now in
    let ordered = ordered_of_grown c.args.plan.now.shards j
    (subst (FirstBroken (IsOrderly c.args.plan.now.shards) j) c.in-None.is c.first_disorder.ensures) in
    let legal = legal_of_grown j (subst (FirstBroken IsTrueReply j) c.in-None-2.is c.in_ok-place-in-None.ensures) in
    IfOk-weaker c.first_lapse.result _ _ (λ b h. lapse_tells s j b ordered legal h) c.first_lapse.ensures
