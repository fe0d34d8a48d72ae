-- the box of the plan's function
use Rattle.std.proofs.Common.{◌≡◌, IfOk, sym, ap, ◌∙◌, subst}
use Rattle.slnf_box.specs.Pools.{nat_of}
use Rattle.slnf_flight.specs.FwPlan.{policy_with}
use Rattle.slnf_flight.specs.PlanSetting.{setting_of}
use Rattle.slnf_setting.specs.OneBoxOfPlan.{any_nat_box, any_fw_box, any_lb_box}
use Rattle.slnf_replay.specs.BoxText.{answers_by_function}
use Rattle.slnf_replay.specs.Lines.{answers_of}
use Rattle.slnf_replay.proofs.FewPackets.{few_each}
use Rattle.slnf_replay.proofs.replays.box_answers.Goals as goal

pub places_of-requires-clause-few : goal.places_of-requires-clause-few
places_of-requires-clause-few c = few_each c.args.lanes.now c.requires.few_packets

pub answer_all-requires-clause-few : goal.answer_all-requires-clause-few
answer_all-requires-clause-few c = few_each c.args.lanes.now c.requires.few_packets

pub answer_all-requires-in-Firewall-clause-few : goal.answer_all-requires-in-Firewall-clause-few
answer_all-requires-in-Firewall-clause-few c = few_each c.args.lanes.now c.requires.few_packets

pub answer_all-requires-in-Balancer-clause-few : goal.answer_all-requires-in-Balancer-clause-few
answer_all-requires-in-Balancer-clause-few c = few_each c.args.lanes.now c.requires.few_packets

pub returns-in-Nat : goal.returns-in-Nat
returns-in-Nat c =
    let s = setting_of c.args.plan.now c.args.lanes.now in
    subst (λ l. IfOk c.answer_all.result (λ answers. answers.items ≡ l))
    (ap (λ pool. answers_of s (any_nat_box (nat_of pool)) c.args.journal.now) c.make-ordinary.ensures.pool
    ∙ sym (ap (λ f. answers_by_function f s c.args.journal.now) c.in-Nat.is)) c.answer_all.ensures

pub returns-in-Firewall : goal.returns-in-Firewall
returns-in-Firewall c =
    let s = setting_of c.args.plan.now c.args.lanes.now in
    subst (λ l. IfOk c.answer_all-in-Firewall.result (λ answers. answers.items ≡ l))
    (ap (λ policy. answers_of s (any_fw_box policy) c.args.journal.now)
    (c.make-ordinary-in-Firewall.ensures.policy ∙ ap (policy_with c.in-Firewall.inside)
    (c.from_vec-rules.ensures ∙ c.in_ok-from_slice-in-Firewall.ensures.items ∙ c.as_slice-in-Firewall.ensures))
    ∙ sym (ap (λ f. answers_by_function f s c.args.journal.now) c.in-Firewall.is)) c.answer_all-in-Firewall.ensures

pub returns : goal.returns
returns c =
    let s = setting_of c.args.plan.now c.args.lanes.now in
    subst (λ l. IfOk c.answer_all-in-Balancer.result (λ answers. answers.items ≡ l))
    (ap (λ service. answers_of s (any_lb_box service) c.args.journal.now)
    (c.make-ordinary-in-Balancer.ensures.service ∙ c.in_ok-copy_of-in-Balancer.ensures)
    ∙ sym (ap (λ f. answers_by_function f s c.args.journal.now) c.in-Balancer.is)) c.answer_all-in-Balancer.ensures
