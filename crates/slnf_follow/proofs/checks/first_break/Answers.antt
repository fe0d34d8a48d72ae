-- the answer is the only one
use Rattle.std.proofs.Common.{◌∙◌, Some, ap, sym, option_map}
use Rattle.slnf_flight.specs.PlanSetting.{setting_of}
use Rattle.slnf_follow.specs.Refusals.{refusal_of}
use Rattle.slnf_follow.proofs.Answering.{answers}
use Rattle.slnf_follow.proofs.checks.first_break.Goals as goal

pub returns-in-None : goal.returns-in-None
returns-in-None c = record {
  answer = answers (setting_of c.args.plan.now c.args.lanes.now) c.args.entries.now _ _ c.in_ok-first_broken.ensures
      (ap (option_map refusal_of) (sym c.in-None.is));
}

pub returns-in-Some : goal.returns-in-Some
returns-in-Some c = record {
  answer = answers (setting_of c.args.plan.now c.args.lanes.now) c.args.entries.now _ _ c.in_ok-first_broken.ensures
      (ap Some c.refusal_of.ensures ∙ ap (option_map refusal_of) (sym c.in-Some.is));
}
