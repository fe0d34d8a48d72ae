use Rattle.slnf_setting.proofs.PlanBound.{bounded_of_plan}
use Rattle.slnf_setting.proofs.PlanNat.{nat_runs_of_plan}
use Rattle.slnf_setting.proofs.PlanReplies.{none_ill_of_plan}
use Rattle.slnf_setting.proofs.PlanPairs.{keeps_pairs_of_plan}
use Rattle.slnf_setting.proofs.PlanWhole.{plan_sound, one_box_of_plan, nothing_leaks_of_plan, no_strays}
use Rattle.slnf_setting.proofs.Fewness.{items_of_run, fewer_of_items}
use Rattle.slnf_setting.proofs.theorems.plan_has_one_box.Goals as goal

pub returns : goal.returns
returns c = record {
  sound = plan_sound;
  own = no_strays;
  one_box = one_box_of_plan;
  pairs = keeps_pairs_of_plan;
  leaks_nothing = nothing_leaks_of_plan;
  none_ill = none_ill_of_plan;
  nat = nat_runs_of_plan;
  bounded = bounded_of_plan;
  items = items_of_run;
  fewer = fewer_of_items;
}
