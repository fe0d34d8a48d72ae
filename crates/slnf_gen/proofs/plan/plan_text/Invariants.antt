-- the instances so far
use Rattle.std.proofs.Common.{◌≡◌, ◌-◌, ◌++◌}
use Rattle.std.specs.List.{flat_map, range_with_len}
use Rattle.slnf_gen.specs.Plan.{instance_text, next_text, plan_head}
use Rattle.slnf_gen.proofs.plan.plan_text.Given as goal

abbrev pub invariant-loop-lane : goal.invariant-loop-lane
invariant-loop-lane l = l.text.items ≡ plan_head ++ instance_text 0 ++ flat_map next_text (range_with_len 1 (l.lane - 1))
