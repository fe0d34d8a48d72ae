-- The plan's text is read as the plan: computed at once for all numbers of lanes.
use Rattle.std.proofs.Common.{◌≡◌, ◌≤◌, ℕ, ◌-◌, Result, Ok, get_or, map, refl, sym, ap, ◌∙◌, arith}
use Rattle.std.specs.Fmt.{digits}
use Rattle.std.specs.List.{range_with_len}
use Rattle.std.specs.Str.{is_utf8, chars}
use Rattle.std.proofs.lemmas.List.FromFn.{get_or-map-range_with_len}
use Rattle.toml.proofs.OnLiterals.{toml_on_literals}
use Rattle.slnf_plan.specs.declared.error.PlanError.{PlanError}
use Rattle.slnf_plan.specs.Plain.{PlainPlan}
use Rattle.slnf_plan.specs.Texts.{decimal_at, decimal_after, address_at, address_of, prefix_of}
use Rattle.slnf_plan.specs.Plans.{nat_rows, nat_table, instance_rows, instance_table, instance_list, instances_row, active_row, sweep_row, schedule_row, epoch_rows, epoch_table, function_row, shards_row, batch_row, epochs_row, plan_rows, plan_of}
use Rattle.slnf_plan.specs.Reading.{plan_of_bytes}
use Rattle.slnf_gen.specs.Plan.{plan_head, plan_text, plan_told}

abbrev Read : Type 0
Read = Result PlainPlan PlanError

-- what the text for so many lanes is read as, and what it shall be read as
abbrev read : ℕ → Read
read lanes = plan_of_bytes (plan_text lanes)

abbrev told : ℕ → Read
told lanes = Ok (plan_told lanes)

all-accepted : map read (range_with_len 1 32) ≡ map told (range_with_len 1 32)
unfolding toml_on_literals digits is_utf8 chars decimal_at decimal_after address_at address_of prefix_of nat_rows
    nat_table instance_rows instance_table instance_list instances_row active_row sweep_row schedule_row epoch_rows
    epoch_table function_row shards_row batch_row epochs_row plan_rows plan_of plan_of_bytes plan_head plan_text
all-accepted = refl

pub plan-accepted : (lanes : ℕ) → 1 ≤ lanes → lanes ≤ 32 → plan_of_bytes (plan_text lanes) ≡ Ok (plan_told lanes)
plan-accepted lanes some few =
    let place = lanes - 1 in
    sym (get_or-map-range_with_len read 1 32 place lanes (told 0) (omega arith) (omega arith))
    ∙ ap (λ l. get_or l place (told 0)) all-accepted
    ∙ get_or-map-range_with_len told 1 32 place lanes (told 0) (omega arith) (omega arith)
