use Rattle.std.proofs.Common.{ℕ, Global, Vec, List, map, ap, sym, ◌∙◌, subst}
use Rattle.slnf_plan.specs.Reading.{plan_of_bytes}
use Rattle.slnf_top.specs.declared.loads.LoadInputs.{LoadInputs}
use Rattle.slnf_top.specs.Words.{load_named}
use Rattle.slnf_top.specs.Inputs.{AreLanesOf}
use Rattle.slnf_top.proofs.Loading.{load_is}
use Rattle.slnf_top.proofs.loads.load_inputs.Goals as goal

pub returns : goal.returns
returns c =
    let load : LoadInputs = record { plan = c.in_ok-plan.plan; lanes = c.in_ok-lanes.lanes } in
    load_is (λ (capture : Vec ℕ Global). capture.items) (load_named c.args.words.now) load
    c.in_ok-load.load.plan.items
    c.in_ok-load.load.captures.items c.args.words.now.few_lanes c.in_ok-load.ensures.plan
    c.in_ok-load.ensures.plan_accepted
    (ap plan_of_bytes (sym c.as_slice.ensures.value) ∙ c.in_ok-plan.ensures) c.in_ok-load.ensures.captures
    c.in_ok-load.ensures.captures_accepted
    (subst (λ (xs : List (Vec ℕ Global)). AreLanesOf (map (λ (capture : Vec ℕ Global). capture.items) xs)
    c.in_ok-lanes.lanes)
    c.as_slice-2.ensures.value c.in_ok-lanes.ensures)
