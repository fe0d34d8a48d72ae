use Rattle.std.proofs.Common.{◌≡◌, ◌≤◌, List, [], ◌∷◌, length, refl, ap, ◌∙◌, subst, arith}
use Rattle.slnf_flight.specs.declared.lanes.Lane.{Lane}
use Rattle.slnf_top.specs.declared.outputs.File.{File}
use Rattle.slnf_top.specs.declared.steps.Run.{Run}
use Rattle.slnf_top.specs.Words.{load_named}
use Rattle.slnf_top.specs.Written.{BySchedule, IsOutcome}
use Rattle.slnf_top.proofs.Loading.{load_lanes, load_run, load_leaves_none}
use Rattle.slnf_top.proofs.loads.run_load.Goals as goal

pub outcome_of-requires-clause-few_lanes : goal.outcome_of-requires-clause-few_lanes
outcome_of-requires-clause-few_lanes c =
    let count : length c.in_ok-load.load.lanes ≡ c.args.words.now.lanes =
    load_lanes (load_named c.args.words.now) c.in_ok-load.load c.in_ok-load.ensures in
    let same : length c.as_slice.result.now ≡ length c.in_ok-load.load.lanes = ap length c.as_slice.ensures in
    let few : c.args.words.now.lanes ≤ 32 = c.args.words.now.few_lanes in
    omega arith

pub returns-clause-run : goal.returns-clause-run
returns-clause-run c =
    let run : Run = record { files = c.from_vec.result; left = c.in_ok-outcome.outcome.left } in
    load_run (load_named c.args.words.now) c.in_ok-load.load c.in_ok-outcome.outcome run c.in_ok-load.ensures
    (subst (λ (ls : List Lane). IsOutcome BySchedule c.in_ok-load.load.plan ls c.in_ok-outcome.outcome) c.as_slice.ensures
    c.in_ok-outcome.ensures)
    (c.from_vec.ensures ∙ c.in_ok-vec.ensures.items ∙ ap (λ (f : File). f ∷ []) c.in_ok-summary.ensures) refl

pub returns-clause-none_left : goal.returns-clause-none_left
returns-clause-none_left c =
    let run : Run = record { files = c.from_vec.result; left = c.in_ok-outcome.outcome.left } in
    load_leaves_none (load_named c.args.words.now) c.in_ok-load.load c.in_ok-outcome.outcome run
    c.in_ok-load.ensures
    (subst (λ (ls : List Lane). IsOutcome BySchedule c.in_ok-load.load.plan ls c.in_ok-outcome.outcome) c.as_slice.ensures
    c.in_ok-outcome.ensures) refl
