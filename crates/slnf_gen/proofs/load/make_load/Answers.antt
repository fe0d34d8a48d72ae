-- each lane's capture goes on where the one before it ended
use Rattle.std.proofs.Common.{◌≡◌, ◌∙◌, ◌*◌, ℕ, List, Vec, Global, ap, map, arith}
use Rattle.std.specs.List.{range_with_len}
use Rattle.slnf_gen.specs.Captures.{captures_of, capture_from, lane_capture}
use Rattle.slnf_gen.proofs.Laws.{state_after-none, state_after-lane, captures-more}
use Rattle.slnf_gen.proofs.CaptureLaws.{captures-accepted}
use Rattle.slnf_gen.proofs.PlanLaws.{plan-accepted}
use Rattle.slnf_plan.specs.Reading.{plan_of_bytes}
use Rattle.slnf_gen.proofs.load.make_load.Goals as goal

pub loop-lane-init : goal.loop-lane-init
loop-lane-init c = record {
  captures = ap (λ (l : List (Vec ℕ Global)). map (λ capture. capture.items) l) c.in_ok-captures.ensures.items;
  drawn = c.seed_from_u64-words.ensures.same ∙ state_after-none (0 * c.args.packets) _ (omega arith);
}

pub loop-lane-preserved : goal.loop-lane-preserved
loop-lane-preserved c =
    let so = c.loop-lane.invariant in
    let made = c.in_ok-capture.ensures in
    record {
      captures = captures-more (λ (capture : Vec ℕ Global). capture.items)
          (lane_capture c.args.number c.args.packets) _ _ _ _ so.captures
          (made.bytes ∙ ap (λ s. capture_from s c.args.packets) so.drawn) c.in_ok-push.ensures.items;
      drawn = state_after-lane _ _ _ _ _ so.drawn made.words;
    }

pub returns-clause-captures : goal.returns-clause-captures
unfolding captures_of
returns-clause-captures c =
    let all : c.loop-lane.lane ≡ c.args.lanes = omega arith in
    c.loop-lane.invariant.captures ∙ ap (λ n. map (lane_capture c.args.number c.args.packets) (range_with_len 0 n)) all

pub returns-clause-captures_accepted : goal.returns-clause-captures_accepted
returns-clause-captures_accepted c =
    captures-accepted (λ (capture : Vec ℕ Global). capture.items) _ _ _ _ c.requires.few_packets c.loop-lane.invariant.captures

pub returns-clause-plan_accepted : goal.returns-clause-plan_accepted
returns-clause-plan_accepted c =
    ap plan_of_bytes c.in_ok-plan.ensures ∙ plan-accepted c.args.lanes c.requires.some_lanes c.requires.few_lanes
