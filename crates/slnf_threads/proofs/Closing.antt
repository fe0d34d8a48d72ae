-- A plan's run on the shared store ends: its merged histories are a run with all that the laws of plans tell of runs.
use Rattle.std.proofs.Common.{◌≡◌, ℕ, ◌+◌, ◌^◌, ◌<◌, ◌≤◌, List, [], ◌∷◌, length, refl, ap, arith}
use Rattle.std.specs.Prelude.{IsTrue}
use Rattle.std.specs.List.Sorted.{IsPermutation}
use Rattle.std.proofs.lemmas.List.{length-map}
use Rattle.std.proofs.lemmas.List.Sorted.{length_permutation}
use Rattle.slnf_access.specs.declared.requests.Entry.{Entry}
use Rattle.slnf_access.specs.Map.{IsLegal}
use Rattle.slnf_access.specs.Order.{InOrder}
use Rattle.slnf_merge.specs.Merge.{all_of}
use Rattle.slnf_plan.specs.declared.plan.FunctionPlan.{FunctionPlan}
use Rattle.slnf_plan.specs.declared.plan.FunctionPlan.TheVariants.{Nat, Firewall, Balancer}
use Rattle.slnf_plan.specs.declared.plan.Plan.{Plan}
use Rattle.slnf_turns.specs.declared.views.View.{View}
use Rattle.slnf_store.specs.Closes.{list_of, IsClosed}
use Rattle.slnf_run.specs.Setting.{total_of}
use Rattle.slnf_run.specs.Parts.{part_of}
use Rattle.slnf_run.specs.Run.{IsRun}
use Rattle.slnf_run.specs.Stamps.{HasClockStamps}
use Rattle.slnf_run.proofs.Offering.{IsOffering, offering_of_run}
use Rattle.slnf_run.proofs.Runs.{paths_of_run}
use Rattle.slnf_flight.specs.declared.lanes.Lane.{Lane}
use Rattle.slnf_flight.specs.Actors.{era_of_epoch, eras_of}
use Rattle.slnf_flight.specs.Lanes.{lane_sizes, packet_count}
use Rattle.slnf_flight.specs.PlanSetting.{setting_of}
use Rattle.slnf_setting.specs.Fits.{has_types}
use Rattle.slnf_setting.specs.Runs.{RunsWell, IsRunOfPlan}
use Rattle.slnf_setting.proofs.Fewness.{fewer_of_items, items_of_offering}
use Rattle.slnf_setting.proofs.PlanBound.{bounded_of_plan}
use Rattle.slnf_setting.proofs.PlanNat.{nat_runs_of_plan}
use Rattle.slnf_setting.proofs.PlanPairs.{keeps_pairs_of_plan}
use Rattle.slnf_setting.proofs.PlanReplies.{none_ill_of_plan}
use Rattle.slnf_setting.proofs.PlanWhole.{one_box_of_plan, nothing_leaks_of_plan}
use Rattle.slnf_threads.specs.Parts.{AreParts}
use Rattle.slnf_threads.specs.Passing.{HavePassed, AreAtWork, IsClockOf, HasLateStamp}
use Rattle.slnf_threads.proofs.Ending.{parts_of_passed, parts_of_work, none_late}
use Rattle.slnf_threads.proofs.Law.{run_of_parts, offering_of_parts}

pub packets_total : (lanes : List Lane) → packet_count lanes ≡ total_of (lane_sizes lanes)
packets_total [] = refl
packets_total (lane ∷ lanes) = ap (λ n. length lane.packets + n) (packets_total lanes)

few_of_offering : (plan : Plan) (lanes : List Lane) (m : List Entry) → IsTrue (has_types plan.function) →
    packet_count lanes ≤ 1048576 → IsLegal m → IsOffering (setting_of plan lanes) m → length m < 2 ^ 41
few_of_offering plan lanes m types few legal rules =
    let items = items_of_offering plan lanes m rules in
    let total : packet_count lanes ≡ total_of (lane_sizes lanes) = packets_total lanes in
    let most : total_of (lane_sizes lanes) ≤ 2 ^ 20 = omega (arith, total, few) in
    fewer_of_items plan lanes items.0 items.1 m types most legal rules.paths items.2

module _ (plan : Plan) (lanes : List Lane) (types : IsTrue (has_types plan.function))
    (few : packet_count lanes ≤ 1048576) (root : View) (hs : List (List Entry)) (merged : List Entry)
    (closed : IsClosed plan.shards root hs) (same : IsPermutation (all_of hs) merged) (order : InOrder merged) where
  pub own : (i : ℕ) → part_of i merged ≡ list_of i root
  own = (closed.merges merged same order).1

  well_by : (function : FunctionPlan) → plan.function ≡ function → IsRun (setting_of plan lanes) merged →
      RunsWell function (setting_of plan lanes) merged
  well_by (Nat pool) is run =
      (nat_runs_of_plan plan lanes merged pool is types run, nothing_leaks_of_plan plan lanes merged pool is types run)
  well_by (Firewall inside rules) is run = tt
  well_by (Balancer service) is run = tt

  told_of_run : IsRun (setting_of plan lanes) merged → IsRunOfPlan plan lanes merged
  told_of_run run = record {
    run = run;
    one_box = one_box_of_plan plan lanes merged types run;
    pairs = keeps_pairs_of_plan plan lanes merged types run;
    none_ill = none_ill_of_plan plan lanes merged types run;
    bounded = bounded_of_plan plan lanes merged run.legal (paths_of_run (setting_of plan lanes) merged run);
    few = few_of_offering plan lanes merged types few run.legal (offering_of_run (setting_of plan lanes) merged run);
    well = well_by plan.function refl run;
  }

  -- all epochs have passed
  pub run_at_end : (number base : ℕ) (places : ℕ → ℕ) → HavePassed (setting_of plan lanes) number base places root →
      length plan.epochs ≤ number → IsRunOfPlan plan lanes merged × HasClockStamps (setting_of plan lanes) merged
  run_at_end number base places passed no_more =
      let count : length (eras_of plan.epochs) ≡ length plan.epochs = length-map plan.epochs era_of_epoch in
      let parts : AreParts (setting_of plan lanes) root merged =
      parts_of_passed (setting_of plan lanes) root merged own number base places passed (omega (arith, count, no_more)) in
      let run = run_of_parts (setting_of plan lanes) root hs merged closed same order parts in
      (told_of_run run.0, run.1)

  -- stamps aren't spent
  pub never_stuck : (upto clock : ℕ) → AreAtWork (setting_of plan lanes) upto root → IsClockOf root clock →
      HasLateStamp plan.shards root clock → ⊥
  never_stuck upto clock at_work is late =
      let rules : IsOffering (setting_of plan lanes) merged =
      offering_of_parts (setting_of plan lanes) root hs merged closed same order
      (parts_of_work (setting_of plan lanes) root merged own upto at_work) in
      let size : length merged < 2 ^ 41 =
      few_of_offering plan lanes merged types few (closed.merges merged same order).0 rules in
      let all : length merged ≡ length (all_of hs) = length_permutation (all_of hs) merged same in
      none_late plan.shards root hs merged closed same order clock is late (omega (arith, size, all))
