-- Few packets make few accesses, so far and in the whole journal, and the journal of a plan's schedule is a run.
use Rattle.std.proofs.Common.{◌≡◌, ℕ, ◌+◌, ◌^◌, ◌<◌, ◌≤◌, List, [], ◌∷◌, length, refl, sym, ap, ◌∙◌, subst, arith}
use Rattle.std.specs.Prelude.{IsTrue}
use Rattle.std.specs.List.{AllByRecursion}
use Rattle.slnf_access.specs.declared.requests.Entry.{Entry}
use Rattle.slnf_access.specs.Map.{IsLegal}
use Rattle.slnf_plan.specs.declared.plan.FunctionPlan.{FunctionPlan}
use Rattle.slnf_plan.specs.declared.plan.FunctionPlan.TheVariants.{Nat, Firewall, Balancer}
use Rattle.slnf_plan.specs.declared.plan.Plan.{Plan}
use Rattle.slnf_run.specs.Setting.{Setting, era_of, total_of}
use Rattle.slnf_run.specs.Run.{IsRun}
use Rattle.slnf_run.specs.Items.{Item}
use Rattle.slnf_run.specs.Scheduled.{Way, usual_way, IsScheduled}
use Rattle.slnf_run.specs.Made.{Grown, IsLaid, IsLawful, clock, of_shard, last_stamp}
use Rattle.slnf_run.specs.Stamps.{HasClockStamps}
use Rattle.slnf_run.specs.SoFar.{IsSoFar, HoldsSoFar}
use Rattle.slnf_run.proofs.Clocked.{scheduled_clocked}
use Rattle.slnf_run.proofs.Offering.{IsOffering, offering_of_loose}
use Rattle.slnf_run.proofs.Pairing.{each-weaker}
use Rattle.slnf_run.proofs.Runs.{paths_of_run}
use Rattle.slnf_run.proofs.Scheduling.{makes_laid, makes_loose, scheduled_is_run}
use Rattle.slnf_run.proofs.SoFar.{offering_so_far, holds_so_far}
use Rattle.slnf_run.proofs.Sorting.{length-in_order}
use Rattle.slnf_run.proofs.Stamps.{made_legal_from}
use Rattle.slnf_run.proofs.Ways.{usual_lawful}
use Rattle.slnf_flight.specs.declared.lanes.Lane.{Lane}
use Rattle.slnf_flight.specs.Lanes.{lane_sizes, packet_count}
use Rattle.slnf_flight.specs.Actors.{eras_of}
use Rattle.slnf_flight.specs.declared.flights.AnyFlight.{AnyFlight}
use Rattle.slnf_flight.specs.Flights.{Arrival}
use Rattle.slnf_flight.specs.PlanSetting.{setting_of}
use Rattle.slnf_setting.specs.Fits.{has_types}
use Rattle.slnf_setting.specs.Bound.{AreItemsOf}
use Rattle.slnf_setting.specs.Runs.{RunsWell, IsRunOfPlan}
use Rattle.slnf_setting.proofs.Fewness.{fewer_of_items, items_of_offering}
use Rattle.slnf_setting.proofs.PlanBound.{bounded_of_plan}
use Rattle.slnf_setting.proofs.PlanNat.{nat_runs_of_plan}
use Rattle.slnf_setting.proofs.PlanPairs.{keeps_pairs_of_plan}
use Rattle.slnf_setting.proofs.PlanReplies.{none_ill_of_plan}
use Rattle.slnf_setting.proofs.PlanWhole.{one_box_of_plan, nothing_leaks_of_plan}

packets_total : (lanes : List Lane) → packet_count lanes ≡ total_of (lane_sizes lanes)
packets_total [] = refl
packets_total (lane ∷ lanes) = ap (λ n. length lane.packets + n) (packets_total lanes)

few_total : (lanes : List Lane) → packet_count lanes ≤ 1048576 → total_of (lane_sizes lanes) ≤ 2 ^ 20
few_total lanes h = let q : packet_count lanes ≡ total_of (lane_sizes lanes) = packets_total lanes in omega arith

-- a legal list that keeps the rules of runs has few entries, before each actor has done its work too
few_of_offering : (plan : Plan) (lanes : List Lane) (m : List Entry) → IsTrue (has_types plan.function)
    → packet_count lanes ≤ 1048576 → IsLegal m → IsOffering (setting_of plan lanes) m → length m < 2 ^ 41
few_of_offering plan lanes m types few legal rules =
    let items = items_of_offering plan lanes m rules in
    fewer_of_items plan lanes items.0 items.1 m types (few_total lanes few) legal rules.paths items.2

module _ (plan : Plan) (lanes : List Lane) (number base : ℕ) (places : ℕ → ℕ) (m : List Entry) where
  offering : IsSoFar (setting_of plan lanes) (usual_way (eras_of plan.epochs)) number base places m
      → IsOffering (setting_of plan lanes) m
  offering h = offering_so_far (setting_of plan lanes) (usual_way (eras_of plan.epochs))
      (usual_lawful (eras_of plan.epochs)) number base places m h

  pub plan_so_far : IsSoFar (setting_of plan lanes) (usual_way (eras_of plan.epochs)) number base places m
      → HoldsSoFar (setting_of plan lanes) m
  plan_so_far h = holds_so_far (setting_of plan lanes) (usual_way (eras_of plan.epochs))
      (usual_lawful (eras_of plan.epochs)) number base places m h

  pub items_so_far : IsSoFar (setting_of plan lanes) (usual_way (eras_of plan.epochs)) number base places m
      → (packets sweeps : List Item) × AreItemsOf (setting_of plan lanes) packets sweeps m
  items_so_far h = items_of_offering plan lanes m (offering h)

  pub fewer_so_far : IsTrue (has_types plan.function) → packet_count lanes ≤ 1048576
      → IsSoFar (setting_of plan lanes) (usual_way (eras_of plan.epochs)) number base places m → length m < 2 ^ 41
  fewer_so_far types few h = few_of_offering plan lanes m types few (plan_so_far h).legal (offering h)

  pub stamps_so_far : IsTrue (has_types plan.function) → packet_count lanes ≤ 1048576
      → IsSoFar (setting_of plan lanes) (usual_way (eras_of plan.epochs)) number base places m
      → AllByRecursion (λ e. e.stamp < 2 ^ 41) m
  stamps_so_far types few h =
      let size : length m < 2 ^ 41 = fewer_so_far types few h in
      each-weaker (λ e. e.stamp ≤ length m) (λ e. e.stamp < 2 ^ 41)
      (λ e l. let k : e.stamp ≤ length m = l in omega arith) m (plan_so_far h).stamps

  pub clocks_so_far : IsTrue (has_types plan.function) → packet_count lanes ≤ 1048576
      → IsSoFar (setting_of plan lanes) (usual_way (eras_of plan.epochs)) number base places m
      → (i : ℕ) → clock (era_of (eras_of plan.epochs)) m i < 2 ^ 41
  clocks_so_far types few h i =
      let size : length m < 2 ^ 41 = fewer_so_far types few h in
      let low : clock (era_of (eras_of plan.epochs)) m i ≤ length m = (plan_so_far h).clocks i in
      omega (arith, size, low)

  pub shards_so_far : IsTrue (has_types plan.function) → packet_count lanes ≤ 1048576
      → IsSoFar (setting_of plan lanes) (usual_way (eras_of plan.epochs)) number base places m
      → (shard : ℕ) → last_stamp (of_shard shard m) < 2 ^ 41
  shards_so_far types few h shard =
      let size : length m < 2 ^ 41 = fewer_so_far types few h in
      let low : last_stamp (of_shard shard m) ≤ length m = (plan_so_far h).shards shard in
      omega (arith, size, low)

module _ (plan : Plan) (lanes : List Lane) (j : List Entry) where
  well_by : (f : FunctionPlan) → plan.function ≡ f → IsTrue (has_types plan.function)
      → IsRun (setting_of plan lanes) j → RunsWell f (setting_of plan lanes) j
  well_by (Nat pool) is types run =
      (nat_runs_of_plan plan lanes j pool is types run, nothing_leaks_of_plan plan lanes j pool is types run)
  well_by (Firewall inside rules) is types run = tt
  well_by (Balancer service) is types run = tt

  -- the journal has few entries
  few_scheduled : IsTrue (has_types plan.function) → packet_count lanes ≤ 1048576
      → IsScheduled (setting_of plan lanes) (usual_way (eras_of plan.epochs)) j → length j < 2 ^ 41
  few_scheduled types few h =
      let s : Setting AnyFlight Arrival = setting_of plan lanes in
      let way : Way = usual_way (eras_of plan.epochs) in
      let lawful : IsLawful (era_of (eras_of plan.epochs)) way = usual_lawful (eras_of plan.epochs) in
      let m : List Entry = h.accesses in
      let laid : Grown (IsLaid (era_of (eras_of plan.epochs)) plan.shards) [] m = makes_laid s way lawful m h.made in
      let size : length m < 2 ^ 41 = few_of_offering plan lanes m types few
      (made_legal_from (era_of (eras_of plan.epochs)) plan.shards [] m laid)
      (offering_of_loose s m (makes_loose s way lawful m h.made)) in
      subst (λ n. n < 2 ^ 41) (sym (ap length h.sorted ∙ length-in_order m)) size

  pub runs_of_plan : IsTrue (has_types plan.function) → packet_count lanes ≤ 1048576
      → IsScheduled (setting_of plan lanes) (usual_way (eras_of plan.epochs)) j → IsRunOfPlan plan lanes j
  runs_of_plan types few h =
      let size : length j < 2 ^ 41 = few_scheduled types few h in
      let run : IsRun (setting_of plan lanes) j =
      scheduled_is_run (setting_of plan lanes) (usual_way (eras_of plan.epochs))
      (usual_lawful (eras_of plan.epochs)) j h (omega (arith, size)) in
      record {
        run = run;
        one_box = one_box_of_plan plan lanes j types run;
        pairs = keeps_pairs_of_plan plan lanes j types run;
        none_ill = none_ill_of_plan plan lanes j types run;
        bounded = bounded_of_plan plan lanes j run.legal (paths_of_run (setting_of plan lanes) j run);
        few = size;
        well = well_by plan.function refl types run;
      }

  pub clocks_of_plan : IsScheduled (setting_of plan lanes) (usual_way (eras_of plan.epochs)) j
      → HasClockStamps (setting_of plan lanes) j
  clocks_of_plan h = scheduled_clocked (setting_of plan lanes) j h
