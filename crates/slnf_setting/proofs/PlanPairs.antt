-- What a run of a plan keeps of the pairs that it gives out.
use Rattle.std.proofs.Common.{ℕ, List}
use Rattle.std.specs.Prelude.{IsTrue}
use Rattle.slnf_access.specs.declared.requests.Entry.{Entry}
use Rattle.slnf_plan.specs.declared.plan.FunctionPlan.{FunctionPlan}
use Rattle.slnf_plan.specs.declared.plan.FunctionPlan.TheVariants.{Nat, Firewall, Balancer}
use Rattle.slnf_plan.specs.declared.plan.Epoch.{Epoch}
use Rattle.slnf_plan.specs.declared.plan.Plan.{Plan}
use Rattle.slnf_run.specs.Run.{IsRun}
use Rattle.slnf_box.specs.Pools.{nat_of}
use Rattle.slnf_nat.specs.Given.{IsNatList}
use Rattle.slnf_flight.specs.declared.lanes.Lane.{Lane}
use Rattle.slnf_flight.specs.Actors.{eras_of}
use Rattle.slnf_flight.specs.Begins.{begins_of, no_sweeps}
use Rattle.slnf_setting.specs.Fits.{has_types}
use Rattle.slnf_flight.specs.LbPlan.{lb_starts}
use Rattle.slnf_flight.specs.PlanSetting.{lb_own, lb_case, scene_of, sweep_items_of, setting_with, setting_of}
use Rattle.slnf_setting.specs.Pairs.{KeepsPairs}
use Rattle.slnf_lb.proofs.PinsStay.{pins_stay}
use Rattle.slnf_run.proofs.WholeCases.{case_paths}
use Rattle.slnf_setting.proofs.NatWhole.{begins, nat_list}
use Rattle.slnf_setting.proofs.PlanFits.{PlanFits, plan_fits, plan_is_nat}
use Rattle.slnf_run.specs.Setting.{own_base}
use Rattle.slnf_nat.proofs.LiveFlows.{flows_apart}
use Rattle.slnf_setting.proofs.FlowsStay.{flows_stay}

pairs_by : (shards batch : ℕ) (epochs : List Epoch) (lanes : List Lane) (f : FunctionPlan) (es : List Entry) →
    PlanFits f epochs →
    IsRun (setting_with shards batch epochs lanes (sweep_items_of f) (scene_of f epochs lanes)) es → KeepsPairs f es
pairs_by shards batch epochs lanes (Nat pool) es fits run =
    let given : IsNatList (nat_of pool) (own_base (eras_of epochs)) (begins pool shards batch epochs lanes) es =
    nat_list pool shards batch epochs lanes fits es run in
    record {
      apart =
          flows_apart (nat_of pool) (plan_is_nat pool epochs fits) (own_base (eras_of epochs))
          (begins pool shards batch epochs lanes) es given;
      stay =
          flows_stay (nat_of pool) (plan_is_nat pool epochs fits) (own_base (eras_of epochs))
          (begins pool shards batch epochs lanes) es given;
    }
pairs_by shards batch epochs lanes (Firewall inside rules) es fits run = tt
pairs_by shards batch epochs lanes (Balancer service) es fits run =
    pins_stay service (begins_of (eras_of epochs) lanes (lb_starts service epochs) no_sweeps) es run.legal
    (case_paths lb_case (setting_with shards batch epochs lanes 0 (lb_own service epochs lanes)) es run)

-- No two live flows share an outside pair, and no flow's outside pair and no client's backend changes.
pub keeps_pairs_of_plan : (plan : Plan) (lanes : List Lane) (es : List Entry) → IsTrue (has_types plan.function) →
    IsRun (setting_of plan lanes) es → KeepsPairs plan.function es
keeps_pairs_of_plan plan lanes es types run =
    pairs_by plan.shards plan.batch plan.epochs lanes plan.function es (plan_fits plan types) run
