-- What holds of a run of a NAT's plan beside its box.
use Rattle.std.proofs.Common.{◌≡◌, ℕ, List, ap, sym, ◌∙◌, subst}
use Rattle.std.specs.Prelude.{IsTrue}
use Rattle.slnf_base.specs.declared.plans.Pool.{Pool}
use Rattle.slnf_access.specs.declared.requests.Entry.{Entry}
use Rattle.slnf_plan.specs.declared.plan.FunctionPlan.{FunctionPlan}
use Rattle.slnf_plan.specs.declared.plan.FunctionPlan.TheVariants.{Nat, Firewall, Balancer}
use Rattle.slnf_plan.specs.declared.plan.Epoch.{Epoch}
use Rattle.slnf_plan.specs.declared.plan.Plan.{Plan}
use Rattle.slnf_run.specs.Run.{IsRun}
use Rattle.slnf_run.specs.Setting.{Setting, own_base}
use Rattle.slnf_run.specs.Visits.{decision_at}
use Rattle.slnf_box.specs.Pools.{nat_of}
use Rattle.slnf_nat.specs.declared.flights.OutState.TheVariants.{Release}
use Rattle.slnf_nat.specs.Flights.{Out}
use Rattle.slnf_nat.specs.Given.{IsNatList}
use Rattle.slnf_flight.specs.declared.lanes.Lane.{Lane}
use Rattle.slnf_flight.specs.Actors.{eras_of}
use Rattle.slnf_flight.specs.declared.flights.AnyFlight.{AnyFlight}
use Rattle.slnf_flight.specs.declared.flights.AnyFlight.TheVariants.{Nat as NatFlies}
use Rattle.slnf_flight.specs.Flights.{Arrival}
use Rattle.slnf_run.specs.Cases.{case_scene, case_setting}
use Rattle.slnf_setting.specs.Fits.{has_types}
use Rattle.slnf_setting.specs.NatRuns.{NatRunsWell}
use Rattle.slnf_flight.specs.PlanSetting.{nat_own, nat_case, scene_of, sweep_items_of, setting_with, setting_of}
use Rattle.slnf_run.proofs.CaseStands.{IsOwnDecision, case_flies, case_decision}
use Rattle.slnf_setting.proofs.NatWhole.{begins, own, nat_list}
use Rattle.slnf_setting.proofs.PlanFits.{PlanFits, plan_fits, plan_is_nat}
use Rattle.slnf_nat.proofs.NoPort.{no_port}
use Rattle.slnf_nat.proofs.LiveFlows.{release_done}

module _ (pool : Pool) (shards batch : ℕ) (epochs : List Epoch) (lanes : List Lane) (fits : PlanFits (Nat pool) epochs)
    (es : List Entry) (run : IsRun (case_setting nat_case (own pool shards batch epochs lanes)) es) where
  given : IsNatList (nat_of pool) (own_base (eras_of epochs)) (begins pool shards batch epochs lanes) es
  given = nat_list pool shards batch epochs lanes fits es run

  pub nat_runs_well : NatRunsWell (nat_of pool) (case_scene nat_case (nat_own pool epochs lanes)) es
  nat_runs_well = record {
    starved = λ number e decision at decided none.
        let o : IsOwnDecision NatFlies (decision_at (nat_own pool epochs lanes) es number) decision =
        case_decision nat_case (nat_own pool epochs lanes) es number decision decided in
        let r =
        no_port (nat_of pool) (plan_is_nat pool epochs fits) (own_base (eras_of epochs))
        (begins pool shards batch epochs lanes) es given number e o.own at o.there (o.verdict ∙ none) in
        (r.0, r.1, sym o.first ∙ ap NatFlies r.2, r.3);
    released = λ before later e place version incarnation port packet split stands.
        release_done (nat_of pool) (plan_is_nat pool epochs fits) (own_base (eras_of epochs))
        (begins pool shards batch epochs lanes) es given before later e place version incarnation port packet split
        (case_flies nat_case (nat_own pool epochs lanes) e.incarnation e.item before
        (Out (Release place version port) incarnation packet) stands);
  }

runs_by : (plan : Plan) (lanes : List Lane) (es : List Entry) (f : FunctionPlan) (pool : Pool) → f ≡ Nat pool →
    PlanFits f plan.epochs →
    (let s : Setting AnyFlight Arrival =
    setting_with plan.shards plan.batch plan.epochs lanes (sweep_items_of f) (scene_of f plan.epochs lanes) in
    IsRun s es → NatRunsWell (nat_of pool) s.scene es)
runs_by plan lanes es (Nat own) pool is fits run =
    let same : own ≡ pool = cc in
    subst (λ p. NatRunsWell (nat_of p) (scene_of (Nat own) plan.epochs lanes) es) same
    (nat_runs_well own plan.shards plan.batch plan.epochs lanes fits es run)
runs_by plan lanes es (Firewall inside rules) pool is fits run = absurd (cc)
runs_by plan lanes es (Balancer service) pool is fits run = absurd (cc)

-- In a run of a NAT's plan a packet has no port only where it is starved, and the reply to a release is Done.
pub nat_runs_of_plan : (plan : Plan) (lanes : List Lane) (es : List Entry) (pool : Pool) → plan.function ≡ Nat pool →
    IsTrue (has_types plan.function) → IsRun (setting_of plan lanes) es →
    NatRunsWell (nat_of pool) (setting_of plan lanes).scene es
nat_runs_of_plan plan lanes es pool is types run =
    runs_by plan lanes es plan.function pool is (plan_fits plan types) run
