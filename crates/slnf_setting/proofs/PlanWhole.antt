-- One ordinary box explains each run of a plan, with all that is written.
use Rattle.std.proofs.Common.{◌≡◌, ℕ, true, List, sym, subst}
use Rattle.std.specs.Prelude.{IsTrue}
use Rattle.std.specs.List.{list_all}
use Rattle.slnf_base.specs.declared.plans.Pool.{Pool}
use Rattle.slnf_access.specs.declared.requests.Entry.{Entry}
use Rattle.slnf_access.specs.Machines.{Stand, Flies, Ends}
use Rattle.slnf_plan.specs.declared.plan.FunctionPlan.{FunctionPlan}
use Rattle.slnf_plan.specs.declared.plan.FunctionPlan.TheVariants.{Nat, Firewall, Balancer}
use Rattle.slnf_plan.specs.declared.plan.Epoch.{Epoch}
use Rattle.slnf_plan.specs.declared.plan.Plan.{Plan}
use Rattle.slnf_plan.specs.Ranges.{has_lanes_apart}
use Rattle.slnf_run.specs.Scene.{stand_of}
use Rattle.slnf_run.specs.Images.{stand_as}
use Rattle.slnf_run.specs.Setting.{Setting}
use Rattle.slnf_run.specs.Run.{IsRun}
use Rattle.slnf_run.specs.OneBox.{IsSound}
use Rattle.slnf_box.specs.Pools.{nat_of}
use Rattle.slnf_nat.specs.LeaksNothing.{LeaksNothing}
use Rattle.slnf_flight.specs.declared.lanes.Lane.{Lane}
use Rattle.slnf_flight.specs.declared.flights.AnyFlight.{AnyFlight}
use Rattle.slnf_flight.specs.declared.flights.AnyFlight.TheVariants.{Nat as NatFlies, Firewall as FwFlies, Balancer as LbFlies}
use Rattle.slnf_flight.specs.Flights.{Arrival}
use Rattle.slnf_flight.specs.FwPlan.{policy_with}
use Rattle.slnf_flight.specs.PlanSetting.{nat_own, fw_own, lb_own, nat_case, fw_case, lb_case, scene_of, sweep_items_of, setting_with, setting_of}
use Rattle.slnf_setting.specs.Fits.{has_types}
use Rattle.slnf_setting.proofs.Fitting.{pairs_fit}
use Rattle.slnf_setting.proofs.PlanFits.{PlanFits, plan_fits}
use Rattle.slnf_setting.specs.OneBoxOfPlan.{IsOneBoxBy, IsOneBoxOfPlan}
use Rattle.slnf_setting.specs.OwnFlights.{IsFlightOf, IsStandOf}
use Rattle.slnf_run.proofs.CaseStands.{case_stand}
use Rattle.slnf_run.proofs.SoundCases.{case_sound}
use Rattle.slnf_setting.proofs.NatWhole.{nat_sound, nat_whole, nat_leaks_nothing}
use Rattle.slnf_setting.proofs.FwWhole.{fw_sound, fw_whole}
use Rattle.slnf_setting.proofs.LbWhole.{lb_sound, lb_whole}

-- The setting of each function with these epochs and lanes is sound.
sound_by : (shards batch : ℕ) (epochs : List Epoch) (lanes : List Lane) (f : FunctionPlan) →
    list_all has_lanes_apart epochs ≡ true →
    IsSound (setting_with shards batch epochs lanes (sweep_items_of f) (scene_of f epochs lanes))
sound_by shards batch epochs lanes (Nat pool) apart =
    case_sound nat_case
    (setting_with shards batch epochs lanes (sweep_items_of (Nat pool)) (nat_own pool epochs lanes))
    (nat_sound pool shards batch epochs lanes apart)
sound_by shards batch epochs lanes (Firewall inside rules) apart =
    case_sound fw_case
    (setting_with shards batch epochs lanes 0 (fw_own (policy_with inside rules) epochs lanes))
    (fw_sound (policy_with inside rules) shards batch epochs lanes apart)
sound_by shards batch epochs lanes (Balancer service) apart =
    case_sound lb_case (setting_with shards batch epochs lanes 0 (lb_own service epochs lanes))
    (lb_sound service shards batch epochs lanes apart)

-- The setting of each plan is sound.
pub plan_sound : (plan : Plan) (lanes : List Lane) → IsSound (setting_of plan lanes)
plan_sound plan lanes = sound_by plan.shards plan.batch plan.epochs lanes plan.function plan.lanes_apart

-- One ordinary box explains each run of such a setting.
whole_by : (shards batch : ℕ) (epochs : List Epoch) (lanes : List Lane) (f : FunctionPlan) (es : List Entry) →
    PlanFits f epochs →
    (let s : Setting AnyFlight Arrival =
    setting_with shards batch epochs lanes (sweep_items_of f) (scene_of f epochs lanes) in
    IsRun s es → IsOneBoxBy f s es)
whole_by shards batch epochs lanes (Nat pool) es fits run = nat_whole pool shards batch epochs lanes fits es run
whole_by shards batch epochs lanes (Firewall inside rules) es fits run =
    fw_whole (policy_with inside rules) shards batch epochs lanes es fits.apart run
whole_by shards batch epochs lanes (Balancer service) es fits run =
    lb_whole service shards batch epochs lanes es fits.apart (pairs_fit service.backends fits.types) run

-- One ordinary box explains each run of a plan, with all that is written.
pub one_box_of_plan : (plan : Plan) (lanes : List Lane) (es : List Entry) → IsTrue (has_types plan.function) →
    IsRun (setting_of plan lanes) es → IsOneBoxOfPlan plan lanes es
one_box_of_plan plan lanes es types run =
    whole_by plan.shards plan.batch plan.epochs lanes plan.function es (plan_fits plan types) run

-- Nothing leaks in a run of a NAT's plan.
leaks_by : (plan : Plan) (lanes : List Lane) (es : List Entry) (f : FunctionPlan) (pool : Pool) → f ≡ Nat pool →
    PlanFits f plan.epochs →
    (let s : Setting AnyFlight Arrival =
    setting_with plan.shards plan.batch plan.epochs lanes (sweep_items_of f) (scene_of f plan.epochs lanes) in
    IsRun s es → LeaksNothing (nat_of pool) (λ cells. cells) s es)
leaks_by plan lanes es (Nat own) pool is fits run =
    let same : own ≡ pool = cc in
    subst (λ p. LeaksNothing (nat_of p) (λ cells. cells)
    (setting_with plan.shards plan.batch plan.epochs lanes (sweep_items_of (Nat own))
    (scene_of (Nat own) plan.epochs lanes)) es) same
    (nat_leaks_nothing own plan.shards plan.batch plan.epochs lanes fits es run)
leaks_by plan lanes es (Firewall inside rules) pool is fits run = absurd (cc)
leaks_by plan lanes es (Balancer service) pool is fits run = absurd (cc)

pub nothing_leaks_of_plan : (plan : Plan) (lanes : List Lane) (es : List Entry) (pool : Pool) →
    plan.function ≡ Nat pool → IsTrue (has_types plan.function) → IsRun (setting_of plan lanes) es →
    LeaksNothing (nat_of pool) (λ cells. cells) (setting_of plan lanes) es
nothing_leaks_of_plan plan lanes es pool is types run =
    leaks_by plan lanes es plan.function pool is (plan_fits plan types) run

-- Each item flies as a flight of the plan's function.
function_stand : {F : Type 0} (f : FunctionPlan) (into : F → AnyFlight) → ((flight : F) → IsFlightOf f (into flight))
    → (st : Stand F) → IsStandOf f (stand_as into st)
function_stand f into own (Flies flight) = own flight
function_stand f into own (Ends end) = tt

pub no_strays_by : (f : FunctionPlan) (epochs : List Epoch) (lanes : List Lane) (i k : ℕ) (es : List Entry)
    → IsStandOf f (stand_of (scene_of f epochs lanes) i k es)
no_strays_by (Nat pool) epochs lanes i k es =
    subst (IsStandOf (Nat pool)) (sym (case_stand nat_case (nat_own pool epochs lanes) i k es))
    (function_stand (Nat pool) NatFlies (λ flight. tt) (stand_of (nat_own pool epochs lanes) i k es))
no_strays_by (Firewall inside rules) epochs lanes i k es =
    subst (IsStandOf (Firewall inside rules))
    (sym (case_stand fw_case (fw_own (policy_with inside rules) epochs lanes) i k es))
    (function_stand (Firewall inside rules) FwFlies (λ flight. tt)
    (stand_of (fw_own (policy_with inside rules) epochs lanes) i k es))
no_strays_by (Balancer service) epochs lanes i k es =
    subst (IsStandOf (Balancer service)) (sym (case_stand lb_case (lb_own service epochs lanes) i k es))
    (function_stand (Balancer service) LbFlies (λ flight. tt) (stand_of (lb_own service epochs lanes) i k es))

pub no_strays : (plan : Plan) (lanes : List Lane) (i k : ℕ) (es : List Entry)
    → IsStandOf plan.function (stand_of (setting_of plan lanes).scene i k es)
no_strays plan lanes i k es = no_strays_by plan.function plan.epochs lanes i k es
