-- What a plan and its lanes keep, by their types.
use Rattle.std.proofs.Common.{◌≡◌, ◌^◌, ◌≤◌, true, nat_lt, List, length}
use Rattle.std.specs.Prelude.{IsTrue}
use Rattle.std.specs.List.{list_all}
use Rattle.std.proofs.lemmas.Bool.{and_parts, ltb-true}
use Rattle.slnf_base.specs.declared.plans.Pool.{Pool}
use Rattle.slnf_plan.specs.declared.plan.FunctionPlan.{FunctionPlan}
use Rattle.slnf_plan.specs.declared.plan.FunctionPlan.TheVariants.{Nat}
use Rattle.slnf_plan.specs.declared.plan.Epoch.{Epoch}
use Rattle.slnf_plan.specs.declared.plan.Plan.{Plan}
use Rattle.slnf_plan.specs.Ranges.{has_instances, has_lanes_apart}
use Rattle.slnf_box.specs.Pools.{IsPool, nat_of}
use Rattle.slnf_nat.specs.Given.{IsNat}
use Rattle.slnf_nat.proofs.PoolPairs.{pool_is_nat}
use Rattle.slnf_setting.specs.Fits.{has_types}

pub record PlanFits (function : FunctionPlan) (epochs : List Epoch) : Type 0 where
  pub types : has_types function ≡ true
  pub instances : list_all has_instances epochs ≡ true
  pub few : length epochs ≤ 1000
  pub apart : list_all has_lanes_apart epochs ≡ true

pub plan_fits : (plan : Plan) → IsTrue (has_types plan.function) → PlanFits plan.function plan.epochs
plan_fits plan types = record {
  types = types;
  instances = plan.instances_fit;
  few = plan.few_epochs;
  apart = plan.lanes_apart;
}

-- a pool's outside address and ports are in range
pub pool_fits : (pool : Pool) (epochs : List Epoch) → PlanFits (Nat pool) epochs → IsPool pool
pool_fits pool epochs fits =
    let parts : (nat_lt pool.outside (2 ^ 32) ≡ true) × (nat_lt pool.high (2 ^ 16) ≡ true) =
    and_parts (nat_lt pool.outside (2 ^ 32)) (nat_lt pool.high (2 ^ 16)) fits.types in
    record {
      outside_fits = ltb-true pool.outside (2 ^ 32) parts.0;
      high_fits = ltb-true pool.high (2 ^ 16) parts.1;
    }

-- so its NAT is one
pub plan_is_nat : (pool : Pool) (epochs : List Epoch) → PlanFits (Nat pool) epochs → IsNat (nat_of pool)
plan_is_nat pool epochs fits = pool_is_nat pool (pool_fits pool epochs fits)
