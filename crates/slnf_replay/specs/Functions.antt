-- The functions of a plan's epochs, as the code keeps them.
use Rattle.std.specs.Prelude.{◌≡◌, ℕ, Some, List, length, slice_get}
use Rattle.slnf_plan.specs.declared.plan.Epoch.{Epoch}
use Rattle.slnf_plan.specs.declared.plan.FunctionPlan.{FunctionPlan}
use Rattle.slnf_flight.specs.declared.functions.AnyFunction.{AnyFunction}
use Rattle.slnf_flight.specs.Functions.{IsFunctionOf}

-- There is one for each epoch, and it is the epoch's.
pub record AreFunctionsOf (plan_function : FunctionPlan) (epochs : List Epoch) (functions : List AnyFunction) : Type 0 where
  pub count : length functions ≡ length epochs
  pub each : (number : ℕ) (function : AnyFunction) → slice_get functions number ≡ Some function →
      IsFunctionOf plan_function (slice_get epochs number) function
