-- What bytes read as: a plan, or why they are none.
use Rattle.std.specs.Prelude.{◌≡◌, ℕ, List, [], Option, Some, None, Result, Ok, Err, unwrap_or, if◌then◌else◌}
use Rattle.std.specs.Str.{is_utf8}
use Rattle.toml.specs.Data.{Members}
use Rattle.toml.specs.Parse.{parse_document}
use Rattle.slnf_plan.specs.declared.error.PlanError.{PlanError}
use Rattle.slnf_plan.specs.declared.error.PlanError.TheVariants as errors
use Rattle.slnf_plan.specs.declared.refusal.Cause.{Cause}
use Rattle.slnf_plan.specs.declared.refusal.Cause.TheVariants as causes
use Rattle.slnf_plan.specs.declared.refusal.Refusal.{Refusal}
use Rattle.slnf_plan.specs.Plain.{PlainPlan}
use Rattle.slnf_plan.specs.Plans.{plan_of}

-- the table that the TOML reader gives to the bytes
abbrev pub table_of : List ℕ → Option Members
table_of bytes = if is_utf8 bytes then parse_document bytes else None

-- a rule that is broken at this path
abbrev pub error_at : Cause → List ℕ → PlanError
error_at causes.MissingKey path = errors.MissingKey path
error_at causes.UnknownKey path = errors.UnknownKey path
error_at causes.WrongType path = errors.WrongType path
error_at causes.BadAddress path = errors.BadAddress path
error_at causes.BadPrefix path = errors.BadPrefix path
error_at causes.OutOfRange path = errors.OutOfRange path
error_at causes.LaneTwice path = errors.LaneTwice path
error_at causes.NoBackend path = errors.NoBackend path
error_at causes.NoEpoch path = errors.NoEpoch path
error_at causes.ScheduleActor path = errors.ScheduleActor path

abbrev pub error_of : Refusal → PlanError
error_of r = error_at r.cause (unwrap_or r.path [])

abbrev pub told : Result PlainPlan Refusal → Result PlainPlan PlanError
told (Ok plan) = Ok plan
told (Err r) = Err (error_of r)

-- the plan of a document's table, and NotToml with the empty path where there is no table
abbrev pub plan_or_error : Option Members → Result PlainPlan PlanError
plan_or_error None = Err (errors.NotToml [])
plan_or_error (Some ms) = told (plan_of ms)

-- the plan of the bytes, or the first refusal
unfoldable pub plan_of_bytes : List ℕ → Result PlainPlan PlanError
plan_of_bytes bytes = plan_or_error (table_of bytes)

-- want of memory says nothing of the bytes, and each other error is the first refusal
abbrev pub Refuses : Result PlainPlan PlanError → PlanError → Type 0
Refuses read errors.NoMemory = Unit {0}
Refuses read error = read ≡ Err error
