use Rattle.std.specs.Prelude.{ℕ, List, Option, Some, None}
use Rattle.slnf_plan.specs.declared.error.PlanError.{PlanError}
use Rattle.slnf_plan.specs.declared.error.PlanError.TheVariants.{NotToml, MissingKey, UnknownKey, WrongType, BadAddress, BadPrefix, OutOfRange, LaneTwice, NoBackend, NoEpoch, ScheduleActor, NoMemory}

-- an error's number, which want of memory has none of
abbrev pub error_number : PlanError → Option ℕ
error_number (NotToml path) = Some 1
error_number (MissingKey path) = Some 2
error_number (UnknownKey path) = Some 3
error_number (WrongType path) = Some 4
error_number (BadAddress path) = Some 5
error_number (BadPrefix path) = Some 6
error_number (OutOfRange path) = Some 7
error_number (LaneTwice path) = Some 8
error_number (NoBackend path) = Some 9
error_number (NoEpoch path) = Some 10
error_number (ScheduleActor path) = Some 11
error_number NoMemory = None

-- the path that an error speaks of
abbrev pub error_path : PlanError → Option (List ℕ)
error_path (NotToml path) = Some path
error_path (MissingKey path) = Some path
error_path (UnknownKey path) = Some path
error_path (WrongType path) = Some path
error_path (BadAddress path) = Some path
error_path (BadPrefix path) = Some path
error_path (OutOfRange path) = Some path
error_path (LaneTwice path) = Some path
error_path (NoBackend path) = Some path
error_path (NoEpoch path) = Some path
error_path (ScheduleActor path) = Some path
error_path NoMemory = None
