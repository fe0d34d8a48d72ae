-- The exit status of each answer.
use Rattle.std.specs.Prelude.{ℕ}
use Rattle.slnf_top.specs.declared.statuses.Status.{Status}
use Rattle.slnf_top.specs.declared.statuses.Status.TheVariants as status

abbrev pub code_of : Status → ℕ
code_of status.Ok = 0
code_of status.Left = 1
code_of status.Usage = 2
code_of (status.PlanBad error) = 3
code_of (status.CaptureBad lane error) = 4
code_of status.ReadFault = 5
code_of status.WriteFault = 6
code_of status.NoMemory = 7
code_of (status.Refused refusal) = 9
code_of (status.OverLimit limit count) = 10
