-- A shelf in memory, whose calls fail where a list says so.
use Rattle.std.specs.Prelude.{◌≡◌, ℕ, List, Bool, ◌||◌, false, is_none}
use Rattle.slnf_shelf.specs.declared.shelf.Call.{Call}
use Rattle.slnf_shelf.specs.declared.shelf.Call.TheVariants.{Read, Begin, Append}
use Rattle.slnf_shelf.specs.declared.faults.Fault.{Fault}
use Rattle.slnf_shelf.specs.declared.files.Stored.{Stored}
use Rattle.slnf_shelf.specs.declared.calls.Fail.{Fail}
use Rattle.slnf_shelf.specs.declared.calls.Made.{Made}
use Rattle.slnf_shelf.specs.Listed.{is_listed}
use Rattle.slnf_shelf.specs.Counters.{one_more}
use Rattle.slnf_shelf.specs.Files.{find_file}

-- what a shelf in memory is: its files, the calls that are to fail, the calls made, and the faults
pub record Memory : Type 0 where
  pub files : List Stored
  pub fails : List Fail
  pub made : Made
  pub faults : List Fault

-- the number of the next call of a kind, which is counted from 1
abbrev pub next_number : Made → Call → ℕ
next_number made Read = one_more made.reads
next_number made Begin = one_more made.begins
next_number made Append = one_more made.appends

-- the calls made, with one more of this kind
abbrev pub with_call : Call → Made → Made
with_call Read made = record made { reads = one_more made.reads }
with_call Begin made = record made { begins = one_more made.begins }
with_call Append made = record made { appends = one_more made.appends }

-- a read of a file that isn't there
abbrev pub is_missing : Memory → Call → List ℕ → Bool
is_missing memory Read name = is_none (find_file name memory.files)
is_missing memory Begin name = false
is_missing memory Append name = false

-- A call of this kind at this name fails: the list has it, or it reads a file that isn't there.
abbrev pub fails_at : Memory → Call → List ℕ → Bool
fails_at memory call name = is_listed memory.fails call (next_number memory.made call) || is_missing memory call name

-- the list, the calls made and the faults are as before
pub record KeepsRest (before now : Memory) : Type 0 where
  pub fails : now.fails ≡ before.fails
  pub made : now.made ≡ before.made
  pub faults : now.faults ≡ before.faults
