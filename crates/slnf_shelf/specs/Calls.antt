-- Equality of kinds of calls, and the faults that a list of them counts.
use Rattle.std.specs.Prelude.{ℕ, List, Bool, true, false, ◌&&◌, count_by}
use Rattle.std.specs.Str.{bytes_eq}
use Rattle.slnf_shelf.specs.declared.shelf.Call.{Call}
use Rattle.slnf_shelf.specs.declared.shelf.Call.TheVariants.{Read, Begin, Append}
use Rattle.slnf_shelf.specs.declared.faults.Fault.{Fault}

-- the same kind
abbrev pub same_call : Call → Call → Bool
same_call Read Read = true
same_call Read Begin = false
same_call Read Append = false
same_call Begin Read = false
same_call Begin Begin = true
same_call Begin Append = false
same_call Append Read = false
same_call Append Begin = false
same_call Append Append = true

-- a fault of this kind of call at this name
abbrev pub is_fault_at : Call → List ℕ → Fault → Bool
is_fault_at call name fault = same_call fault.call call && bytes_eq fault.name name

-- how many of the faults are of this kind of call, at this name
abbrev pub fault_count : List Fault → Call → List ℕ → ℕ
fault_count faults call name = count_by (is_fault_at call name) faults
