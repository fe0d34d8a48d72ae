-- what the entries that are left make of what was found is what all make
use Rattle.std.proofs.Common.{◌≡◌, drop, None}
use Rattle.slnf_access.specs.Map.{cell_of}
use Rattle.slnf_access.proofs.stores.held_at.Given as goal

abbrev pub invariant-loop-entry : goal.invariant-loop-entry
invariant-loop-entry l = cell_of l.key.0 l.held (drop l.entry-index l.entries) ≡ cell_of l.key.0 None l.entries
