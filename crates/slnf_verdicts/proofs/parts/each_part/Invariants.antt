-- each incarnation has its entries of those so far
use Rattle.std.proofs.Common.{◌≡◌, ℕ, take}
use Rattle.slnf_run.specs.Parts.{part_of}
use Rattle.slnf_verdicts.specs.Tables.{lists, list_at}
use Rattle.slnf_verdicts.proofs.parts.each_part.Given as goal

abbrev pub invariant-loop-entry : goal.invariant-loop-entry
invariant-loop-entry l = (i : ℕ) → list_at (lists l.parts.items) i ≡ part_of i (take l.entry-index l.journal)
