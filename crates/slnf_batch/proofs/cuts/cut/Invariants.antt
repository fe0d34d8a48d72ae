-- no key stands twice so far
use Rattle.std.proofs.Common.{take}
use Rattle.slnf_batch.specs.Cut.{KeysDiffer}
use Rattle.slnf_batch.proofs.cuts.cut.Given as goal

abbrev pub invariant-loop-place : goal.invariant-loop-place
invariant-loop-place l = KeysDiffer (take l.place l.firsts)
