-- what was appended, and what is left to append, is all
use Rattle.std.proofs.Common.{◌≡◌, ◌++◌, drop}
use Rattle.slnf_flight.specs.Output.{all_emitted}
use Rattle.slnf_flight.proofs.outputs.write_emitted.Given as goal

abbrev pub invariant-loop-place : goal.invariant-loop-place
invariant-loop-place l = l.out.items ++ all_emitted l.link l.bytes (drop l.place l.packets)
    (drop l.place l.verdicts) ≡ l.fn.out.items ++ all_emitted l.link l.bytes l.packets l.verdicts
