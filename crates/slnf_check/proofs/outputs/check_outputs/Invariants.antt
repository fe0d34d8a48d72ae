-- what is told of the lanes from this one on is told of all
use Rattle.std.proofs.Common.{◌≡◌, drop, length}
use Rattle.slnf_check.specs.Given.{AreGiven, AreSized}
use Rattle.slnf_check.specs.Outputs.{outputs_of, outputs_refusal}
use Rattle.slnf_check.proofs.outputs.check_outputs.Given as goal

abbrev pub invariant-loop-lane : goal.invariant-loop-lane
invariant-loop-lane l = record {
  told : outputs_refusal l.lane (drop l.lane l.outputs) (outputs_of (drop l.lane l.given) (drop l.lane l.verdicts))
      ≡ outputs_refusal 0 l.outputs (outputs_of l.given l.verdicts);
  each : length (drop l.lane l.outputs) ≡ length (drop l.lane l.given);
  given : AreGiven (drop l.lane l.given);
  sized : AreSized (drop l.lane l.given) (drop l.lane l.verdicts);
}
