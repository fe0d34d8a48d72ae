-- the files that were made and those that are left are all
use Rattle.std.proofs.Common.{◌≡◌, ◌++◌, drop}
use Rattle.slnf_check.specs.Given.{AreGiven, AreSized}
use Rattle.slnf_top.specs.Files.{capture_files}
use Rattle.slnf_top.proofs.outputs.capture_files.Given as goal

abbrev pub invariant-loop-lane : goal.invariant-loop-lane
invariant-loop-lane l = record {
  files : l.files.items ++ capture_files l.out l.lane (drop l.lane l.given) (drop l.lane l.lanes)
      ≡ capture_files l.out 0 l.given l.lanes;
  given : AreGiven (drop l.lane l.given);
  sized : AreSized (drop l.lane l.given) (drop l.lane l.lanes);
}
