-- the epochs so far are followed
use Rattle.std.proofs.Common.{◌≤◌, ◌*◌}
use Rattle.slnf_follow.specs.Follows.{IsAtEpoch}
use Rattle.slnf_follow.proofs.checks.first_lapse.Given as goal

abbrev pub invariant-loop-number : goal.invariant-loop-number
invariant-loop-number l = record {
  base : l.course.base ≤ 33 * l.number;
  at : IsAtEpoch l.plan l.lanes l.entries l.number l.course;
}
