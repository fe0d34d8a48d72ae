-- the clocks are stamps
use Rattle.std.proofs.Common.{◌<◌, ◌^◌}
use Rattle.slnf_shards.proofs.tests.journal_of.Given as goal

abbrev pub invariant-loop-number : goal.invariant-loop-number
invariant-loop-number l = (l.first < 2 ^ 62) × (l.second < 2 ^ 62)
