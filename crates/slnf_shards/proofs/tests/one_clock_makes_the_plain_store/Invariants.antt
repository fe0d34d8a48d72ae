-- the clock is a stamp
use Rattle.std.proofs.Common.{◌<◌, ◌^◌}
use Rattle.slnf_shards.proofs.tests.one_clock_makes_the_plain_store.Given as goal

abbrev pub invariant-loop-number : goal.invariant-loop-number
invariant-loop-number g l = l.clock < 2 ^ 62
