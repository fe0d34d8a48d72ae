-- the greatest so far, and those of the buckets that are left
use Rattle.std.proofs.Common.{◌≡◌, ◌<◌, ◌^◌, max, drop}
use Rattle.slnf_run.specs.Made.{greatest_last}
use Rattle.slnf_shards.specs.Shards.{histories_of}
use Rattle.slnf_shards.proofs.shards.Shards.latest.Given as goal

abbrev pub invariant-loop-bucket : goal.invariant-loop-bucket
invariant-loop-bucket l = record {
  greatest : max l.latest (greatest_last (drop l.bucket-index (histories_of l.bucket-items)))
      ≡ greatest_last (histories_of l.bucket-items);
  below : l.latest < 2 ^ 62;
}
