-- the buckets so far
use Rattle.std.proofs.Common.{◌≡◌, length}
use Rattle.slnf_shards.specs.Shards.{AreShards, AreEmpty, histories_of}
use Rattle.slnf_shards.proofs.shards.Shards.make.Given as goal

abbrev pub invariant-loop-shard : goal.invariant-loop-shard
invariant-loop-shard l =
    (length l.buckets.items ≡ l.shard) × AreShards 0 l.fn.count l.buckets.items
    × AreEmpty (histories_of l.buckets.items)
