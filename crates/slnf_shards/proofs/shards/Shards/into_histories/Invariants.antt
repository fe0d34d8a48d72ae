-- the histories so far, and the buckets of the shards after them
use Rattle.std.specs.Vec.Iter.{into_iter_items}
use Rattle.slnf_shards.proofs.Stored.{IsTaking}
use Rattle.slnf_shards.proofs.shards.Shards.into_histories.Given as goal

abbrev pub invariant-loop-bucket : goal.invariant-loop-bucket
invariant-loop-bucket l = IsTaking l.histories.items (into_iter_items l.bucket-iterator) l.fn.self
