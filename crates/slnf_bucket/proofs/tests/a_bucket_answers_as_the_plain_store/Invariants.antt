-- the one shard
use Rattle.std.proofs.Common.{◌≡◌}
use Rattle.slnf_bucket.proofs.tests.a_bucket_answers_as_the_plain_store.Given as goal

abbrev pub invariant-loop-place : goal.invariant-loop-place
invariant-loop-place g l = (l.bucket.kept.shard ≡ 0) × (l.bucket.kept.shards ≡ 1)
