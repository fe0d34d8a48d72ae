-- one bucket more
use Rattle.std.proofs.Common.{◌≡◌, ◌<◌, ◌^◌, List, max, length, sym, ◌∙◌, subst, arith}
use Rattle.slnf_bucket.specs.Bucket.{Bucketed}
use Rattle.slnf_shards.specs.Shards.{AreShards}
use Rattle.slnf_shards.proofs.Buckets.{latest_step}
use Rattle.slnf_shards.proofs.shards.Shards.latest.Goals as goal

pub loop-bucket-preserved : goal.loop-bucket-preserved
loop-bucket-preserved c =
    let buckets = c.deref-bucket-items.result.now in
    let own : AreShards 0 (length buckets) buckets =
    subst (λ (l : List Bucketed). AreShards 0 (length l) l) (sym c.deref-bucket-items.ensures.value)
    c.self.invariant.own in
    let bucket = c.bucket-item.result in
    let latest = c.loop-bucket.latest in
    let clock : c.clock.result ≡ bucket.kept.clock = c.clock.ensures.value in
    let low : bucket.kept.clock < 2 ^ 62 = c.clock.ensures.kept.below in
    let most : latest < 2 ^ 62 = c.loop-bucket.invariant.below in
    let next : c.max-latest.result ≡ max bucket.kept.clock latest = omega (arith, c.max-latest.ensures, clock) in
    record {
      greatest = latest_step 0 (length buckets) buckets c.loop-bucket.bucket-index latest _ bucket own
          c.loop-bucket-test.true c.bucket-item.is next
          ∙ c.loop-bucket.invariant.greatest;
      below = omega arith;
    }
