-- the buckets so far, and one more
use Rattle.std.proofs.Common.{◌≡◌, length, ap, sym, ◌∙◌, arith}
use Rattle.std.proofs.lemmas.List.{length_push}
use Rattle.slnf_bucket.specs.Bucket.{Kept}
use Rattle.slnf_run.specs.Made.{last_stamp}
use Rattle.slnf_shards.proofs.Buckets.{are_shards-push, empty-push}
use Rattle.slnf_shards.proofs.shards.Shards.make.Goals as goal

pub loop-shard-preserved : goal.loop-shard-preserved
loop-shard-preserved c =
    let buckets = c.loop-shard.buckets.items in
    let bucket = c.in_ok-make.field-0 in
    let made = c.in_ok-make.ensures in
    let shard : bucket.kept.shard ≡ c.loop-shard.shard = ap (λ (k : Kept). k.shard) made in
    let shards : bucket.kept.shards ≡ c.args.count = ap (λ (k : Kept). k.shards) made in
    let clock : bucket.kept.clock ≡ 0 = ap (λ (k : Kept). k.clock) made in
    let empty = ap (λ (k : Kept). k.entries) made in
    let count : length buckets ≡ c.loop-shard.shard = c.loop-shard.invariant.0 in
    rw c.in_ok-push.ensures.items (
      omega (arith, length_push buckets bucket),
      are_shards-push 0 c.args.count buckets bucket c.loop-shard.invariant.1 (record {
        shard_is = omega arith;
        shards_are = shards;
        clock_is = clock ∙ ap last_stamp (sym empty);
        below = omega arith;
      }),
      empty-push buckets bucket empty c.loop-shard.invariant.2,
    )

pub invariant_of-result : goal.invariant_of-result
invariant_of-result c =
    let count : length c.loop-shard.buckets.items ≡ c.args.count = omega (arith, c.loop-shard.invariant.0) in
    record { some = omega arith; own = rw count c.loop-shard.invariant.1 }
