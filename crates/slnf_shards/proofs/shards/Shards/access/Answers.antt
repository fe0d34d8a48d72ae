-- the bucket of the key's shard, and its place in the store
use Rattle.std.proofs.Common.{◌≡◌, ◌↔◌, ℕ, Err, IfOk, length, arith, subst}
use Rattle.slnf_access.specs.declared.requests.Entry.{Entry}
use Rattle.slnf_access.specs.Map.{key_of}
use Rattle.slnf_bucket.specs.declared.errors.BucketError.TheVariants.{StampsSpent}
use Rattle.slnf_shards.proofs.Buckets.{lent_of}
use Rattle.slnf_shards.proofs.Accesses.{lend, put_back, same_entry, same_latest}
use Rattle.slnf_shards.proofs.shards.Shards.access.Goals as goal

pub access-requires-clause-shard : goal.access-requires-clause-shard
access-requires-clause-shard c =
    let count : c.len.result ≡ length c.self.inside.buckets.items = omega arith in
    let lent = lend c.self.inside.buckets.items _ _ c.args.request _ c.self.invariant c.key.ensures count
    c.index_mut-bucket.ensures.value in
    let of = lent_of c.self.inside.buckets.items _ c.args.request _ lent in
    let shard = of.shard_is in
    let shards = of.shards_are in
    let key : c.key.result.0 ≡ key_of c.args.request = c.key.ensures in
    cc

pub invariant_of-self : goal.invariant_of-self
invariant_of-self c =
    let count : c.len.result ≡ length c.self.inside.buckets.items = omega arith in
    let lent = lend c.self.inside.buckets.items _ _ c.args.request _ c.self.invariant c.key.ensures count
    c.index_mut-bucket.ensures.value in
    let back = put_back _ _ _ c.args.clock c.args.incarnation c.args.item _ _ _ c.access.result lent c.self.view_is
    c.access.ensures.made c.access.ensures.stamp c.access.ensures.below c.access.ensures.unchanged in
    back.sharded

pub returns : goal.returns
returns c =
    let count : c.len.result ≡ length c.self.inside.buckets.items = omega arith in
    let lent = lend c.self.inside.buckets.items _ _ c.args.request _ c.self.invariant c.key.ensures count
    c.index_mut-bucket.ensures.value in
    let back = put_back _ _ _ c.args.clock c.args.incarnation c.args.item _ _ _ c.access.result lent c.self.view_is
    c.access.ensures.made c.access.ensures.stamp c.access.ensures.below c.access.ensures.unchanged in
    let same = same_entry _ _ _ c.args.clock c.args.incarnation c.args.item _ _ lent c.self.view_is in
    record {
      made = back.made;
      reply = subst (λ (e : Entry). IfOk c.access.result (λ answer. answer.0 ≡ e.reply)) same c.access.ensures.reply;
      stamp = subst (λ (e : Entry). IfOk c.access.result (λ answer. answer.1 ≡ e.stamp)) same c.access.ensures.stamp;
      below = c.access.ensures.below;
      can = c.access.ensures.can;
      stamps_spent = λ last. subst (λ (n : ℕ). (c.access.result ≡ Err (StampsSpent last)) ↔ ((last ≡ n)
          × (last ≡ 4611686018427387903))) (same_latest _ _ _ c.args.clock _ _ lent c.self.view_is)
          (c.access.ensures.spent last);
      unchanged = back.unchanged;
      spends = back.spends;
      most = back.most;
      count = back.count;
    }
