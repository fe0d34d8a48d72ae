-- the entry ends the history, and the map is what it makes
use Rattle.std.proofs.Common.{◌≡◌, ℕ, ◌+◌, ◌%◌, ◌^◌, ◌<◌, ◌==◌, nat_eq, if◌then◌else◌, [], ◌∷◌, ◌++◌, rules, arith, refl}
use Rattle.std.specs.HashMap.{get}
use Rattle.slnf_access.specs.declared.requests.Entry.{Entry}
use Rattle.slnf_access.specs.Map.{key_of, reply_to, cell_after}
use Rattle.slnf_bucket.specs.Bucket.{Kept}
use Rattle.slnf_bucket.proofs.Laws.{IsBucket-more}
use Rattle.slnf_bucket.proofs.buckets.Bucket.access.Goals as goal

pub invariant_of-self-2 : goal.invariant_of-self-2
invariant_of-self-2 c =
    let bucket = c.self.inside in
    let cells = get nat_eq bucket.held in
    let new = get nat_eq c.hold.new.held in
    let kept : Kept = record {
      shard = bucket.shard;
      shards = bucket.shards;
      clock = bucket.clock;
      entries = bucket.entries.items;
    } in
    let request = c.args.request in
    let stamp = c.max-latest.result + 1 in
    let e : Entry = record {
      stamp = stamp;
      shard = bucket.shard;
      incarnation = c.args.incarnation;
      item = c.args.item;
      request = request;
      reply = c.reply-reply.result;
    } in
    let items : c.push.new.self.items ≡ bucket.entries.items ++ e ∷ [] = search rules in
    let key : c.key-key.result.0 ≡ key_of request = c.key-key.ensures in
    let was : c.copied-held.result ≡ cells (key_of request) = search rules in
    let own : key_of request % bucket.shards ≡ bucket.shard = search rules in
    let reply : c.reply-reply.result ≡ reply_to request stamp (cells (key_of request)) = rw (← was) c.reply-reply.ensures in
    let above : bucket.clock < stamp = omega arith in
    let below : stamp < 2 ^ 62 = omega (arith, c.self.invariant.is_kept.below) in
    let left : (q : ℕ) → new q ≡ (if key_of request == q then cell_after request stamp (cells (key_of request)) else cells q) = λ q. rw (← was, ← key, ← c.leaves.ensures) (c.in_ok-hold.ensures.ok q) in
    rw items (IsBucket-more cells new kept e c.self.invariant refl own reply above below left)
