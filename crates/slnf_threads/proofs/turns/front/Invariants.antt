-- so many are of the first one's shard
use Rattle.std.proofs.Common.{◌≡◌, ◌≤◌, take}
use Rattle.slnf_store.specs.Accesses.{first_shard, AreInShard}
use Rattle.slnf_threads.proofs.turns.front.Given as goal

abbrev pub invariant-loop-count : goal.invariant-loop-count
invariant-loop-count l = record {
  shard : l.shard ≡ first_shard l.shards l.round;
  some : 1 ≤ l.count;
  upto : l.count ≤ l.limit;
  keys : AreInShard l.shards (first_shard l.shards l.round) (take l.count l.round);
}
