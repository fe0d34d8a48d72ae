-- the asks that are placed, and those that are left, are all of them
use Rattle.std.proofs.Common.{◌≡◌, ◌++◌, length, map, take, drop}
use Rattle.slnf_batch.specs.Order.{shard_of}
use Rattle.slnf_batch.proofs.groups.place.Given as goal

abbrev pub invariant-loop-number : goal.invariant-loop-number
invariant-loop-number l = record {
  placed : take l.number l.placed ++ map (λ ask. (shard_of l.shards ask, ask)) (drop l.number l.asks)
      ≡ map (λ ask. (shard_of l.shards ask, ask)) l.asks;
  room : length l.placed ≡ length l.asks;
}
