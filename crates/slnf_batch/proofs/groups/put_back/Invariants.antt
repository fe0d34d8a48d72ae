-- the asks that are put back, and those that are left, are all of them
use Rattle.std.proofs.Common.{◌≡◌, ℕ, ◌++◌, length, map, take, drop}
use Rattle.slnf_access.specs.declared.requests.Ask.{Ask}
use Rattle.slnf_batch.proofs.groups.put_back.Given as goal

abbrev pub invariant-loop-number : goal.invariant-loop-number
invariant-loop-number l = record {
  back : take l.number l.asks ++ map (λ (of_shard : ℕ × Ask). of_shard.1) (drop l.number l.placed)
      ≡ map (λ (of_shard : ℕ × Ask). of_shard.1) l.placed;
  room : length l.asks ≡ length l.placed;
}
