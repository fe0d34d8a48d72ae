-- a sort of the asks beside their shards, by (shard, item), of distinct items
use Rattle.std.proofs.Common.{ℕ, map, subst, sym, rules}
use Rattle.std.proofs.lemmas.Fn.{always_returns_same}
use Rattle.std.specs.List.Sorted.{IsPermutation}
use Rattle.slnf_access.specs.declared.requests.Ask.{Ask}
use Rattle.slnf_batch.specs.Order.{shard_of, Ascends}
use Rattle.slnf_batch.proofs.Laws.{placed_ascend, placed_same}
use Rattle.slnf_batch.proofs.groups.group.Goals as goal

sorted : (c : goal.After-asks-1) →
    IsPermutation (map (λ ask. (shard_of c.args.shards ask, ask)) c.args.asks.now) c.sort_unstable_by_key.new.self
sorted c =
    subst (λ placed. IsPermutation placed c.sort_unstable_by_key.new.self) c.place.ensures
    c.sort_unstable_by_key.ensures.permutation

pub returns-clause-same : goal.returns-clause-same
returns-clause-same c =
    subst (λ asks. IsPermutation c.args.asks.now asks) (sym c.put_back.ensures)
    (placed_same c.args.shards c.args.asks.now _ (sorted c))

pub returns-clause-ascends : goal.returns-clause-ascends
returns-clause-ascends c =
    let key : ℕ × Ask → ℕ × ℕ = λ of_shard. (of_shard.0, of_shard.1.item) in
    subst (Ascends c.args.shards) (sym c.put_back.ensures)
    (placed_ascend c.args.shards c.args.asks.now _ (sorted c) c.requires.distinct
    (c.sort_unstable_by_key.ensures.sorted key (always_returns_same _ _ _ (λ a r f h. search rules))))
