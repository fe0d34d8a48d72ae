use Rattle.std.specs.Prelude.{◌≡◌, ℕ, ◌%◌, ◌<◌, ◌⊎◌, List, AllPairs}
use Rattle.slnf_access.specs.declared.requests.Ask.{Ask}
use Rattle.slnf_access.specs.Map.{key_of}

-- the shard of the key that is asked for
abbrev pub shard_of : ℕ → Ask → ℕ
shard_of shards ask = key_of ask.request % shards

-- the one ask comes first: by its shard, and in one shard by its item
abbrev pub GoesBefore : ℕ → Ask → Ask → Type 0
GoesBefore shards ask other =
    (shard_of shards ask < shard_of shards other)
    ⊎ ((shard_of shards ask ≡ shard_of shards other) × (ask.item < other.item))

-- each ask comes before all behind it
abbrev pub Ascends : ℕ → List Ask → Type 0
Ascends shards asks = AllPairs (GoesBefore shards) asks

-- no item stands twice
abbrev pub ItemsDiffer : List Ask → Type 0
ItemsDiffer asks = AllPairs (λ ask other. ¬ (ask.item ≡ other.item)) asks
