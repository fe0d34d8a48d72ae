use Rattle.std.specs.Prelude.{◌≡◌, ℕ, ◌+◌, ◌%◌, ◌==◌, List, [], ◌∷◌, ◌++◌, filter}
use Rattle.slnf_access.specs.declared.requests.Entry.{Entry}
use Rattle.slnf_access.specs.Map.{key_of, IsLegal}
use Rattle.slnf_access.specs.Order.{IsHistory}

-- these are the histories of the shards from this one on
abbrev pub AreHistories : ℕ → List (List Entry) → Type 0
AreHistories shard [] = Unit {0}
AreHistories shard (history ∷ histories) = IsHistory shard history × AreHistories (shard + 1) histories

-- all entries, history by history
abbrev pub all_of : List (List Entry) → List Entry
all_of [] = []
all_of (history ∷ histories) = history ++ all_of histories

-- the entries of one shard
abbrev pub shard_part : ℕ → List Entry → List Entry
shard_part shard es = filter (λ e. e.shard == shard) es

-- each entry's shard is that of its key
abbrev pub InShards : ℕ → List Entry → Type 0
InShards shards [] = Unit {0}
InShards shards (e ∷ es) = (e.shard ≡ key_of e.request % shards) × InShards shards es

-- each history is legal by itself
abbrev pub EachLegal : List (List Entry) → Type 0
EachLegal [] = Unit {0}
EachLegal (history ∷ histories) = IsLegal history × EachLegal histories

-- histories that are each legal by themselves, with keys of one shard each, merge to a legal list
abbrev pub MergesLegally : List (List Entry) → List Entry → Type 0
MergesLegally histories merged = (shards : ℕ) → InShards shards (all_of histories) → EachLegal histories → IsLegal merged
