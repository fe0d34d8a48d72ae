-- Orders of entries.
use Rattle.std.specs.Prelude.{◌≡◌, ◌⊎◌, ℕ, ◌%◌, ◌^◌, ◌<◌, ◌≤◌, List, [], ◌∷◌, ◌++◌}
use Rattle.slnf_access.specs.declared.requests.Entry.{Entry}
use Rattle.slnf_access.specs.Map.{key_of}

-- the one entry's event comes before the other's, by (stamp, shard)
abbrev pub Precedes : Entry → Entry → Type 0
Precedes e f = (e.stamp < f.stamp) ⊎ ((e.stamp ≡ f.stamp) × (e.shard < f.shard))

-- the list is in strict order of (stamp, shard)
abbrev pub InOrder : List Entry → Type 0
InOrder [] = Unit {0}
InOrder (e ∷ []) = Unit {0}
InOrder (e ∷ f ∷ es) = Precedes e f × InOrder (f ∷ es)

-- the stamps rise strictly, and each entry is the shard's
abbrev pub IsHistory : ℕ → List Entry → Type 0
IsHistory shard [] = Unit {0}
IsHistory shard (e ∷ []) = e.shard ≡ shard
IsHistory shard (e ∷ f ∷ es) = (e.shard ≡ shard) × (e.stamp < f.stamp) × IsHistory shard (f ∷ es)

-- on one key stamps rise strictly
abbrev pub RisesOnKeys : List Entry → Type 0
RisesOnKeys es =
    (before middle later : List Entry) (e f : Entry) → es ≡ before ++ e ∷ (middle ++ f ∷ later) →
    key_of e.request ≡ key_of f.request → e.stamp < f.stamp

-- the entry's stamp is one that the texts have, and its shard is that of its key
pub record IsInShard (shards : ℕ) (e : Entry) : Type 0 where
  pub from_one : 1 ≤ e.stamp
  pub below_end : e.stamp < 2 ^ 62
  pub shard : e.shard ≡ key_of e.request % shards
