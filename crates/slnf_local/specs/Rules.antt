-- The rules of order and of replies, entry by entry, and the first entry that breaks a rule.
use Rattle.std.specs.Prelude.{◌≡◌, ℕ, ◌+◌, Option, Some, None, List, [], ◌++◌, take, slice_get}
use Rattle.std.specs.List.{AllByRecursion}
use Rattle.slnf_access.specs.declared.requests.Entry.{Entry}
use Rattle.slnf_access.specs.Map.{key_of, reply_to, cell_of}
use Rattle.slnf_access.specs.Order.{Precedes, InOrder, IsInShard}
use Rattle.slnf_run.specs.Jobs.{last_of}
use Rattle.slnf_run.specs.Made.{Grown}

-- the entry comes after this one, if there is one
abbrev pub ComesAfter : Option Entry → Entry → Type 0
ComesAfter None e = Unit {0}
ComesAfter (Some before) e = Precedes before e

-- The entry is in order after these, and in its key's shard.
pub record IsOrderly (shards : ℕ) (es : List Entry) (e : Entry) : Type 0 where
  pub in_shard : IsInShard shards e
  pub in_order : ComesAfter (last_of es) e

-- the entry's reply is that of the map which these make
abbrev pub IsTrueReply : List Entry → Entry → Type 0
IsTrueReply es e = e.reply ≡ reply_to e.request e.stamp (cell_of (key_of e.request) None es)

-- The entries are in order, and in their keys' shards.
pub record IsOrdered (shards : ℕ) (j : List Entry) : Type 0 where
  pub in_order : InOrder j
  pub in_shards : AllByRecursion (IsInShard shards) j

-- The entry with this number, from 0, is the first of the tail that isn't allowed after those before it.
pub record BreaksFirst (Q : List Entry → Entry → Type 0) (es tail : List Entry) (k : ℕ) : Type 0 where
  pub entry : Entry
  pub there : slice_get tail k ≡ Some entry
  pub grown : Grown Q es (take k tail)
  pub broken : Q (es ++ take k tail) entry → ⊥

-- the first entry that isn't allowed after those before it has this place, counted from 1
abbrev pub BreaksAt : (List Entry → Entry → Type 0) → List Entry → ℕ → Type 0
BreaksAt Q j place = (k : ℕ) × (place ≡ k + 1) × BreaksFirst Q [] j k
