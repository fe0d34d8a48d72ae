-- Lists of accesses that can be put in order: all that this asks of stamps.
use Rattle.std.specs.Prelude.{◌≡◌, ℕ, ◌%◌, ◌≤◌, IsTrue, List}
use Rattle.slnf_access.specs.declared.requests.Entry.{Entry}
use Rattle.slnf_access.specs.Map.{key_of, IsLegal}
use Rattle.slnf_access.specs.Order.{Precedes}
use Rattle.slnf_run.specs.Made.{Pairs, is_before}
use Rattle.std.specs.List.{AllByRecursion}

-- the later event comes behind the earlier in the order by (stamp, shard), where shard, incarnation or epoch asks
-- for it
abbrev pub IsBehind : (ℕ → ℕ) → Entry → Entry → Type 0
IsBehind epoch e f = IsTrue (is_before epoch f.incarnation f.shard e) → Precedes e f

pub record IsSpread (epoch : ℕ → ℕ) (shards : ℕ) (m : List Entry) : Type 0 where
  pub behind : Pairs (IsBehind epoch) m
  pub own : AllByRecursion (λ e. e.shard ≡ key_of e.request % shards) m
  pub legal : IsLegal m
  pub epochs : Pairs (λ e f. epoch e.incarnation ≤ epoch f.incarnation) m
