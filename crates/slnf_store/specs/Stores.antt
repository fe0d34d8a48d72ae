-- What contracts say of the store and of the passes that belong to it.
use Rattle.std.specs.Prelude.{◌≡◌, ℕ}
use Rattle.slnf_turns.specs.Passes.{shards}
use Rattle.slnf_store.specs.declared.stores.Store.{Store}
use Rattle.slnf_store.specs.Passes.{PassState}

-- how many shards the store has
abbrev pub shards_of : Store → ℕ
shards_of store = shards store.turns

-- the pass is the root that came with the store, or was split from it
abbrev pub IsOf : Store → PassState → Type 0
IsOf store pass = pass.table_id ≡ store.turns.table.shared.table_id
