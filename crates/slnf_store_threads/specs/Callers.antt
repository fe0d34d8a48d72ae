-- The passes of callers.
use Rattle.std.specs.Prelude.{◌≡◌, ◌≢◌, []}
use Rattle.slnf_store.specs.declared.stores.Store.{Store}
use Rattle.slnf_store.specs.Stores.{IsOf}
use Rattle.slnf_store.specs.Passes.{PassState, own_entries}

-- the pass was split from this store's root
abbrev pub IsCaller : Store → PassState → Type 0
IsCaller store pass = IsOf store pass × (pass.known.number ≢ 0)

-- it was, and has made no access
abbrev pub IsFresh : Store → PassState → Type 0
IsFresh store pass = IsCaller store pass × (own_entries pass ≡ [])
