-- The journal that a closed store's histories make.
use Rattle.std.specs.Prelude.{ℕ, List}
use Rattle.std.specs.List.Sorted.{IsPermutation}
use Rattle.slnf_access.specs.declared.requests.Entry.{Entry}
use Rattle.slnf_access.specs.Order.{InOrder}
use Rattle.slnf_merge.specs.Merge.{all_of}
use Rattle.slnf_turns.specs.declared.views.View.{View}
use Rattle.slnf_store.specs.Closes.{IsClosed}

-- These are all entries of the histories of so many shards, in order, where all passes were joined and this is what the
-- root knows.
pub record IsMerged (shards : ℕ) (root : View) (journal : List Entry) : Type 0 where
  pub histories : List (List Entry)
  pub closed : IsClosed shards root histories
  pub same : IsPermutation (all_of histories) journal
  pub in_order : InOrder journal
