-- What contracts say of the histories that come back.
use Rattle.std.specs.Prelude.{◌≡◌, ℕ, zero, suc, ◌<◌, ◌≤◌, ◌^◌, ◌==◌, List, [], ◌∷◌, length, filter}
use Rattle.std.specs.List.{AllByRecursion}
use Rattle.std.specs.List.Sorted.{IsPermutation}
use Rattle.slnf_access.specs.declared.requests.Entry.{Entry}
use Rattle.slnf_access.specs.Map.{IsLegal}
use Rattle.slnf_access.specs.Order.{InOrder}
use Rattle.slnf_merge.specs.Merge.{AreHistories, InShards, EachLegal, all_of}
use Rattle.slnf_turns.specs.declared.views.Joined.{Joined}
use Rattle.slnf_turns.specs.declared.views.View.{View}
use Rattle.slnf_turns.specs.Views.{Begins, list_in}
use Rattle.slnf_turns.specs.Values.{AreKept}
use Rattle.slnf_store.specs.Passes.{entries_of, entries_seen, greatest_listed, IsOwnList}

-- the history of a shard
abbrev pub history_at : List (List Entry) → ℕ → List Entry
history_at [] shard = []
history_at (history ∷ histories) zero = history
history_at (history ∷ histories) (suc shard) = history_at histories shard

-- the entries of an incarnation, in order
abbrev pub incarnation_part : ℕ → List Entry → List Entry
incarnation_part incarnation es = filter (λ (e : Entry). e.incarnation == incarnation) es

-- the list that the pass of an incarnation kept, as the root knows it: none where no pass was joined as that one
abbrev pub list_of : ℕ → View → List Entry
list_of incarnation root = entries_of (list_in (suc incarnation) root)

-- Merged in strict order of (stamp, shard), the histories are legal, and each incarnation's part is the list that its
-- pass kept: each of its accesses once, in its order, and nothing else.
abbrev pub MergesWell : View → List (List Entry) → List Entry → Type 0
MergesWell root histories merged =
    IsPermutation (all_of histories) merged
    → InOrder merged
    → IsLegal merged × ((incarnation : ℕ) → incarnation_part incarnation merged ≡ list_of incarnation root)

-- the list of a joined pass: each entry stands in its shard's history, with the stamp that it should have there
abbrev pub IsListIn : ℕ → List (List Entry) → Joined → Type 0
IsListIn shards histories x = IsOwnList shards x.listed.number x.told x.listed.lines (history_at histories)

-- what a joined pass last saw of each shard is a prefix of the shard's history
abbrev pub SawPrefixes : ℕ → List (List Entry) → Joined → Type 0
SawPrefixes shards histories x =
    (shard : ℕ) → shard < shards → Begins (entries_seen x.seen shard) (history_at histories shard)

-- a joined pass's stamps are greater than each stamp in the lists of the passes joined before its split
abbrev pub IsLater : Joined → Type 0
IsLater x = AllByRecursion (λ (e : Entry). greatest_listed x.told < e.stamp) (entries_of x.listed.lines)

-- the histories of so many shards, where all passes were joined and this is what the root knows
pub record IsClosed (shards : ℕ) (root : View) (histories : List (List Entry)) : Type 0 where
  pub count : length histories ≡ shards
  -- what merge asks, and what makes the merged list legal
  pub in_place : AreHistories 0 histories
  pub own : InShards shards (all_of histories)
  pub legal : EachLegal histories
  pub merges : (merged : List Entry) → MergesWell root histories merged
  pub lists : AllByRecursion (IsListIn shards histories) root.joined
  -- the root keeps each list by its number, and what was told at a split is what was joined by then
  pub kept : AreKept root
  pub seen : AllByRecursion (SawPrefixes shards histories) root.joined
  pub later : AllByRecursion IsLater root.joined
  -- stamps are 1 to 2^62 - 1, and none is greater than the number of all entries
  pub ranged : AllByRecursion (λ (e : Entry). (0 < e.stamp) × (e.stamp < 2 ^ 62)) (all_of histories)
  pub most : AllByRecursion (λ (e : Entry). e.stamp ≤ length (all_of histories)) (all_of histories)
