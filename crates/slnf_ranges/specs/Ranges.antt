-- Histories in ranges of stamps.
use Rattle.std.specs.Prelude.{ℕ, nat_lt, nat_le, Result, Ok, Err, List, [], ◌∷◌, ◌++◌, map, filter, Vec}
use Rattle.std.specs.Global.{Global}
use Rattle.std.specs.List.Sorted.{IsPermutation}
use Rattle.slnf_access.specs.declared.requests.Entry.{Entry}
use Rattle.slnf_access.specs.Order.{InOrder}
use Rattle.slnf_base.specs.declared.memory.NoMemory.{NoMemory}
use Rattle.slnf_merge.specs.Merge.{all_of}

-- the entries with stamps below the bound
abbrev pub below : ℕ → List Entry → List Entry
below bound es = filter (λ e. nat_lt e.stamp bound) es

-- the entries with stamps from the bound on
abbrev pub from_on : ℕ → List Entry → List Entry
from_on bound es = filter (λ e. nat_le bound e.stamp) es

-- The histories in ranges of stamps: up to the first bound, from each bound to the next one, and from the last one on. Each
-- range has a part of each history.
abbrev pub ranges : List ℕ → List (List Entry) → List (List (List Entry))
ranges [] hs = hs ∷ []
ranges (bound ∷ bounds) hs = map (below bound) hs ∷ ranges bounds (map (from_on bound) hs)

-- these are the entries of these histories in order
pub record IsMergedFrom (hs : List (List Entry)) (merged : List Entry) : Type 0 where
  pub same : IsPermutation (all_of hs) merged
  pub in_order : InOrder merged

-- all parts of the lists that were made, one behind another
abbrev pub all_in : List (Result (Vec (List Entry) Global) NoMemory) → List (List Entry)
all_in [] = []
all_in (Ok parts ∷ rest) = parts.items ++ all_in rest
all_in (Err _ ∷ rest) = all_in rest

-- each list was made
abbrev pub AreAllOk : List (Result (Vec (List Entry) Global) NoMemory) → Type 0
AreAllOk [] = Unit {0}
AreAllOk (Ok _ ∷ rest) = AreAllOk rest
AreAllOk (Err _ ∷ rest) = ⊥
