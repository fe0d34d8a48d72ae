-- Vectors of vectors, as lists by number.
use Rattle.std.specs.Prelude.{ℕ, Option, Some, None, List, [], map, slice_get, Vec}
use Rattle.std.specs.declared.alloc.Global.{Global}

-- the items of each of these vectors
abbrev pub lists : {X : Type 0} → List (Vec X Global) → List (List X)
lists vectors = map (λ v. v.items) vectors

-- a list, where there is one
abbrev pub or_empty : {X : Type 0} → Option (List X) → List X
or_empty None = []
or_empty (Some items) = items

-- the list with this number; none is empty
abbrev pub list_at : {X : Type 0} → List (List X) → ℕ → List X
list_at table number = or_empty (slice_get table number)
