use Rattle.std.specs.Prelude.{ℕ, List, ◌∷◌, ◌++◌, Option, Some, None}

-- a step and the path below it, joined by a full stop
abbrev pub path_below : List ℕ → Option (List ℕ) → List ℕ
path_below step None = step
path_below step (Some rest) = step ++ 46 ∷ rest
