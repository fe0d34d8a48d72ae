-- The places of packets, by the entries that decide them.
use Rattle.std.specs.Prelude.{ℕ, ◌==◌, Bool, true, false, Option, Some, None, List, length, map, set}
use Rattle.std.specs.List.{list_any, range_with_len}
use Rattle.std.specs.Option.{option_map}
use Rattle.slnf_access.specs.declared.requests.Entry.{Entry}
use Rattle.slnf_run.specs.Scene.{Scene}
use Rattle.slnf_run.specs.Visits.{decision_at}

-- the place of the packet that is decided at the entry with this number, if one is
abbrev pub place_of : {F A : Type 0} → Scene F A → List Entry → ℕ → Option ℕ
place_of s es decider =
    option_map (λ decision. s.place es decider decision.first decision.verdict) (decision_at s es decider)

-- the place is this one
abbrev pub is_there : ℕ → Option ℕ → Bool
is_there t None = false
is_there t (Some place) = place == t

-- one of the packets that are decided at the first entries, so many of them, has its place at the entry with the number t
abbrev pub is_place : {F A : Type 0} → Scene F A → List Entry → ℕ → ℕ → Bool
is_place s es deciders t = list_any (λ decider. is_there t (place_of s es decider)) (range_with_len 0 deciders)

-- the same of each entry
abbrev pub places_by : {F A : Type 0} → Scene F A → List Entry → ℕ → List Bool
places_by s es deciders = map (is_place s es deciders) (range_with_len 0 (length es))

-- these marks, with one more at this number, if there is one
abbrev pub marked : List Bool → Option ℕ → List Bool
marked places None = places
marked places (Some number) = set places number true
