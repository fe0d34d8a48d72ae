-- First keys: where no key stands twice.
use Rattle.std.specs.Prelude.{◌≡◌, Option, Some, None, List, AllPairs}
use Rattle.slnf_access.specs.declared.requests.Key.{Key}

-- two first keys aren't one key; a packet without an access has none
abbrev pub Differ : Option Key → Option Key → Type 0
Differ None second = Unit {0}
Differ (Some key) None = Unit {0}
Differ (Some key) (Some other) = ¬ (key.0 ≡ other.0)

-- no key stands twice among these first keys
abbrev pub KeysDiffer : List (Option Key) → Type 0
KeysDiffer firsts = AllPairs Differ firsts
