-- First keys, and those that a batch has.
use Rattle.std.specs.Prelude.{ℕ, Option, Some, None, List, [], ◌∷◌, Contains}
use Rattle.slnf_access.specs.declared.requests.Key.{Key}
use Rattle.slnf_run.specs.Jobs.{with_key}

-- the first key is a key that stands among these
abbrev pub StandsAmong : Option Key → List (Option Key) → Type 0
StandsAmong None firsts = ⊥
StandsAmong (Some key) firsts = Contains firsts (Some key)

-- the number of a first key
abbrev pub number_of : Option Key → Option ℕ
number_of None = None
number_of (Some key) = Some key.0

-- the keys of a batch that had these and took items with these first keys, one after another
abbrev pub keys_after : List ℕ → List (Option Key) → List ℕ
keys_after keys [] = keys
keys_after keys (first ∷ firsts) = keys_after (with_key (number_of first) keys) firsts
