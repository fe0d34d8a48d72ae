-- A box that keeps a table, and a store's map that has the table's values under their keys' numbers.
use Rattle.std.specs.Prelude.{◌≡◌, ℕ, Bool, if◌then◌else◌, Option, Some, None}
use Rattle.std.specs.Option.{option_map, option_and_then}
use Rattle.slnf_access.specs.declared.requests.Held.{Held}
use Rattle.slnf_access.specs.Map.{Cells}

-- the number of the value that is held
abbrev pub number_in : Option Held → Option ℕ
number_in held = option_map (λ there. there.value.0) held

-- What the table has at a key in range is, as a number, what the map has under the key's number.
pub record IsTable {K V : Type 0} (number : K → ℕ) (Fits : K → Type 0) (value : V → ℕ) (table : K → Option V)
    (cells : Cells) : Type 0 where
  pub at_key : (key : K) → Fits key → option_map value (table key) ≡ number_in (cells (number key))

-- the table with this at the key
abbrev pub with_value : {K V : Type 0} → (K → K → Bool) → (K → Option V) → K → V → K → Option V
with_value is_same table key value = λ other. if is_same other key then Some value else table other

-- The table has at a key in range what is read of what the map has under the key's number, and nothing ill stands
-- there. Unlike `IsTable` it asks nothing of values that no key has, so it serves values whose numbers have a range.
pub record IsRead {K V : Type 0} (number : K → ℕ) (Fits : K → Type 0) (of : ℕ → Option V) (table : K → Option V)
    (cells : Cells) : Type 0 where
  pub agrees : (key : K) → Fits key → table key ≡ option_and_then of (number_in (cells (number key)))
  pub whole : (key : K) → Fits key → table key ≡ None → cells (number key) ≡ None
