-- What a shelf's clauses speak of: how many faults each kind of call met at each name, and the bytes that
-- stand under a name. A shelf that doesn't tell them has `None` there, before a call and after it.
use Rattle.std.specs.Prelude.{◌≡◌, ◌≤◌, ◌<◌, ◌-◌, ◌⊎◌, ◌≢◌, ℕ, List, ◌++◌, length, take, drop, Option, option_map}
use Rattle.slnf_shelf.specs.declared.shelf.Call.{Call}
use Rattle.slnf_shelf.specs.declared.shelf.Call.TheVariants.{Read, Begin, Append}

-- the number of faults of each kind of call, at each name
abbrev pub Faults : Type 0
Faults = Call → List ℕ → ℕ

-- No number of faults fell, and only those that may change did.
pub record Moves (may : Call → List ℕ → Type 0) (before now : Faults) : Type 0 where
  pub later : (call : Call) (name : List ℕ) → before call name ≤ now call name
  pub others : (call : Call) (name : List ℕ) → ¬ may call name → now call name ≡ before call name

-- the calls of one kind at one name
abbrev pub Only : Call → List ℕ → Call → List ℕ → Type 0
Only call name call' name' = (call' ≡ call) × (name' ≡ name)

-- the calls that write the file of this name
abbrev pub Writes : List ℕ → Call → List ℕ → Type 0
Writes name Read other = ⊥
Writes name Begin other = other ≡ name
Writes name Append other = other ≡ name

-- a call of this kind met a fault at this name
abbrev pub Rose : Call → List ℕ → Faults → Faults → Type 0
Rose call name before now = before call name < now call name

-- every name holds what it held
abbrev pub SameFiles : (List ℕ → Option (List ℕ)) → (List ℕ → Option (List ℕ)) → Type 0
SameFiles before now = (name : List ℕ) → now name ≡ before name

-- every other name does
abbrev pub SameOthers : List ℕ → (List ℕ → Option (List ℕ)) → (List ℕ → Option (List ℕ)) → Type 0
SameOthers name before now = (other : List ℕ) → other ≢ name → now other ≡ before other

-- The name holds these bytes, where the shelf tells what it held.
abbrev pub set_to : List ℕ → Option (List ℕ) → Option (List ℕ)
set_to bytes before = option_map (λ _. bytes) before

-- The name holds these bytes too, after what it held.
abbrev pub with_more : List ℕ → Option (List ℕ) → Option (List ℕ)
with_more piece before = option_map (λ held. held ++ piece) before

-- A read filled the first `count` bytes of the buffer with those held from the place `at` on.
pub record Gives (held : List ℕ) (at : ℕ) (buffer : List ℕ) (count : ℕ) : Type 0 where
  pub bytes : take count buffer ≡ take count (drop at held)
  pub within : count ≤ length held - at

-- The file was written up to some byte.
abbrev pub WritesFront : List ℕ → Option (List ℕ) → Option (List ℕ) → Type 0
WritesFront text before now = (count : ℕ) × (now ≡ set_to (take count text) before)

-- The file was written up to some byte, or is as before.
abbrev pub WritesSome : List ℕ → Option (List ℕ) → Option (List ℕ) → Type 0
WritesSome text before now = (now ≡ before) ⊎ WritesFront text before now

-- no call ever met a fault
abbrev pub no_faults : Faults
no_faults call name = 0
