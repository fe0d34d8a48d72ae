-- What contracts say of the values that are given to the turns, and of those that come back.
use Rattle.std.specs.Prelude.{◌≡◌, ℕ, List, [], slice_get, Some}
use Rattle.std.specs.List.{AllByRecursion}
use Rattle.slnf_turns.specs.declared.views.Line.{Line}
use Rattle.slnf_turns.specs.declared.views.Joined.{Joined}
use Rattle.slnf_turns.specs.declared.views.View.{View}
use Rattle.slnf_turns.specs.Views.{Begins, lines_of, part_of, seen_of, WasTold, list_in}

-- the list of each joined pass is its number's, and what it kept from its split is what the root keeps as joined before
-- that split
abbrev pub AreKept : View → Type 0
AreKept v = AllByRecursion (λ (x : Joined). (list_in x.listed.number v ≡ x.listed.lines)
    × WasTold v.before v.joined x.listed.number x.told) v.joined

module _ {B : Type 0} (lines : B → List Line) (place places : B → ℕ) where
  -- values with empty lists, of which the one at k has place k among n
  abbrev pub AreFresh : ℕ → List B → Type 0
  AreFresh n bs = (k : ℕ) (b : B) → slice_get bs k ≡ Some b → (lines b ≡ []) × (place b ≡ k) × (places b ≡ n)

  -- the value of the shard k among n, when all passes were joined and the root knows v
  pub record IsLast (n : ℕ) (v : View) (k : ℕ) (b : B) : Type 0 where
    pub place_is : place b ≡ k
    pub places_are : places b ≡ n
    -- each number's lines are its own list's part in the shard
    pub parts : (i : ℕ) → lines_of i (lines b) ≡ part_of k (list_in i v)
    -- what the root saw, and what each joined pass saw, is a prefix
    pub seen : Begins (seen_of k v.seen) (lines b)
    pub joined : AllByRecursion (λ (x : Joined). Begins (seen_of k x.seen) (lines b)) v.joined

  abbrev pub AreLast : ℕ → View → List B → Type 0
  AreLast n v bs = (k : ℕ) (b : B) → slice_get bs k ≡ Some b → IsLast n v k b
