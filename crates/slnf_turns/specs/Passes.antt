-- What contracts say of a pass, and of the turns that it belongs to.
use Rattle.std.specs.Prelude.{◌≡◌, ℕ, zero, suc, List, [], ◌∷◌, length, slice_get, Option, None}
use Rattle.slnf_turns.specs.declared.views.Line.{Line}
use Rattle.slnf_turns.specs.declared.views.Noted.{Noted}
use Rattle.slnf_turns.specs.declared.views.View.{View}
use Rattle.slnf_turns.specs.declared.views.Stage.TheVariants.{Free, Open}
use Rattle.slnf_turns.specs.declared.passes.Pass.{Pass}
use Rattle.slnf_turns.specs.declared.passes.Kept.{Kept}
use Rattle.slnf_turns.specs.declared.turns.Turns.{Turns}
use Rattle.slnf_turns.specs.Views.{first_view, list_in}

-- what the pass knows
abbrev pub view : {B : Type 0} → Pass B → View
view p = p.seat.me.0

module _ {B : Type 0} where
  -- how many shards there are
  abbrev pub shards : Turns B → ℕ
  shards t = t.table.shared.table_id.slots

  -- the pass is the root that came with the turns, or was split from it
  abbrev pub IsOf : Turns B → Pass B → Type 0
  IsOf t p = p.seat.table_id ≡ t.table.shared.table_id

abbrev pub IsRoot : View → Type 0
IsRoot v = v.number ≡ 0

abbrev pub HasNoTurn : View → Type 0
HasNoTurn v = v.stage ≡ Free

-- the pass has the turn of the shard, whose value had these lines when it was taken
abbrev pub HasTurn : View → ℕ → List Line → Type 0
HasTurn v k base = (t : ℕ) × (v.stage ≡ Open k t base [])

-- the number, and what is known of splits and joins, stay
abbrev pub KeepsKin : View → View → Type 0
KeepsKin old new = (new.number ≡ old.number) × (new.told ≡ old.told) × (new.before ≡ old.before) × (new.joined ≡ old.joined)

-- as many passes were joined as were split
abbrev pub AllJoined : View → Type 0
AllJoined v = length v.joined ≡ length v.before

abbrev view_or : View → List View → View
view_or d [] = d
view_or d (v ∷ vs) = v

-- what the root knew when the turns were closed
abbrev pub kept_view : Kept → View
kept_view k = view_or first_view k.root.value.views

-- the list of a number
abbrev pub kept_list : ℕ → Kept → List Noted
kept_list i k = list_in i (kept_view k)

-- the numbers that were joined before the split of a number: the root has none
abbrev pub joined_before : ℕ → Kept → Option (List ℕ)
joined_before zero k = None
joined_before (suc i) k = slice_get (kept_view k).before i
