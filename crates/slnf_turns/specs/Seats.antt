-- Which table a seat is at, and how many words it has.
use Rattle.std.specs.Prelude.{◌≡◌, ◌*◌, ◌<◌, ◌≤◌, Option}
use Rattle.atomic_table.specs.declared.shared.Seat.{Seat}
use Rattle.atomic_table.specs.declared.shared.Shared.{Shared}
use Rattle.slnf_turns.specs.declared.views.View.{View}

module _ {B K P : Type 0} where
  abbrev pub IsSized : Shared (Option B) View K P → Type 0
  IsSized t = (t.table_id.words ≡ 32 * t.table_id.slots) × (0 < t.table_id.slots) × (t.table_id.slots ≤ 64)

  abbrev pub IsAt : Shared (Option B) View K P → Seat (Option B) View → Type 0
  IsAt t s = s.table_id ≡ t.table_id
