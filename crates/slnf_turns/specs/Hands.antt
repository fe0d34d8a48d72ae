-- What a pass has in hand between two calls.
use Rattle.std.specs.Prelude.{ℕ, Bool, true, false, nat_lt, List, [], ◌∷◌, Option, None}
use Rattle.atomic_table.specs.declared.shared.Seat.{Seat}
use Rattle.slnf_turns.specs.declared.views.View.{View}
use Rattle.slnf_turns.specs.declared.views.Stage.{Stage}
use Rattle.slnf_turns.specs.declared.views.Stage.TheVariants.{Free, Waits, Turn, Open, Spent}

-- among n shards, the pass has no ticket, or has one open with no line pending
abbrev pub is_resting : ℕ → Stage → Bool
is_resting n Free = true
is_resting n (Waits k t) = false
is_resting n (Turn k t) = false
is_resting n (Open k t base []) = nat_lt k n
is_resting n (Open k t base (l ∷ ls)) = false
is_resting n Spent = false

-- the slots that are out with the pass: the open shard's, which is empty while the caller has its value
abbrev pub hand_of : {B : Type 0} → Stage → List (ℕ × Option B)
hand_of Free = []
hand_of (Waits k t) = []
hand_of (Turn k t) = []
hand_of (Open k t base more) = (k, None) ∷ []
hand_of Spent = []

abbrev pub posed : {B : Type 0} → Seat (Option B) View → Seat (Option B) View
posed s = record s { me = (s.me.0, hand_of s.me.0.stage) }
