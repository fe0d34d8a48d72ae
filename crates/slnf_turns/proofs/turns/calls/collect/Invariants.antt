use Rattle.std.proofs.Common.{◌≡◌, ◌<◌, ◌≤◌, ℕ, true, false, map, take, get_or, Some, vec_len}
use Rattle.std.specs.Vec.{vec_capacity}
use Rattle.std.specs.Slots.{slots_items, slots_filled, slots_len}
use Rattle.slnf_turns.proofs.turns.calls.collect.Given as goal

-- so many values are back, and their slots are empty
abbrev pub invariant-loop-k : goal.invariant-loop-k
invariant-loop-k g l = (map Some l.room.items ≡ take l.k (slots_items l.fn.closed.slots))
    × (slots_items l.closed.slots ≡ slots_items l.fn.closed.slots) × (slots_len l.closed.slots ≡ l.count)
    × (vec_len l.room ≡ l.k) × (vec_capacity l.room ≡ vec_capacity l.fn.room)
    × ((j : ℕ) → l.k ≤ j → j < l.count → get_or (slots_filled l.closed.slots) j false ≡ true)
    × ((j : ℕ) → j < l.k → get_or (slots_filled l.closed.slots) j false ≡ false)
