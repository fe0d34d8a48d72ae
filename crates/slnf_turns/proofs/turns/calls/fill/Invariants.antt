use Rattle.std.proofs.Common.{◌≡◌, ◌+◌, ◌++◌, map, reverse, Some, vec_len}
use Rattle.std.specs.Vec.{vec_capacity}
use Rattle.slnf_turns.proofs.turns.calls.fill.Given as goal

-- the values that are left and those in the slots, the last one first, are all
abbrev pub invariant-loop-value : goal.invariant-loop-value
invariant-loop-value g l = (map Some l.values.items ++ reverse l.slots.items ≡ map Some l.fn.values.items)
    × (vec_capacity l.values ≡ vec_capacity l.fn.values)
    × (vec_capacity l.slots ≡ vec_capacity l.fn.slots) × (vec_len l.values + vec_len l.slots ≡ vec_len l.fn.values)

abbrev pub decreases-loop-value : goal.decreases-loop-value
decreases-loop-value g l = vec_len l.values
