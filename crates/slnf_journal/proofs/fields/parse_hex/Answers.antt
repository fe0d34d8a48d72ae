use Rattle.std.proofs.Common.{arith}
use Rattle.slnf_journal.proofs.Numbers.{sixteens}
use Rattle.slnf_journal.proofs.fields.parse_hex.Goals as goal

pub overflow_mul-number : goal.overflow_mul-number
overflow_mul-number c = omega (arith, sixteens c.loop-byte.byte-index (omega arith), c.loop-byte.invariant.small)

pub overflow_add-number : goal.overflow_add-number
overflow_add-number c =
    omega (arith, sixteens c.loop-byte.byte-index (omega arith), c.loop-byte.invariant.small, c.in-Some.ensures.below)
