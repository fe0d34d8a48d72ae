-- a stamp is left
use Rattle.std.proofs.Common.{Err, ap, arith}
use Rattle.slnf_orch.proofs.turns.access.Goals as goal

pub unreachable-requires : goal.unreachable-requires
unreachable-requires c =
    let spent = (c.in-Err-StampsSpent.ensures.stamps_spent c.in-Err-StampsSpent.field-0-0).0
    (ap Err c.in-Err-StampsSpent.field-0-is) in
    omega (arith, spent.0, spent.1, c.requires.room)
