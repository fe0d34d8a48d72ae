use Rattle.std.proofs.Common.{◌+◌, arith}
use Rattle.slnf_sum.proofs.Folds.{fold_of-carried, fold_of-word}
use Rattle.slnf_sum.proofs.plus.Goals as goal

pub returns-then-total-gt65535 : goal.returns-then-total-gt65535
returns-then-total-gt65535 c =
    let e = fold_of-carried (c.args.a + c.args.b) (omega arith) (omega arith) in
    omega arith

pub returns-else-total-gt65535 : goal.returns-else-total-gt65535
returns-else-total-gt65535 c =
    let e = fold_of-word (c.args.a + c.args.b) (omega arith) in
    omega arith
