use Rattle.std.proofs.Common.{◌+◌}
use Rattle.slnf_sum.specs.Sum.{complement}
use Rattle.slnf_sum.proofs.Folds.{fold_of-add}
use Rattle.slnf_sum.proofs.adjust.Goals as goal

pub returns : goal.returns
returns c =
    let e = fold_of-add (complement c.args.check + complement c.args.old) c.args.new in
    cc
