-- the entry before is the last of those before
use Rattle.std.proofs.Common.{◌<◌, arith}
use Rattle.slnf_rules.proofs.Growing.{follows_told}
use Rattle.slnf_rules.proofs.orders.comes_after.Goals as goal

pub returns-else-number-eq0 : goal.returns-else-number-eq0
returns-else-number-eq0 c e at =
    let some : 0 < c.args.number = grind arith in
    follows_told c.args.entries.now c.args.number e c.precedes.result some c.requires at c.precedes.ensures
