-- one left packet more
use Rattle.std.proofs.Common.{arith}
use Rattle.slnf_ledger.proofs.Filling.{fill_step}
use Rattle.slnf_ledger.proofs.ledgers.fill.Goals as goal

pub loop-all-preserved : goal.loop-all-preserved
loop-all-preserved c =
    fill_step c.args.verdicts.now c.loop-all.all.items c.args.count c.push.new.self.items (omega arith)
    c.in_ok-push.ensures.items c.loop-all.invariant
