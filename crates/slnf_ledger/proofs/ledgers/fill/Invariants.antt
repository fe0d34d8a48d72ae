-- what is there, and as many left packets as are wanting, are all
use Rattle.std.proofs.Common.{◌≡◌, ◌++◌, ◌-◌, length}
use Rattle.std.specs.Prelude.{replicate}
use Rattle.slnf_base.specs.declared.packets.Verdict.TheVariants.{Left}
use Rattle.slnf_ledger.specs.Ledger.{filled}
use Rattle.slnf_ledger.proofs.ledgers.fill.Given as goal

abbrev pub invariant-loop-all : goal.invariant-loop-all
invariant-loop-all l = l.all.items ++ replicate (l.count - length l.all.items) Left ≡ filled l.verdicts l.count

abbrev pub decreases-loop-all : goal.decreases-loop-all
decreases-loop-all l = l.count - length l.all.items
