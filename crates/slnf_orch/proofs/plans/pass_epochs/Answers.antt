-- a run begins, and goes on behind each epoch
use Rattle.slnf_orch.proofs.UnderWay.{under_way_first}
use Rattle.std.proofs.Common.{arith}
use Rattle.slnf_orch.proofs.plans.pass_epochs.Goals as goal

pub loop-number-init : goal.loop-number-init
loop-number-init c = record {
  base = omega arith;
  under_way = under_way_first c.args.plan.now c.args.lanes.now c.in_ok-shards.shards c.in_ok-ledger.ledger
      c.in_ok-shards.ensures.count c.args.plan.now.some_shards c.in_ok-shards.ensures.none
      c.in_ok-ledger.ensures.count c.in_ok-ledger.ensures.none;
}
