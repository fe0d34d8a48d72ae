-- one entry more is in its shard and in order
use Rattle.std.proofs.Common.{◌+◌, ◌≤◌, arith}
use Rattle.std.proofs.lemmas.Option.{slice_get-get_or}
use Rattle.slnf_local.specs.Rules.{IsOrderly}
use Rattle.slnf_rules.proofs.Growing.{grown_more, breaks_at, grown_all}
use Rattle.slnf_rules.proofs.orders.first_disorder.Goals as goal

pub loop-done-preserved : goal.loop-done-preserved
loop-done-preserved c =
    let at = slice_get-get_or c.args.entries.now c.loop-done.done _ c.loop-done-test.true in
    record {
      upto = omega (arith, c.loop-done-test.true);
      grown = grown_more (IsOrderly c.args.shards) c.args.entries.now c.loop-done.done _ at c.loop-done.invariant.grown
          (record {
            in_shard = c.is_in_shard.ensures.0 c.if-not-is_in_shard.false;
            in_order = (c.comes_after.ensures _ at).0 c.if-not-comes_after.false;
          });
    }
