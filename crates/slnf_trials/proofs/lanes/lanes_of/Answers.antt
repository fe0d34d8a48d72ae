-- one lane more
use Rattle.std.proofs.Common.{arith}
use Rattle.slnf_trials.proofs.LaneCounts.{packets_few}
use Rattle.slnf_trials.proofs.lanes.lanes_of.Goals as goal

pub loop-piece-preserved-in_ok-push : goal.loop-piece-preserved-in_ok-push
loop-piece-preserved-in_ok-push c = record {
  few = omega (arith, c.in_ok-push.ensures.len, c.if-len-lt32.true, c.len.ensures);
  packets = packets_few c.loop-piece.lanes.items c.push.new.self.items _ c.in_ok-push.ensures.items
      c.in_ok-lane_of.ensures c.loop-piece.invariant.packets;
}
