-- the turns so far of a round
use Rattle.std.proofs.Common.{◌≡◌, ◌<◌, ◌≤◌, ◌*◌, ◌^◌, ◌-◌, List, length}
use Rattle.slnf_access.specs.declared.requests.Entry.{Entry}
use Rattle.slnf_shards.specs.Shards.{spent}
use Rattle.slnf_orch.specs.Actors.{AreLeft, Stage, IsEnded, IsIdleAt, at_work, AreStanding, HasRoom}
use Rattle.slnf_orch.proofs.Rounds.{GoRound}
use Rattle.slnf_orch.proofs.turns.round.Given as goal

abbrev pub invariant-loop-place : goal.invariant-loop-place
invariant-loop-place g l = record {
  place : l.place ≤ length l.live.items;
  room : HasRoom g.T.Items.work (at_work l.base l.shards l.instances.items l.clocks.items);
  clocks : length l.clocks.items ≡ length l.fn.clocks.items;
  instances : length l.instances.items ≡ length l.fn.instances.items;
  count : length l.shards ≡ length l.fn.shards;
  live : AreLeft (IsIdleAt l.instances.items) 0 (length l.instances.items) l.live.items;
  fewer : length l.live.items ≤ length l.fn.live.items;
  kept : l.place ≡ 0 → l.shards ≡ l.fn.shards;
  spends : 0 < l.place → spent l.fn.shards < spent l.shards;
  most : 0 < l.place → spent l.shards ≤ length l.shards * 2 ^ 62;
  turned : (stage : Stage g.row.T-Flight.Denot) (m : List Entry) →
      AreStanding g.T.Items.work stage m (at_work l.base l.fn.shards l.fn.instances.items l.fn.clocks.items) →
      AreLeft (IsEnded stage m) 0 (length stage.era.actors) l.fn.live.items →
      GoRound g.T.Items.work stage m l.place l.live.items
      (at_work l.base l.shards l.instances.items l.clocks.items);
}

abbrev pub decreases-loop-place : goal.decreases-loop-place
decreases-loop-place g l = length l.live.items - l.place
