-- what rounds make of the accesses so far, rounds make of the first
use Rattle.std.proofs.Common.{◌≡◌, ◌-◌, ◌+◌, ◌*◌, ◌^◌, List, length}
use Rattle.slnf_access.specs.declared.requests.Entry.{Entry}
use Rattle.slnf_shards.specs.Shards.{spent}
use Rattle.slnf_orch.specs.Actors.{AreLeft, Stage, IsIdleAt, at_work, AreStanding, HasRoom}
use Rattle.slnf_orch.proofs.Rounds.{HaveGone}
use Rattle.slnf_orch.proofs.turns.rounds.Given as goal

abbrev pub invariant-loop-shards : goal.invariant-loop-shards
invariant-loop-shards g l = record {
  room : HasRoom g.T.Items.work (at_work l.base l.shards l.instances.items l.clocks.items);
  clocks : length l.clocks.items ≡ length l.fn.clocks.items;
  instances : length l.instances.items ≡ length l.fn.instances.items;
  count : length l.shards ≡ length l.fn.shards;
  live : AreLeft (IsIdleAt l.instances.items) 0 (length l.instances.items) l.live.items;
  turned : (stage : Stage g.row.T-Flight.Denot) (m : List Entry) →
      AreStanding g.T.Items.work stage m (at_work l.base l.fn.shards l.fn.instances.items l.fn.clocks.items) →
      HaveGone g.T.Items.work stage m l.live.items (at_work l.base l.shards l.instances.items l.clocks.items);
}

abbrev pub decreases-loop-shards : goal.decreases-loop-shards
decreases-loop-shards g l = length l.shards * 2 ^ 62 - spent l.shards + length l.live.items
