-- the turns so far
use Rattle.std.proofs.Common.{◌≡◌, List, length}
use Rattle.slnf_access.specs.declared.requests.Entry.{Entry}
use Rattle.slnf_orch.specs.Actors.{Stage, at_work, AreStanding, HasRoom}
use Rattle.slnf_orch.proofs.Rounds.{HaveTurned}
use Rattle.slnf_orch.proofs.turns.turns_by.Given as goal

abbrev pub invariant-loop-number : goal.invariant-loop-number
invariant-loop-number g l = record {
  room : HasRoom g.T.Items.work (at_work l.base l.shards l.instances.items l.clocks.items);
  clocks : length l.clocks.items ≡ length l.fn.clocks.items;
  instances : length l.instances.items ≡ length l.fn.instances.items;
  count : length l.shards ≡ length l.fn.shards;
  turned : (stage : Stage g.row.T-Flight.Denot) (m : List Entry) →
      AreStanding g.T.Items.work stage m (at_work l.base l.fn.shards l.fn.instances.items l.fn.clocks.items) →
      HaveTurned g.T.Items.work stage m l.numbers l.number-index
      (at_work l.base l.shards l.instances.items l.clocks.items);
}
