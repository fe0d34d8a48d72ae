-- the items 4, 2, 3 and 1 differ
use Rattle.slnf_batch.proofs.Four.{four_differ}
use Rattle.slnf_batch.proofs.groups.tests.a_round_goes_by_shard_and_item.Goals as goal

pub group-requires-clause-distinct : goal.group-requires-clause-distinct
group-requires-clause-distinct g c =
    four_differ _ _ _ _ c.read.ensures c.read-2.ensures c.read-3.ensures c.read-4.ensures
