-- it joins where its first key isn't repeated
use Rattle.slnf_batch.proofs.Laws.{joins_is}
use Rattle.slnf_batch.proofs.firsts.joins.Goals as goal

pub returns-clause-joins : goal.returns-clause-joins
returns-clause-joins c limit room =
    joins_is limit c.args.next c.args.firsts.now c.is_repeated.result c.is_repeated.ensures.0 c.is_repeated.ensures.1
    room
