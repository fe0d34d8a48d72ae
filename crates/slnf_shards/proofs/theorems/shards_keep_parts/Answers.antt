use Rattle.slnf_shards.proofs.Laws.{begin_as_parts, stay_parts, makes_as_scheduled, stays_within, has_greatest, is_first_clock}
use Rattle.slnf_shards.proofs.theorems.shards_keep_parts.Goals as goal

pub returns-clause-none : goal.returns-clause-none
returns-clause-none g c = begin_as_parts

pub returns-clause-push : goal.returns-clause-push
returns-clause-push g c = stay_parts

pub returns-clause-entry : goal.returns-clause-entry
returns-clause-entry g c = λ s. makes_as_scheduled s

pub returns-clause-within : goal.returns-clause-within
returns-clause-within g c = λ s. stays_within s

pub returns-clause-greatest : goal.returns-clause-greatest
returns-clause-greatest g c = has_greatest

pub returns-clause-first : goal.returns-clause-first
returns-clause-first g c = is_first_clock
