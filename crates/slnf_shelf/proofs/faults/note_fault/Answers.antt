use Rattle.slnf_shelf.proofs.FaultLists.{Moves-noted, Rose-noted}
use Rattle.slnf_shelf.proofs.faults.note_fault.Goals as goal

pub returns-in-Ok-clause-counts : goal.returns-in-Ok-clause-counts
returns-in-Ok-clause-counts c = Moves-noted _ _ _ _ c.in-Ok.ensures.ok

pub returns-in-Ok-clause-cause : goal.returns-in-Ok-clause-cause
returns-in-Ok-clause-cause c = λ _. Rose-noted _ _ _ _ c.in-Ok.ensures.ok
