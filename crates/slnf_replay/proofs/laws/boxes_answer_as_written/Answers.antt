-- the box answers what is decided and written
use Rattle.slnf_replay.proofs.DecidedAnswers.{decided_answers}
use Rattle.slnf_replay.proofs.WrittenAnswers.{written_answers}
use Rattle.slnf_replay.proofs.laws.boxes_answer_as_written.Goals as goal

pub returns-clause-decided : goal.returns-clause-decided
returns-clause-decided c plan lanes es types run = decided_answers plan lanes es types run

pub returns-clause-written : goal.returns-clause-written
returns-clause-written c plan lanes es types run = written_answers plan lanes es types run
