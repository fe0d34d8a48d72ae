use Rattle.slnf_journal.proofs.Counts.{adds_up}
use Rattle.slnf_journal.proofs.summary.summary_adds_up.Goals as goal

pub returns : goal.returns
returns c = adds_up
