use Rattle.slnf_journal.proofs.Journals.{journal_again}
use Rattle.slnf_journal.proofs.read.written_journals_are_read.Goals as goal

pub returns : goal.returns
returns c = λ entries fits. journal_again entries fits
