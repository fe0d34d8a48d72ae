use Rattle.slnf_check.proofs.Exactly.{journal_some, journal_apart, journal_one_run, journal_one_refusal}
use Rattle.slnf_check.proofs.laws.follows_tell.Goals as goal

pub returns-clause-some : goal.returns-clause-some
returns-clause-some c = λ plan lanes bytes. journal_some plan lanes bytes

pub returns-clause-apart : goal.returns-clause-apart
returns-clause-apart c = λ plan lanes bytes entries refusal. journal_apart plan lanes bytes entries refusal

pub returns-clause-one_run : goal.returns-clause-one_run
returns-clause-one_run c = λ plan lanes bytes one other. journal_one_run plan lanes bytes one other

pub returns-clause-one_refusal : goal.returns-clause-one_refusal
returns-clause-one_refusal c = λ plan lanes bytes one other. journal_one_refusal plan lanes bytes one other
