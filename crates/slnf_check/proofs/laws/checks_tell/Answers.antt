use Rattle.slnf_check.proofs.Exactly.{files_some, files_apart, files_one_run, files_one_refusal}
use Rattle.slnf_check.proofs.laws.checks_tell.Goals as goal

pub returns-clause-some : goal.returns-clause-some
returns-clause-some c = λ plan lanes given files. files_some plan lanes given files

pub returns-clause-apart : goal.returns-clause-apart
returns-clause-apart c = λ plan lanes given files entries refusal. files_apart plan lanes given files entries refusal

pub returns-clause-one_run : goal.returns-clause-one_run
returns-clause-one_run c = λ plan lanes given files one other. files_one_run plan lanes given files one other

pub returns-clause-one_refusal : goal.returns-clause-one_refusal
returns-clause-one_refusal c = λ plan lanes given files one other. files_one_refusal plan lanes given files one other
