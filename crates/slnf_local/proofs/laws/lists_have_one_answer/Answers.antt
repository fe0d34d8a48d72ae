use Rattle.slnf_local.proofs.Answers.{first_broken_tells, one_answer, run_of_none, none_of_run}
use Rattle.slnf_local.proofs.laws.lists_have_one_answer.Goals as goal

pub returns : goal.returns
returns c c' = record {
  told = first_broken_tells;
  once = one_answer;
  run = λ s j. (run_of_none s j, none_of_run s j);
}
