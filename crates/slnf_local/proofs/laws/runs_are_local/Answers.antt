use Rattle.slnf_local.proofs.Local.{run_of_local, local_of_run}
use Rattle.slnf_local.proofs.Hands.{batch_of_expected}
use Rattle.slnf_local.proofs.laws.runs_are_local.Goals as goal

pub returns : goal.returns
returns c c' = record { local = λ s j. (local_of_run s j, run_of_local s j); in_hand = batch_of_expected }
