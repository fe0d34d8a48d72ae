use Rattle.slnf_nat.proofs.LeaksOfRun.{nat_list_of_image}
use Rattle.slnf_nat.proofs.NothingLeaks.{nothing_leaks}
use Rattle.slnf_nat.proofs.theorems.nat_runs_so.Goals as goal

pub returns : goal.returns
returns g c = record {
  paths = λ s into nat begins es is run. nat_list_of_image s into nat begins es is.image is.firsts is.ranges run;
  leaks_nothing = λ s into nat begins es is_nat is run. nothing_leaks s into nat is_nat begins es is run;
}
