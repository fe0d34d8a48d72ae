use Rattle.slnf_nat.proofs.LiveFlows.{release_done, flows_well, claims_well}
use Rattle.slnf_nat.proofs.NoPort.{no_port}
use Rattle.slnf_nat.proofs.theorems.nat_answers_so.Goals as goal

pub returns : goal.returns
returns c = record {
  no_port = λ nat base_at begins es is_nat given. no_port nat is_nat base_at begins es given;
  release_done = λ nat base_at begins es is_nat given. release_done nat is_nat base_at begins es given;
  flows_well = λ nat base_at begins es is_nat given. flows_well nat is_nat base_at begins es given;
  claims_well = λ nat base_at begins es is_nat given. claims_well nat is_nat base_at begins es given;
}
