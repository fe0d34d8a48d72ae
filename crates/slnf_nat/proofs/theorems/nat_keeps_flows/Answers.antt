use Rattle.slnf_nat.proofs.LiveFlows.{flows_apart, pairs_stay}
use Rattle.slnf_nat.proofs.Leaks.{backed}
use Rattle.slnf_nat.proofs.Claims.{claims_made}
use Rattle.slnf_nat.proofs.theorems.nat_keeps_flows.Goals as goal

pub returns : goal.returns
returns c = record {
  apart = λ nat base_at begins es is_nat given. flows_apart nat is_nat base_at begins es given;
  stay = λ nat base_at begins es is_nat given. pairs_stay nat is_nat base_at begins es given;
  backed = λ nat base_at begins es size is_nat given. backed nat is_nat base_at begins es given size;
  sources = λ nat base_at begins es size is_nat given. claims_made nat is_nat base_at begins es given size;
}
