use Rattle.slnf_nat.proofs.PoolPairs.{pool_is_nat, pool_covers, candidate_has, candidate_once}
use Rattle.slnf_nat.proofs.theorems.candidates_are_pairs.Goals as goal

pub returns : goal.returns
returns c = record {
  nat = pool_is_nat;
  each = candidate_has;
  all = pool_covers;
  once = candidate_once;
}
