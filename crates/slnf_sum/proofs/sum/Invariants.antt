use Rattle.std.proofs.Common.{◌≡◌, ◌+◌, ◌<◌, ◌^◌, sum, length}
use Rattle.slnf_sum.specs.Sum.{words_of, fold_of, sum_of}
use Rattle.slnf_sum.proofs.sum.Given as goal

abbrev pub invariant-loop-rest : goal.invariant-loop-rest
invariant-loop-rest l =
    (fold_of (l.total + sum (words_of l.rest)) ≡ sum_of (words_of l.bytes)) × (l.total < 2 ^ 16)

abbrev pub decreases-loop-rest : goal.decreases-loop-rest
decreases-loop-rest l = length l.rest
