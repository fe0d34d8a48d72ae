-- the replies so far, and then the rest of them
use Rattle.std.proofs.Common.{◌≡◌, drop}
use Rattle.slnf_store_threads.specs.Sums.{with_all}
use Rattle.slnf_store_threads.proofs.turns.with_all.Given as goal

abbrev pub invariant-loop-reply : goal.invariant-loop-reply
invariant-loop-reply l = with_all l.sum (drop l.reply-index l.replies) ≡ with_all l.fn.sum l.replies
