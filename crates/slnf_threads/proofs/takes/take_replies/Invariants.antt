-- the replies so far, and then the rest of them, are all
use Rattle.std.proofs.Common.{◌≡◌, drop}
use Rattle.slnf_threads.proofs.Taking.{GoOn}
use Rattle.slnf_threads.proofs.takes.take_replies.Given as goal

abbrev pub invariant-loop-reply : goal.invariant-loop-reply
invariant-loop-reply g l = record {
  errand : l.instance.errand ≡ l.fn.instance.errand;
  taken : GoOn g.T.Items.work l.fn.instance l.replies l.instance (drop l.reply-index l.replies);
}
