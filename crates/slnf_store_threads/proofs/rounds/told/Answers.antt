-- the access ends the pass's own list
use Rattle.std.proofs.Common.{sym, ap, ap₂, ◌∙◌}
use Rattle.slnf_store.specs.Passes.{own_entries}
use Rattle.slnf_store_threads.specs.Sums.{with_reply, with_replies}
use Rattle.slnf_store_threads.proofs.Replies.{one_more}
use Rattle.slnf_store_threads.proofs.rounds.told.Goals as goal

pub returns-clause-sum : goal.returns-clause-sum
returns-clause-sum g c =
    let made = c.in_ok-reply.ensures.access.2 in
    c.with_reply.ensures ∙ ap₂ with_reply c.requires.sum made.1
    ∙ sym (one_more 0 (own_entries c.args.pass.now) _) ∙ ap (with_replies 0) (sym made.0.own)
