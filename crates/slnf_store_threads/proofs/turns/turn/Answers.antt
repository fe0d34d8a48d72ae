-- the accesses end the pass's own list
use Rattle.std.proofs.Common.{sym, ap, ap₂, ◌∙◌}
use Rattle.slnf_store.specs.Passes.{own_entries}
use Rattle.slnf_store_threads.specs.Sums.{with_all, with_replies}
use Rattle.slnf_store_threads.proofs.Replies.{more}
use Rattle.slnf_store_threads.proofs.turns.turn.Goals as goal

pub returns-clause-sum : goal.returns-clause-sum
returns-clause-sum g c =
    let made = c.in_ok-access_many.ensures.access.2 in
    c.with_all.ensures ∙ ap₂ with_all c.requires.sum made.1
    ∙ sym (more 0 (own_entries c.args.pass.now) _) ∙ ap (with_replies 0) (sym made.0.own)
