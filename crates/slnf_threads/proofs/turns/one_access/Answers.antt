-- the wanted access ends the pass's own list
use Rattle.std.proofs.Common.{[], refl, arith}
use Rattle.std.proofs.lemmas.Nat.{mod_below}
use Rattle.std.proofs.lemmas.Result.{err_from_is_err_and}
use Rattle.slnf_access.specs.Map.{key_of}
use Rattle.slnf_store.specs.Passes.{own_entries}
use Rattle.slnf_store.specs.Stores.{shards_of}
use Rattle.slnf_threads.specs.Reports.{job_by}
use Rattle.slnf_threads.proofs.Turning.{refused, gains_none, gains_one}
use Rattle.slnf_threads.proofs.turns.one_access.Goals as goal

pub returns-in_err-reply-clause-gains : goal.returns-in_err-reply-clause-gains
returns-in_err-reply-clause-gains g c =
    let p = err_from_is_err_and c.from_residual.result c.from_residual.ensures.1 in
    let turn = c.in_err-reply.ensures.access in
    let shards = shards_of c.args.store.now in
    let inside = mod_below (key_of c.unwrap-ask.result.request) shards c.requires.shards in
    rw (p.1, p.2) (
      [],
      gains_none g.T.Items.work c.args.instance.now _ turn.0 c.args.pass.now c.access.new.pass turn.2.0
          c.requires.stands,
      refused shards 1 _ turn.0 c.args.pass.now c.access.new.pass _ (omega arith) inside turn.2,
    )

pub returns-clause-gains : goal.returns-clause-gains
returns-clause-gains g c =
    let turn = c.in_ok-reply.ensures.access in
    let own = own_entries c.args.pass.now in
    let job = job_by g.T.Items.work c.args.instance.now in (
      _,
      gains_one g.T.Items.work c.args.instance.now c.answered.new.self _ turn.0 c.args.pass.now c.access.new.pass
          c.unwrap-ask.result c.in_ok-reply.reply c.wanted.result turn.2 c.unwrap-ask.ensures c.wanted.ensures.asks
          (c.wanted.ensures.wanted job own c.requires.stands) c.answered.ensures.errand
          (λ e. c.answered.ensures.stands job own e c.requires.stands),
      refl,
    )
