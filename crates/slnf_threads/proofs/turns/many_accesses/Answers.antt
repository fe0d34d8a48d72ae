-- the accesses that are wanted end the pass's own list
use Rattle.std.proofs.Common.{◌≡◌, ◌≤◌, ◌<◌, [], length, take, sym, ap, ◌∙◌, subst, arith}
use Rattle.std.proofs.lemmas.List.{length-take-le}
use Rattle.std.proofs.lemmas.Result.{err_from_is_err_and}
use Rattle.slnf_store.specs.Passes.{own_entries}
use Rattle.slnf_store.specs.Stores.{shards_of}
use Rattle.slnf_threads.specs.Reports.{job_by}
use Rattle.slnf_threads.proofs.Turning.{refused, gains_none, gains_many, can_take, count_after, first_inside, count_replies}
use Rattle.slnf_threads.proofs.Working.{round_rest}
use Rattle.slnf_threads.proofs.turns.many_accesses.Goals as goal

pub returns-in_err-access_many-clause-gains : goal.returns-in_err-access_many-clause-gains
returns-in_err-access_many-clause-gains g c =
    let p = err_from_is_err_and c.from_residual.result c.from_residual.ensures.1 in
    let turn = c.in_err-access_many.ensures.access in
    let n = length c.args.replies.now in
    let size : length (take n c.round.result.now) ≡ n =
    length-take-le n c.round.result.now (subst (λ l. n ≤ length l) (sym c.round.ensures) c.requires.inside) in
    rw (p.1, p.2) (
      [],
      gains_none g.T.Items.work c.args.instance.now _ turn.0 c.args.pass.now c.access_many.new.pass turn.2.0.0
          c.requires.stands,
      refused (shards_of c.args.store.now) _ _ turn.0 c.args.pass.now c.access_many.new.pass _
          (subst (λ k. k ≤ 32) (sym size) c.requires.most)
          (first_inside (shards_of c.args.store.now) (take n c.round.result.now) c.requires.shards) turn.2.0,
    )

pub take_replies-requires : goal.take_replies-requires
take_replies-requires g c =
    let turn = c.in_ok-access_many.ensures.access in
    let i = c.args.instance.now in
    let n = length c.args.replies.now in
    let size : length (take n c.round.result.now) ≡ n =
    length-take-le n c.round.result.now (subst (λ l. n ≤ length l) (sym c.round.ensures) c.requires.inside) in
    let some : 0 < n = c.requires.some in
    let inside = c.requires.inside in (
      job_by g.T.Items.work i,
      own_entries c.args.pass.now,
      _,
      can_take g.T.Items.work i _ turn.0 c.args.pass.now c.access_many.new.pass _ c.access_many.new.replies n turn.2
          (ap (take n) (c.round.ensures ∙ round_rest g.T.Items.work i (omega (arith, some, inside))))
          (count_replies turn.0 _ _ _ (take n c.round.result.now) c.access_many.new.replies turn.2.1 ∙ size)
          c.requires.within c.requires.stands,
    )

pub returns-clause-gains : goal.returns-clause-gains
returns-clause-gains g c =
    let turn = c.in_ok-access_many.ensures.access in
    let i = c.args.instance.now in
    let n = length c.args.replies.now in
    let size : length (take n c.round.result.now) ≡ n =
    length-take-le n c.round.result.now (subst (λ l. n ≤ length l) (sym c.round.ensures) c.requires.inside) in
    let some : 0 < n = c.requires.some in
    let inside = c.requires.inside in (
      _,
      gains_many g.T.Items.work i c.take_replies.new.instance _ turn.0 c.args.pass.now c.access_many.new.pass _
          c.access_many.new.replies turn.2 c.take_replies.ensures.errand
          (c.take_replies.ensures.taken (job_by g.T.Items.work i) (own_entries c.args.pass.now) _
          (can_take g.T.Items.work i _ turn.0 c.args.pass.now c.access_many.new.pass _ c.access_many.new.replies n
          turn.2 (ap (take n) (c.round.ensures ∙ round_rest g.T.Items.work i (omega (arith, some, inside))))
          (count_replies turn.0 _ _ _ (take n c.round.result.now) c.access_many.new.replies turn.2.1 ∙ size)
          c.requires.within c.requires.stands)),
      count_after turn.0 _ _ _ (take n c.round.result.now) ∙ size,
    )
