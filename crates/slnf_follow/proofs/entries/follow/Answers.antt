-- one entry more is taken, or it isn't
use Rattle.std.proofs.Common.{◌≡◌, ◌+◌, take, get_or, ap, sym, subst, ◌∙◌, arith}
use Rattle.std.proofs.lemmas.Option.{slice_get-get_or, same_Some}
use Rattle.slnf_follow.specs.Follows.{Follows, IsStuck}
use Rattle.slnf_follow.proofs.Growing.{take_more, each_at, no_entry}
use Rattle.slnf_follow.proofs.entries.follow.Goals as goal

pub take_next-requires : goal.take_next-requires
take_next-requires g c =
    each_at _ c.args.entries.now c.loop-done.done _ c.requires.can
    (slice_get-get_or c.args.entries.now c.loop-done.done no_entry c.loop-done-test.true)

pub loop-done-preserved : goal.loop-done-preserved
loop-done-preserved g c =
    let inv = c.loop-done.invariant in
    let es = c.args.entries.now in
    let n = c.loop-done.done in
    let at = slice_get-get_or es n no_entry c.loop-done-test.true in
    record {
      upto = omega (arith, c.loop-done-test.true);
      count = c.take_next.ensures.count ∙ inv.count;
      follows = λ s number places h.
          subst (λ xs. Follows g.T.Items.work s xs number c.args.base places c.take_next.new.hands.items)
          (sym (take_more es n (get_or es n no_entry) at))
          (c.take_next.ensures.takes s (take n es) number places (inv.follows s number places h)
          c.if-not-take_next.false);
    }

pub returns-then-not-take_next-clause-follows : goal.returns-then-not-take_next-clause-follows
returns-then-not-take_next-clause-follows g c s number places h =
    subst (Follows g.T.Items.work s (take c.loop-done.done c.args.entries.now) number c.args.base places)
    (sym (c.take_next.ensures.kept c.if-not-take_next.true)) (c.loop-done.invariant.follows s number places h)

pub returns-then-not-take_next-clause-stuck : goal.returns-then-not-take_next-clause-stuck
returns-then-not-take_next-clause-stuck g c s number places h e there =
    let es = c.args.entries.now in
    let n = c.loop-done.done in
    let same : get_or es n no_entry ≡ e =
    same_Some (get_or es n no_entry) e (sym (slice_get-get_or es n no_entry c.loop-done-test.true) ∙ there) in
    subst (λ x. IsStuck s (take n es) x e) (ap (λ m. c.args.base + m) c.loop-done.invariant.count)
    (subst (IsStuck s (take n es) _) same
    (c.take_next.ensures.stuck s (take n es) number places (c.loop-done.invariant.follows s number places h)
    c.if-not-take_next.true))
