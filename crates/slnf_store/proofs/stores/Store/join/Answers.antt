-- the root after a join
use Rattle.std.proofs.Common.{◌≡◌, ◌≢◌, max, length, sym, ap, ◌∙◌, subst, rules}
use Rattle.atomic_table.specs.Seated.{TableId}
use Rattle.slnf_turns.specs.declared.views.View.{View}
use Rattle.slnf_turns.specs.Passes.{view}
use Rattle.slnf_store.specs.Passes.{PassState, IsPass}
use Rattle.slnf_store.proofs.Joins.{pass_joined}
use Rattle.slnf_store.proofs.stores.Store.join.Goals as goal

pub invariant_of-root : goal.invariant_of-root
invariant_of-root c =
    let p = c.root.inside in
    let q = c.other.inside in
    let v = view p.pass in
    let w = view q.pass in
    let e = c.join.ensures in
    let table = c.args.self.now.turns.table.shared.table_id in
    let here : p.pass.seat.table_id ≡ table = ap (λ (z : PassState). z.table_id) c.root.view_is ∙ c.requires.here.0 in
    let there : q.pass.seat.table_id ≡ table = ap (λ (z : PassState). z.table_id) c.other.view_is
    ∙ c.requires.here.1 in
    let root : v.number ≡ 0 = ap (λ (z : PassState). z.known.number) c.root.view_is ∙ c.requires.root in
    let other : w.number ≢ 0 = λ zero. c.requires.other
    (ap (λ (z : PassState). z.known.number) (sym c.other.view_is) ∙ zero) in
    let ip = subst (λ (z : TableId). IsPass z.slots p.clock v) here c.root.invariant.2 in
    let iq = subst (λ (z : TableId). IsPass z.slots q.clock w) there c.other.invariant.2 in
    let now = pass_joined table.slots p.clock q.clock v w (view c.join.new.root) e.root root other ip iq e.told in
    let most : c.max-root-inside.result ≡ max p.clock q.clock = search rules in (
      c.root.invariant.0 ∙ sym (ap (λ (z : View). z.number) e.root),
      c.root.invariant.1 ∙ sym (ap (λ (z : View). length z.before) e.root),
      rw most (subst (λ (z : TableId). IsPass z.slots (max p.clock q.clock) (view c.join.new.root)) (sym e.here) now),
    )
