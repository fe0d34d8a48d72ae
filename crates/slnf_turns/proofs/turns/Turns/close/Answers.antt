use Rattle.std.proofs.Common.{◌≡◌, ◌<◌, ℕ, length, Some, sym, ap, ◌∙◌, subst}
use mathlib.Core.Option.{some}
use lib.ListN.{get_elem?}
use Rattle.std.specs.Slots.{slots_items, slots_counts}
use Rattle.atomic_table.proofs.Lists.{at_map}
use Rattle.slnf_turns.specs.declared.views.View.{View}
use Rattle.slnf_turns.specs.Values.{AreKept, IsLast}
use Rattle.slnf_turns.proofs.Ends.{ends, ends_kept, slice_at}
use Rattle.slnf_turns.proofs.Lists.{one_at, at_within}
use Rattle.slnf_turns.proofs.Items.{same_one, same_value}
use Rattle.slnf_turns.proofs.turns.Turns.close.Goals as goal

pub collect-requires-clause-values : goal.collect-requires-clause-values
collect-requires-clause-values g c = λ k near. let v = c.args.root.seat.me.0 in let row = c.close_with-closed.result.slots in
    let same : c.into_seat.result.me.0 ≡ v = same_one _ _ _ c.into_seat.ensures.2 c.into_badge-badge.ensures.2 in
    let o = ends g.B.Chronicle.lines g.B.Chronicle.place g.B.Chronicle.places _ c.into_seat.result.me.0 _ (slots_items
    row) (ap (λ (z : View). z.number) same ∙ c.requires.root) (ap (λ (z : View). z.stage) same ∙ c.requires.free)
    (ap (λ (z : View). length z.joined) same ∙ (c.requires.joined ∙ ap (λ (z : View). length z.before) (sym same)))
    c.close_with-closed.ensures.values.2 k (subst (λ (n : ℕ). k < n) (slots_counts row).0 near) in (o.0, o.1)

pub returns-clause-values : goal.returns-clause-values
returns-clause-values g c = λ k b is. let v = c.args.root.seat.me.0 in let row = c.close_with-closed.result.slots in
    let at : get_elem? (slots_items row) k ≡ some (Some b) = ap (λ l. get_elem? l k) (sym c.collect.ensures.values)
    ∙ at_map Some c.collect.new.room.items k b (slice_at c.collect.new.room.items k b is) in
    let same : c.into_seat.result.me.0 ≡ v = same_one _ _ _ c.into_seat.ensures.2 c.into_badge-badge.ensures.2 in
    let o = ends g.B.Chronicle.lines g.B.Chronicle.place g.B.Chronicle.places _ c.into_seat.result.me.0 _ (slots_items
    row) (ap (λ (z : View). z.number) same ∙ c.requires.root) (ap (λ (z : View). z.stage) same ∙ c.requires.free)
    (ap (λ (z : View). length z.joined) same ∙ (c.requires.joined ∙ ap (λ (z : View). length z.before) (sym same)))
    c.close_with-closed.ensures.values.2 k (at_within (slots_items row) k (Some b) at) in
    let this : o.0 ≡ b = same_value o.0 b (one_at (slots_items row) k (Some o.0) (Some b) o.1 at) in
    let many : length (slots_items row) ≡ c.args.self.table.shared.table_id.slots =
    sym (slots_counts row).0 ∙ c.close_with-closed.ensures.counts.1 in
    subst (λ (z : ℕ × View × g.row.B.Denot). IsLast
    g.B.Chronicle.lines g.B.Chronicle.place g.B.Chronicle.places z.0 z.1 k z.2) (λ i. (many i, same i, this i)) o.2

pub returns-clause-joined : goal.returns-clause-joined
returns-clause-joined g c = let v = c.args.root.seat.me.0 in
    let same : c.into_seat.result.me.0 ≡ v = same_one _ _ _ c.into_seat.ensures.2 c.into_badge-badge.ensures.2 in
    subst AreKept same (ends_kept g.B.Chronicle.lines g.B.Chronicle.place g.B.Chronicle.places _ c.into_seat.result.me.0
    _ (slots_items c.close_with-closed.result.slots) (ap (λ (z : View). z.number) same ∙ c.requires.root)
    (ap (λ (z : View). z.stage) same ∙ c.requires.free) (ap (λ (z : View). length z.joined) same
    ∙ (c.requires.joined ∙ ap (λ (z : View). length z.before) (sym same))) c.close_with-closed.ensures.values.2)
