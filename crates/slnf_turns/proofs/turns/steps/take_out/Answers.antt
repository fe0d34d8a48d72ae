use Rattle.std.proofs.Common.{rules, ◌≡◌, [], ◌∷◌, None, Some, refl, sym, ap, ◌∙◌, subst}
use Rattle.atomic_table.specs.Table.{rest}
use Rattle.slnf_turns.specs.declared.views.View.{View}
use Rattle.slnf_turns.specs.declared.views.Stage.TheVariants.{Turn, Waits}
use Rattle.slnf_turns.specs.Views.{Begins, seen_of, staged, after_open}
use Rattle.slnf_turns.proofs.Keeps.{draws, opens}
use Rattle.slnf_turns.proofs.Items.{same_item, same_value}
use Rattle.slnf_turns.proofs.turns.steps.take_out.Goals as goal

pub fetch_add-ticket-requires : goal.fetch_add-ticket-requires
fetch_add-ticket-requires g c = (
  search rules,
  search rules,
  draws g.B.Chronicle.lines g.B.Chronicle.place
      g.B.Chronicle.places _ _ c.args.place.now.me c.args.shard c.requires.free.0 c.requires.table.2,
)

pub wait-requires-clause-waits : goal.wait-requires-clause-waits
wait-requires-clause-waits g c = let d = c.fetch_add-ticket.ensures.2.1 c.args.shard refl in
    (d.0, ap (λ (v : View). v.stage) d.1, d.2)

pub load-requires : goal.load-requires
load-requires g c = let d = c.fetch_add-ticket.ensures.2.1 c.args.shard refl in
    let w = c.wait.ensures.turn d.0 (ap (λ (v : View). v.stage) d.1) in (
      search rules,
      search rules,
      opens g.B.Chronicle.lines
          g.B.Chronicle.place g.B.Chronicle.places _ _ c.wait.new.place.me c.args.shard d.0 (ap (λ m. m.0.stage) w),
    )

pub exchange-requires : goal.exchange-requires
exchange-requires g c = let d = c.fetch_add-ticket.ensures.2.1 c.args.shard refl in
    let w = c.wait.ensures.turn d.0 (ap (λ (v : View). v.stage) d.1) in
    let o = c.load.ensures.2 c.args.shard d.0 (ap (λ m. m.0.stage) w) in
    (search rules, (Some o.0, o.1 ∙ ap (λ cs. (c.args.shard, Some o.0) ∷ rest cs) (sym o.1)))

pub unwrap-requires : goal.unwrap-requires
unwrap-requires g c = let d = c.fetch_add-ticket.ensures.2.1 c.args.shard refl in
    let w = c.wait.ensures.turn d.0 (ap (λ (v : View). v.stage) d.1) in
    let o = c.load.ensures.2 c.args.shard d.0 (ap (λ m. m.0.stage) w) in
    let is = same_item c.args.shard c.args.shard
    (Some o.0) c.exchange.result c.load.new.seat.me.1 _ _ o.1 c.exchange.ensures.2 in
    search rules

pub returns-clause-view : goal.returns-clause-view
returns-clause-view g c = let d = c.fetch_add-ticket.ensures.2.1 c.args.shard refl in
    let w = c.wait.ensures.turn d.0 (ap (λ (v : View). v.stage) d.1) in
    let o = c.load.ensures.2 c.args.shard d.0 (ap (λ m. m.0.stage) w) in
    let is = same_item c.args.shard c.args.shard (Some o.0) c.exchange.result c.load.new.seat.me.1 _ _ o.1 c.exchange.ensures.2 in
    let value = same_value o.0 c.unwrap.result (is ∙ c.unwrap.ensures) in
    let bare : c.wait.new.place.me.1 ≡ [] = ap (λ m. m.1) w ∙ (c.fetch_add-ticket.ensures.2.0 ∙ c.requires.free.1) in
    let before : c.wait.new.place.me.0 ≡ staged (staged c.args.place.now.me.0 (Waits c.args.shard d.0))
    (Turn c.args.shard d.0) = ap (λ m. m.0) w ∙ ap (λ (v : View). staged v (Turn c.args.shard d.0)) d.1 in (
      d.0,
      c.exchange.ensures.3 ∙ (λ i. (
        (o.2 ∙ (ap (λ (v : View). after_open v c.args.shard d.0 (g.B.Chronicle.lines o.0)) before
            ∙ ap (λ b. after_open c.args.place.now.me.0 c.args.shard d.0 (g.B.Chronicle.lines b)) value)) i,
        (c.args.shard, None) ∷ (ap rest o.1 ∙ bare) i,
      )),
    )

pub returns-clause-value : goal.returns-clause-value
returns-clause-value g c = let d = c.fetch_add-ticket.ensures.2.1 c.args.shard refl in
    let w = c.wait.ensures.turn d.0 (ap (λ (v : View). v.stage) d.1) in
    let o = c.load.ensures.2 c.args.shard d.0 (ap (λ m. m.0.stage) w) in
    let is = same_item c.args.shard c.args.shard (Some o.0) c.exchange.result c.load.new.seat.me.1 _ _ o.1 c.exchange.ensures.2 in
    let value = same_value o.0 c.unwrap.result (is ∙ c.unwrap.ensures) in
    let before : c.wait.new.place.me.0 ≡ staged (staged c.args.place.now.me.0 (Waits c.args.shard d.0))
    (Turn c.args.shard d.0) = ap (λ m. m.0) w ∙ ap (λ (v : View). staged v (Turn c.args.shard d.0)) d.1 in (
      ap g.B.Chronicle.place (sym value) ∙ o.3,
      ap g.B.Chronicle.places (sym value) ∙ o.4,
      subst (λ (b : g.row.B.Denot). Begins (seen_of c.args.shard c.args.place.now.me.0.seen) (g.B.Chronicle.lines b)) value
          (subst (λ (v : View). Begins (seen_of c.args.shard v.seen) (g.B.Chronicle.lines o.0)) before o.5),
    )
