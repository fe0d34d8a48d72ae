use Rattle.std.proofs.Common.{rules, ◌≡◌, [], ◌∷◌, None, Some, sym, ap, ◌∙◌, subst}
use Rattle.atomic_table.specs.Table.{rest}
use Rattle.slnf_turns.specs.declared.views.View.{View}
use Rattle.slnf_turns.specs.declared.views.Stage.TheVariants.{Open}
use Rattle.slnf_turns.specs.Views.{AllOf, staged, after_raise}
use Rattle.slnf_turns.proofs.Keeps.{writes, raises}
use Rattle.slnf_turns.proofs.Items.{same_item}
use Rattle.slnf_turns.proofs.turns.steps.put_in.Goals as goal

pub exchange-requires : goal.exchange-requires
exchange-requires g c = (search rules, (None, c.requires.hand ∙ ap (λ cs. (c.args.shard, None) ∷ rest cs) (sym c.requires.hand)))

pub unreachable-requires : goal.unreachable-requires
unreachable-requires g c = let is = same_item c.args.shard c.args.shard
    None c.exchange.result c.args.place.now.me.1 _ _ c.requires.hand c.exchange.ensures.2 in search rules

pub load-requires : goal.load-requires
load-requires g c = let q = c.requires.turn in let now = c.exchange.ensures.3 in let k = c.args.shard in
    let view : c.exchange.new.seat.me.0 ≡ c.args.place.now.me.0 = ap (λ m. m.0) now in
    let held : c.exchange.new.seat.me.1 ≡ (k, Some c.args.value) ∷ [] =
    ap (λ m. m.1) now ∙ ap (λ cs. (k, Some c.args.value) ∷ rest cs) c.requires.hand in (
      search rules,
      search rules,
      writes g.B.Chronicle.lines g.B.Chronicle.place g.B.Chronicle.places
          _ _ c.exchange.new.seat.me k q.0 q.1 q.2 c.args.value (ap (λ (v : View). v.stage) view ∙ q.3) held q.4
          (subst (λ (v : View). AllOf v.number q.2) (sym view) q.5),
    )

pub fetch_add-requires : goal.fetch_add-requires
fetch_add-requires g c = let q = c.requires.turn in let now = c.exchange.ensures.3 in let k = c.args.shard in
    let view : c.exchange.new.seat.me.0 ≡ c.args.place.now.me.0 = ap (λ m. m.0) now in
    let held : c.exchange.new.seat.me.1 ≡ (k, Some c.args.value) ∷ [] =
    ap (λ m. m.1) now ∙ ap (λ cs. (k, Some c.args.value) ∷ rest cs) c.requires.hand in
    let noted = c.load.ensures.2.1 k q.0 q.1 q.2 c.args.value (ap (λ (v : View). v.stage) view ∙ q.3) held q.4 in (
      search rules,
      search rules,
      raises g.B.Chronicle.lines g.B.Chronicle.place g.B.Chronicle.places
          _ _ c.load.new.seat.me k q.0 q.1 q.2 c.args.value (ap (λ (v : View). v.stage) noted) (c.load.ensures.2.0 ∙ held)
          c.requires.value.0 c.requires.value.1 q.4,
    )

pub returns-clause-view : goal.returns-clause-view
returns-clause-view g c = λ t base more is grown. let now = c.exchange.ensures.3 in let k = c.args.shard in
    let view : c.exchange.new.seat.me.0 ≡ c.args.place.now.me.0 = ap (λ m. m.0) now in
    let held : c.exchange.new.seat.me.1 ≡ (k, Some c.args.value) ∷ [] =
    ap (λ m. m.1) now ∙ ap (λ cs. (k, Some c.args.value) ∷ rest cs) c.requires.hand in
    let noted = c.load.ensures.2.1 k t base more c.args.value (ap (λ (v : View). v.stage) view ∙ is) held grown in
    let last = c.fetch_add.ensures.2 in let view' = last.1 k t base more (ap (λ (v : View). v.stage) noted) in
    let before : c.load.new.seat.me.0 ≡ staged c.args.place.now.me.0 (Open k t base more) =
    noted ∙ ap (λ (v : View). staged v (Open k t base more)) view in
    let hand : c.fetch_add.new.seat.me.1 ≡ [] = last.0 ∙ ap rest (c.load.ensures.2.0 ∙ held) in
    λ i. ((view' ∙ ap (λ (v : View). after_raise v k base more) before) i, hand i)
