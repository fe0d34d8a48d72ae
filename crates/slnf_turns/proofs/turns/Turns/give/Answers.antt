use Rattle.std.proofs.Common.{rules, ◌<◌, ap, ◌∙◌, sym, subst, cond, eqb}
use Rattle.slnf_turns.proofs.Resting.{rests_free, open_inside}
use Rattle.slnf_turns.specs.Views.{seen_of}
use Rattle.slnf_turns.proofs.turns.Turns.give.Goals as goal

pub put_in-requires-clause-table : goal.put_in-requires-clause-table
put_in-requires-clause-table g c = let p = c.args.pass.now in let q = c.requires.turn in (
  c.requires.here,
  search rules,
  subst (λ z. c.args.held.shard < z.slots) c.requires.here
      (open_inside _ c.args.held.shard q.2.0 q.0 p.seat.me.0.stage p.resting q.2.1),
)

pub invariant_of-pass : goal.invariant_of-pass
invariant_of-pass g c = let q = c.requires.turn in let v = c.put_in.ensures.view q.2.0 q.0 q.1 q.2.1 q.3 in
    let r = rests_free c.put_in.new.place (ap (λ m. m.0.stage) v) (ap (λ m. m.1) v) in record { resting = r.0; hand = r.1 }

pub returns-clause-seen : goal.returns-clause-seen
returns-clause-seen g c = λ k. let q = c.requires.turn in let v = c.put_in.ensures.view q.2.0 q.0 q.1 q.2.1 q.3 in
    ap (λ m. seen_of k m.0.seen) v
    ∙ ap (λ ls. cond (eqb k c.args.held.shard) ls (seen_of k c.args.pass.now.seat.me.0.seen)) (sym q.3)

pub returns-clause-free : goal.returns-clause-free
returns-clause-free g c = let q = c.requires.turn in
    let v = c.put_in.ensures.view q.2.0 q.0 q.1 q.2.1 q.3 in
    ap (λ m. m.0.stage) v

pub returns-clause-kin : goal.returns-clause-kin
returns-clause-kin g c = let q = c.requires.turn in let v = c.put_in.ensures.view q.2.0 q.0 q.1 q.2.1 q.3 in
    (ap (λ m. m.0.number) v, ap (λ m. m.0.told) v, ap (λ m. m.0.before) v, ap (λ m. m.0.joined) v)
