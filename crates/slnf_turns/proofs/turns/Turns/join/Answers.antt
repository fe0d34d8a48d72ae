use Rattle.std.proofs.Common.{rules, ◌≡◌, ap, ◌∙◌, sym, subst}
use Rattle.slnf_turns.specs.declared.views.View.{View}
use Rattle.slnf_turns.specs.declared.views.Joined.{Joined}
use Rattle.slnf_turns.specs.Views.{WasTold, joined_of, after_join}
use Rattle.slnf_turns.specs.Rule.{living}
use Rattle.slnf_turns.proofs.Lists.{all_last}
use Rattle.slnf_turns.proofs.Keeps.{merges, learns}
use Rattle.slnf_turns.proofs.Resting.{resting_lives, rests_again, in_hand}
use Rattle.slnf_turns.proofs.turns.Turns.join.Goals as goal

pub join_seat-requires : goal.join_seat-requires
join_seat-requires g c = let p = c.args.root.now in let o = c.args.other in (
  search rules,
  search rules,
  in_hand o.seat _ o.hand c.requires.other,
  search rules,
  merges g.B.Chronicle.lines g.B.Chronicle.place g.B.Chronicle.places
      p.seat.id p.seat.me.0 o.seat.id o.seat.me.0 c.requires.root (resting_lives _ _ p.resting) c.requires.other,
)

pub load-requires : goal.load-requires
load-requires g c = let p = c.args.root.now in let e = c.join_seat.ensures in (
  search rules,
  search rules,
  learns g.B.Chronicle.lines g.B.Chronicle.place
      g.B.Chronicle.places _ _ c.join_seat.new.seat.me (ap (λ m. living m.0) e.2 ∙ resting_lives _ _ p.resting),
)

pub invariant_of-root : goal.invariant_of-root
invariant_of-root g c = let p = c.args.root.now in let e = c.join_seat.ensures in let l = c.load.ensures in
    let r = rests_again p.seat c.load.new.seat
    (l.0 ∙ e.0) (ap (λ m. m.0.stage) (l.2.0 ∙ e.2)) (ap (λ m. m.1) (l.2.0 ∙ e.2)) (p.resting, p.hand) in
    record { resting = r.0; hand = r.1 }

pub returns-clause-told : goal.returns-clause-told
returns-clause-told g c = let p = c.args.root.now in
    let o = c.args.other in
    let e = c.join_seat.ensures in
    let l = c.load.ensures in
    let v : View = after_join p.seat.me.0 o.seat.me.0 in let now : c.load.new.seat.me.0 ≡ v = ap (λ m. m.0) (l.2.0 ∙ e.2) in
    let all = l.2.1 (ap (λ m. m.0.number) e.2 ∙ c.requires.root) (ap (λ m. living m.0) e.2 ∙ resting_lives _ _ p.resting) in
    subst (λ (z : View). WasTold z.before z.joined o.seat.me.0.number o.seat.me.0.told) (sym now)
    (all_last (λ (x : Joined). WasTold v.before v.joined x.listed.number x.told) p.seat.me.0.joined (joined_of o.seat.me.0)
    (subst (λ (z : View). Rattle.std.specs.List.AllByRecursion
    (λ (x : Joined). WasTold z.before z.joined x.listed.number x.told) z.joined) (ap (λ m. m.0) e.2) all))
