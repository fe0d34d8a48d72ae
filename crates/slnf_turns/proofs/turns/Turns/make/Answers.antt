use Rattle.std.proofs.Common.{rules, ◌≡◌, ℕ, length, get_or, sym, ap, ◌∙◌, subst}
use Rattle.slnf_turns.specs.Values.{AreFresh}
use Rattle.slnf_turns.proofs.Ends.{starts}
use Rattle.slnf_turns.proofs.Items.{all_zero}
use Rattle.slnf_turns.proofs.Resting.{rests_free}
use Rattle.slnf_turns.proofs.turns.Turns.make.Goals as goal

pub new-requires : goal.new-requires
new-requires g c = let long : length c.args.values.items ≡ c.args.values.len = search rules in
    starts g.B.Chronicle.lines g.B.Chronicle.place g.B.Chronicle.places
    c.deref.result.now c.fill.new.slots.items c.args.values.items c.fill.ensures.slots (search rules)
    (λ i. ap (λ l. get_or l i 0) (c.deref.ensures.value ∙ c.in_ok-words.ensures.items) ∙ all_zero _ i)
    (subst (λ (n : ℕ). AreFresh g.B.Chronicle.lines g.B.Chronicle.place g.B.Chronicle.places n c.args.values.items)
    (sym long) c.requires.fresh)

pub invariant_of-result-in-Ok : goal.invariant_of-result-in-Ok
invariant_of-result-in-Ok g c = let e = c.in-Ok.ensures.ok in
    let r = rests_free c.in-Ok.seat (ap (λ m. m.0.stage) e.4) (ap (λ m. m.1) e.4) in
    record { resting = r.0; hand = r.1 }
