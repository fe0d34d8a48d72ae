use Rattle.std.proofs.Common.{ap, sym, ◌∙◌}
use Rattle.slnf_turns.proofs.Resting.{rests_again, rests_free}
use Rattle.slnf_turns.proofs.turns.Turns.split.Goals as goal

pub cut-seat-requires-clause-resting : goal.cut-seat-requires-clause-resting
cut-seat-requires-clause-resting g c = c.args.root.now.resting

pub invariant_of-root : goal.invariant_of-root
invariant_of-root g c = let p = c.args.root.now in let e = c.cut-seat.ensures in
    let r = rests_again p.seat c.cut-seat.new.root
    (e.table.0 ∙ sym c.requires.here) (ap (λ m. m.0.stage) e.root) (ap (λ m. m.1) e.root) (p.resting, p.hand) in
    record { resting = r.0; hand = r.1 }

pub invariant_of-result : goal.invariant_of-result
invariant_of-result g c = let e = c.cut-seat.ensures in
    let r = rests_free c.cut-seat.result (ap (λ m. m.0.stage) e.number) (ap (λ m. m.1) e.number) in
    record { resting = r.0; hand = r.1 }
