use Rattle.std.proofs.Common.{◌<◌, ap, sym, subst}
use Rattle.slnf_turns.proofs.Resting.{rests_open}
use Rattle.slnf_turns.proofs.turns.Turns.take.Goals as goal

pub invariant_of-pass : goal.invariant_of-pass
invariant_of-pass g c = let v = c.take_out-value.ensures.view in let t = c.take_out-value.ensures.table in
    let r = rests_open c.take_out-value.new.place c.args.shard v.0 _
    (ap (λ m. m.0.stage) v.1) (ap (λ m. m.1) v.1) (subst (λ z. c.args.shard < z.slots) (sym t) c.requires.shard) in
    record { resting = r.0; hand = r.1 }
