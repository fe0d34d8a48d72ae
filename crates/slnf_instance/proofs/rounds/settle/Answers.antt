use Rattle.std.proofs.Common.{arith, ap, sym, subst, vec_len}
use Rattle.std.proofs.lemmas.List.{nil_from_length}
use Rattle.slnf_instance.specs.declared.errands.Errand.{Errand}
use Rattle.slnf_run.specs.Jobs.{Job}
use Rattle.slnf_instance.specs.Errands.{job_in}
use Rattle.slnf_instance.specs.Hands.{IsDone, HandGoesOn}
use Rattle.slnf_instance.proofs.Coding.{not_zero, is_zero}
use Rattle.slnf_instance.proofs.Going.{opened_goes, opened_done}
use Rattle.slnf_instance.proofs.rounds.settle.Goals as goal

pub returns-then-is_empty-clause-goes : goal.returns-then-is_empty-clause-goes
returns-then-is_empty-clause-goes g c own made rests =
    let job : Errand → Job _ = λ errand. job_in (g.T.Items.work c.args.items.now) errand in
    let after = c.open_round.new.hand in
    let errand = c.args.hand.now.errand in
    let zero = is_zero (vec_len after.asks) c.is_empty.result c.is_empty.ensures c.if-is_empty.true in
    let len = after.asks.ok.0 in
    let none = nil_from_length after.asks.items (omega (arith, zero, len)) in
    let done = opened_done (job errand) own made c.args.hand.now after rests c.open_round.ensures.kept
    c.open_round.ensures.asks none in
    subst (λ e. HandGoesOn (job e) own c.advance.new.hand) (ap (λ h. h.errand) c.open_round.ensures.kept)
    (c.advance.ensures.goes own (subst (λ e. IsDone (job e) own after)
    (sym (ap (λ h. h.errand) c.open_round.ensures.kept)) done))

pub returns-else-is_empty-clause-goes : goal.returns-else-is_empty-clause-goes
returns-else-is_empty-clause-goes g c own made rests =
    let job : Errand → Job _ = λ errand. job_in (g.T.Items.work c.args.items.now) errand in
    let after = c.open_round.new.hand in
    let some = not_zero (vec_len after.asks) c.is_empty.result c.is_empty.ensures c.if-is_empty.false in
    let len = after.asks.ok.0 in
    opened_goes (job c.args.hand.now.errand) own made c.args.hand.now after rests c.open_round.ensures.kept
    c.open_round.ensures.asks c.open_round.ensures.ascends (omega (arith, some, len))
