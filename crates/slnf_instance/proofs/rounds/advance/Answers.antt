-- the next batch is taken and its first round opened
use Rattle.std.proofs.Common.{◌≤◌, arith, ap, ◌∙◌, subst, vec_len}
use Rattle.std.proofs.lemmas.List.{nil_from_length}
use Rattle.slnf_batch.specs.Order.{Ascends}
use Rattle.slnf_instance.specs.declared.errands.Errand.{Errand}
use Rattle.slnf_run.specs.Jobs.{Job}
use Rattle.slnf_instance.specs.Errands.{job_in}
use Rattle.slnf_instance.specs.Hands.{IsTaken}
use Rattle.slnf_instance.proofs.Coding.{not_zero, is_zero}
use Rattle.slnf_instance.proofs.Going.{taken_rests, opened_goes, opened_done, through}
use Rattle.slnf_instance.proofs.rounds.advance.Goals as goal

pub returns-then-not-is_empty-clause-goes : goal.returns-then-not-is_empty-clause-goes
returns-then-not-is_empty-clause-goes g c own done =
    let job : Errand → Job _ = λ errand. job_in (g.T.Items.work c.args.items.now) errand in
    let inv = c.loop-hand.invariant in
    let after = c.open_round.new.hand in
    let errand = c.args.hand.now.errand in
    let rests = taken_rests (job errand) own c.loop-hand.hand c.take_batch.new.hand c.requires.errand.batch
    (subst (λ e. e.at ≤ c.loop-hand.hand.from) inv.same.errand inv.fits.from) (inv.done own done)
    (subst (λ e. IsTaken (job e) c.loop-hand.hand c.take_batch.new.hand) inv.same.errand c.take_batch.ensures.taken)
    c.take_batch.ensures.same in
    let some = not_zero (vec_len after.asks) c.is_empty.result c.is_empty.ensures c.if-not-is_empty.true in
    let len = after.asks.ok.0 in
    opened_goes (job errand) own 0 c.take_batch.new.hand after rests c.open_round.ensures.kept
    c.open_round.ensures.asks
    (subst (λ e. Ascends e.shards after.asks.items) (c.take_batch.ensures.same.errand ∙ inv.same.errand)
    c.open_round.ensures.ascends) (omega (arith, some, len))

pub loop-hand-preserved : goal.loop-hand-preserved
loop-hand-preserved g c =
    let job : Errand → Job _ = λ errand. job_in (g.T.Items.work c.args.items.now) errand in
    let inv = c.loop-hand.invariant in
    let after = c.open_round.new.hand in
    let errand = c.args.hand.now.errand in
    let zero = is_zero (vec_len after.asks) c.is_empty.result c.is_empty.ensures c.if-not-is_empty.false in
    let len = after.asks.ok.0 in
    let none = nil_from_length after.asks.items (omega (arith, zero, len)) in
    record {
      fits = c.open_round.ensures.fits;
      same = record {
        errand = ap (λ h. h.errand) c.open_round.ensures.kept ∙ (c.take_batch.ensures.same.errand ∙ inv.same.errand);
        left = ap (λ h. h.left) c.open_round.ensures.kept ∙ (c.take_batch.ensures.same.left ∙ inv.same.left);
      };
      none = none;
      done = λ own done.
          opened_done (job errand) own 0 c.take_batch.new.hand after
          (taken_rests (job errand) own c.loop-hand.hand c.take_batch.new.hand c.requires.errand.batch
          (subst (λ e. e.at ≤ c.loop-hand.hand.from) inv.same.errand inv.fits.from) (inv.done own done)
          (subst (λ e. IsTaken (job e) c.loop-hand.hand c.take_batch.new.hand) inv.same.errand
          c.take_batch.ensures.taken) c.take_batch.ensures.same)
          c.open_round.ensures.kept c.open_round.ensures.asks none;
    }

pub returns-clause-goes : goal.returns-clause-goes
returns-clause-goes g c own done =
    let job : Errand → Job _ = λ errand. job_in (g.T.Items.work c.args.items.now) errand in
    let inv = c.loop-hand.invariant in
    let errand = c.args.hand.now.errand in
    through (job errand) own c.loop-hand.hand (inv.done own done)
    (omega (
      arith,
      c.loop-hand-test.false,
      c.len.ensures,
      c.loop-hand.hand.flights.ok.0,
      inv.fits.inside,
      ap
          (λ (e : Errand). e.end) inv.same.errand,
      c.requires.errand.end,
    )) inv.none
