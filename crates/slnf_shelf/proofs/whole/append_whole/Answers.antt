use Rattle.std.proofs.Common.{◌∙◌, ◌+◌, arith}
use Rattle.std.proofs.lemmas.List.{length-drop}
use Rattle.std.proofs.lemmas.Result.{err_from_is_err_and}
use Rattle.slnf_shelf.proofs.Laws.{Moves-then}
use Rattle.slnf_shelf.proofs.Fronts.{front-of-rest}
use Rattle.slnf_shelf.proofs.whole.append_whole.Goals as goal

pub returns-in_err-written-clause-err : goal.returns-in_err-written-clause-err
returns-in_err-written-clause-err g c =
    let p = err_from_is_err_and c.from_residual.result c.from_residual.ensures.1 in
    let h = c.in_err-written.ensures.err in
    rw p.1 (c.loop-written.written + h.0, front-of-rest _ _ _ _ _ _ c.loop-written.invariant.gained h.1)

pub loop-written-preserved : goal.loop-written-preserved
loop-written-preserved g c = record {
  moves = Moves-then _ _ _ _ c.loop-written.invariant.moves c.in_ok-written.ensures.counts;
  still = c.in_ok-written.ensures.no_fault ∙ c.loop-written.invariant.still;
  others = λ other not. c.in_ok-written.ensures.others other not ∙ c.loop-written.invariant.others other not;
  fits = omega (arith, c.in_ok-written.ensures.fits, length-drop c.loop-written.written c.args.text.now);
  gained = front-of-rest _ _ _ _ _ _ c.loop-written.invariant.gained c.in_ok-written.ensures.ok;
}
