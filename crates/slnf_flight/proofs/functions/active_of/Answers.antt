-- one more place
use Rattle.std.proofs.Common.{arith, ap, sym, ◌∙◌, slice_get, get_or}
use Rattle.slnf_flight.proofs.Active.{active_more, pairs_more}
use Rattle.slnf_flight.proofs.functions.active_of.Goals as goal

pub loop-place-preserved : goal.loop-place-preserved
loop-place-preserved c = record {
  active = active_more c.args.service.now c.args.places.now
      c.loop-place.place-index c.loop-place.active.items c.push.new.self.items _ (omega arith)
      (ap (λ l. slice_get l (get_or c.args.places.now c.loop-place.place-index 0)) (sym c.as_slice-backends.ensures)
      ∙ c.backend_at.ensures.there) c.in_ok-push.ensures.items c.loop-place.invariant.active;
  pairs = pairs_more c.loop-place.active.items c.push.new.self.items
      _ c.backend_at.ensures.pair c.in_ok-push.ensures.items c.loop-place.invariant.pairs;
  count = omega (arith, c.in_ok-push.ensures.len);
}
