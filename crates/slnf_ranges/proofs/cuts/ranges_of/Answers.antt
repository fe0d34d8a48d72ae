-- the cut part is the next range
use Rattle.std.proofs.Common.{◌∙◌, Bor, List, map, get_or, ap, arith}
use Rattle.std.specs.Prelude.{nat_le}
use Rattle.slnf_access.specs.declared.requests.Entry.{Entry}
use Rattle.slnf_ranges.specs.Ranges.{below, from_on}
use Rattle.slnf_ranges.proofs.Histories.{histories_filtered}
use Rattle.slnf_ranges.proofs.Laws.{range_step}
use Rattle.slnf_ranges.proofs.cuts.ranges_of.Goals as goal

pub loop-bound-preserved : goal.loop-bound-preserved
loop-bound-preserved c =
    let inv = c.loop-bound.invariant in
    let nows : List (Bor (List Entry)) → List (List Entry) = map (λ h. h.now) in
    let rest = nows c.loop-bound.rest.items in
    let bound = get_or c.args.bounds.now c.loop-bound.bound-index 0 in
    let value = ap nows c.as_slice.ensures.value in
    let front = c.in_ok-front.ensures.0 ∙ ap (map (below bound)) value in
    let back = c.in_ok-front.ensures.1 ∙ ap (map (from_on bound)) value in
    record {
      made = rw c.in_ok-push.ensures.items (range_step (λ range. nows range.items) c.loop-bound.ranges.items c.in_ok-front.front
          c.args.bounds.now c.loop-bound.bound-index rest (nows c.in_ok-front.back.items) _ (omega arith) inv.made front back);
      rest = rw back (histories_filtered (λ e. nat_le bound e.stamp) 0 rest inv.rest);
    }
