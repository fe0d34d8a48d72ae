-- each range is merged, so all are
use Rattle.std.proofs.Common.{◌≡◌, Bor, Vec, Global, IfOk, Result, List, map, sym, subst, arith, slice_index_or}
use Rattle.slnf_base.specs.declared.memory.NoMemory.{NoMemory}
use Rattle.slnf_access.specs.declared.requests.Entry.{Entry}
use Rattle.slnf_merge.specs.Merge.{AreHistories, all_of}
use Rattle.slnf_ranges.specs.Ranges.{IsMergedFrom}
use Rattle.slnf_ranges.proofs.Laws.{AllHistories, EachAnswered, ranges_histories, histories_at, answered_at, whole_answered}
use Rattle.slnf_ranges.proofs.merges.merge_in_parts.Goals as goal

nows : List (Bor (List Entry)) → List (List Entry)
nows slices = map (λ h. h.now) slices

in_range : Vec (Bor (List Entry)) Global → List (List Entry)
in_range range = nows range.items

pub map_vec-requires-after_bounds : goal.map_vec-requires-after_bounds
unfolding nows in_range
map_vec-requires-after_bounds g c κs within i x l q =
    let hs = nows c.in_ok-slices.slices.items in
    let have : AreHistories 0 hs = rw c.in_ok-slices.ensures c.requires in
    let all : AllHistories (map in_range c.in_ok-ranges.ranges.items) =
    rw c.in_ok-ranges.ensures (ranges_histories c.as_slice-2.result.now hs have) in
    subst (λ r. AreHistories 0 (in_range r)) (sym q) (histories_at in_range c.in_ok-ranges.ranges.items i x all l)

pub returns : goal.returns
unfolding nows in_range
returns g c =
    let hs = nows c.in_ok-slices.slices.items in
    let cut = c.in_ok-ranges.ranges in
    let merged = c.in_ok-merged.merged in
    let P : Vec (Bor (List Entry)) Global → Result (Vec (List Entry) Global) NoMemory → Type 0 =
    λ r a. IfOk a (λ parts. IsMergedFrom (in_range r) (all_of parts.items)) in
    let each : EachAnswered (map in_range cut.items) merged.items =
    answered_at in_range cut.items merged.items (omega (arith, c.in_ok-merged.ensures.len, merged.ok.0, cut.ok.0))
    (λ i d a l.
    let one = c.in_ok-merged.ensures.each i a l in
    subst (λ r. P r (slice_index_or merged.items i a)) (sym (one.1.job_is d)) one.1.call.met) in
    let all : IsMergedFrom hs (all_of c.in_ok-gather.field-0.items) =
    rw c.in_ok-gather.ensures.all (whole_answered c.as_slice-2.result.now hs merged.items
    (subst (λ l. EachAnswered l merged.items) c.in_ok-ranges.ensures each) c.in_ok-gather.ensures.whole) in
    let given : hs ≡ map (λ h. h.items) c.args.histories.now = c.in_ok-slices.ensures in
    let end : IsMergedFrom (map (λ h. h.items) c.args.histories.now) c.from_vec.result =
    rw (c.from_vec.ensures, ← given) all in
    record { same = end.same; in_order = end.in_order }
