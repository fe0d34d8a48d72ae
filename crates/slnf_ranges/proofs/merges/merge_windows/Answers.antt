-- each window is merged, so all are
use Rattle.std.proofs.Common.{◌≡◌, ◌++◌, ◌∙◌, Bor, Vec, Global, List, [], ◌∷◌, map, sym, ap, subst, arith, append_assoc, append-nil}
use Rattle.std.proofs.lemmas.List.{nil_from_length}
use Rattle.std.specs.Vec.Iter.{into_iter_items}
use Rattle.slnf_access.specs.declared.requests.Entry.{Entry}
use Rattle.slnf_ranges.specs.Ranges.{ranges, IsMergedFrom}
use Rattle.slnf_ranges.proofs.Laws.{AllHistories, EachMerged, merged_push, ranges_histories, whole}
use Rattle.slnf_ranges.proofs.merges.merge_windows.Goals as goal

nows : List (Bor (List Entry)) → List (List Entry)
nows slices = map (λ h. h.now) slices

lists : List (Vec (Bor (List Entry)) Global) → List (List (List Entry))
lists windows = map (λ w. nows w.items) windows

pub loop-window-init : goal.loop-window-init
unfolding nows lists
loop-window-init c =
    let all = c.in_ok-windows.ensures ∙ ap (λ bounds. ranges bounds (nows c.args.range.items)) c.as_slice-3.ensures.value in
    let gives : into_iter_items c.into_iter-window-iterator.result ≡ c.in_ok-windows.windows.items =
    c.into_iter-window-iterator.ensures.into_iter_gives.0 in
    let are : lists (into_iter_items c.into_iter-window-iterator.result)
    ≡ ranges c.in_ok-bounds.bounds.items (nows c.args.range.items) = ap lists gives ∙ all in
    record {
      done = [];
      merged = rw c.in_ok-parts.ensures.items tt;
      all = are;
      rest = subst AllHistories (sym are) (ranges_histories _ (nows c.args.range.items) c.requires);
    }

pub loop-window-preserved : goal.loop-window-preserved
unfolding nows lists
loop-window-preserved c =
    let inv = c.loop-window.invariant in
    let rest = lists (into_iter_items c.next.new.self) in
    let window = nows c.in-Some.window.items in
    let steps : lists (into_iter_items c.loop-window.window-iterator) ≡ window ∷ rest =
    ap lists c.in-Some.ensures.steps.0 in
    let merged = subst (λ w. IsMergedFrom (nows w) c.in_ok-merge_range.field-0)
    c.as_slice-in-loop-window.ensures.value c.in_ok-merge_range.ensures in
    record {
      done = inv.done ++ window ∷ [];
      merged = rw c.in_ok-push.ensures.items (merged_push inv.done c.loop-window.parts.items window _ inv.merged merged);
      all = append_assoc inv.done (window ∷ []) rest ∙ (ap (λ l. inv.done ++ l) (sym steps) ∙ inv.all);
      rest = (subst AllHistories steps inv.rest).1;
    }

pub returns : goal.returns
unfolding nows lists
returns c =
    let inv = c.loop-window.invariant in
    let none : into_iter_items c.loop-window.window-iterator ≡ [] =
    nil_from_length (into_iter_items c.loop-window.window-iterator)
    (omega (arith, c.in-None.ensures.steps.0, c.loop-window.window-iterator.rest.ok)) in
    let all : inv.done ≡ ranges c.in_ok-bounds.bounds.items (nows c.args.range.items) =
    sym (append-nil inv.done) ∙ (ap (λ l. inv.done ++ lists l) (sym none) ∙ inv.all) in
    whole c.in_ok-bounds.bounds.items (nows c.args.range.items) c.loop-window.parts.items
    (subst (λ l. EachMerged l c.loop-window.parts.items) all inv.merged)
