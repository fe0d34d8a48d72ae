-- the histories one after another, and then sorted
use Rattle.std.proofs.Common.{ℕ, List, Vec, Global, map, rules}
use Rattle.std.specs.List.Sorted.{IsPermutation}
use Rattle.std.proofs.lemmas.Fn.{always_returns_same}
use Rattle.slnf_access.specs.declared.requests.Entry.{Entry}
use Rattle.slnf_access.specs.Order.{InOrder}
use Rattle.slnf_merge.specs.Merge.{all_of}
use Rattle.slnf_merge.proofs.Orders.{all_distinct, sorted_in_order}
use Rattle.slnf_merge.proofs.Laws.{merges_legally}
use Rattle.slnf_merge.proofs.merges.merge.Goals as goal

entries : Vec Entry Global → List Entry
entries history = history.items

pub returns : goal.returns
unfolding entries
returns c =
    let xs = c.args.histories.items in
    let all = all_of (map entries xs) in
    let sorted = c.sort_by_key.new.self.items in
    let same : IsPermutation all sorted = rw (← c.in_ok-merged.ensures) c.in_ok-sort_by_key.ensures.permutation in
    let key : Entry → ℕ × ℕ = λ e. (e.stamp, e.shard) in
    let by_key = c.in_ok-sort_by_key.ensures.sorted key (always_returns_same _ _ _ (λ a r f h. search rules)) in
    let order : InOrder sorted = sorted_in_order all sorted same (all_distinct 0 (map entries xs) c.requires) by_key in
    record { same = same; in_order = order; legal = merges_legally (map entries xs) sorted c.requires order same }
