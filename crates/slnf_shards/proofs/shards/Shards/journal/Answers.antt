-- the merged histories are the list in order
use Rattle.std.proofs.Common.{◌∙◌, subst}
use Rattle.slnf_merge.specs.Merge.{all_of, MergesLegally}
use Rattle.std.specs.List.Sorted.{IsPermutation}
use Rattle.slnf_shards.proofs.Laws.{merge_of_parts}
use Rattle.slnf_shards.proofs.shards.Shards.journal.Goals as goal

pub returns-clause-value : goal.returns-clause-value
returns-clause-value c epoch m parts =
    let same = subst (λ hs. IsPermutation (all_of hs) c.in_ok-merged.merged.items) c.in_ok-histories.ensures.value
    c.in_ok-merged.ensures.same in
    c.from_vec.ensures
    ∙ merge_of_parts epoch m c.args.self c.in_ok-merged.merged.items parts c.in_ok-histories.ensures.stored.in_place
    c.in_ok-merged.ensures.in_order same

pub returns-clause-legal : goal.returns-clause-legal
returns-clause-legal c =
    let stored = c.in_ok-histories.ensures.stored in
    let merges = subst (λ hs. MergesLegally hs c.in_ok-merged.merged.items) c.in_ok-histories.ensures.value
    c.in_ok-merged.ensures.legal in
    rw c.from_vec.ensures (merges _ stored.own stored.legal)
