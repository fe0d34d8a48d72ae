-- the place that the search finds parts the history
use Rattle.std.proofs.Common.{◌∙◌, Bool, arith, rules}
use Rattle.std.specs.Prelude.{nat_lt, nat_le}
use Rattle.std.proofs.lemmas.Fn.{always_returns_same}
use Rattle.slnf_access.specs.declared.requests.Entry.{Entry}
use Rattle.slnf_ranges.proofs.Histories.{below_first, parts_at, from_is_other}
use Rattle.slnf_ranges.proofs.cuts.split.Goals as goal

pub returns : goal.returns
returns c =
    let es = c.args.history.now in
    let bound = c.args.bound in
    let p : Entry → Bool = λ e. nat_lt e.stamp bound in
    let q : Entry → Bool = λ e. nat_le bound e.stamp in
    let point = c.partition_point.ensures.partitioned p (always_returns_same _ _ _ (λ a r f h. search rules))
    (below_first c.requires.0 bound es c.requires.1) in
    let parts = parts_at p q (from_is_other bound) es c.partition_point.result c.partition_point.ensures.bound
    (λ i d l. point.0 i d (omega arith) l) (λ i d l m. point.1 i d l m) in
    record { front = c.split_at.ensures.front ∙ parts.0; back = c.split_at.ensures.back ∙ parts.1 }
