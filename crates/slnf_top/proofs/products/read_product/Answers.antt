use Rattle.std.proofs.Common.{ℕ, subst}
use Rattle.std.specs.Prelude.{IfErr}
use Rattle.slnf_shelf.specs.declared.shelf.Call.TheVariants.{Read}
use Rattle.slnf_shelf.specs.Shelf.{Rose}
use Rattle.slnf_top.specs.Readings.{limit_of}
use Rattle.slnf_top.specs.Refused.{Refuses, IsOver}
use Rattle.slnf_top.proofs.RunFiles.{product_if_err}
use Rattle.slnf_top.proofs.products.read_product.Goals as goal

pub returns-clause-refused : goal.returns-clause-refused
returns-clause-refused g c =
    let name = c.args.name.now in
    let a = g.S.Shelf.faults c.args.shelf.now in
    let b = g.S.Shelf.faults c.read_within.new.shelf in
    let held = g.S.Shelf.holds c.args.shelf.now in
    let holds = g.S.Shelf.holds c.read_within.new.shelf in
    product_if_err c.args.product name a b held holds c.read_within.result c.read_within.ensures.counts
    c.read_within.ensures.still c.read_within.ensures.files
    (subst (λ (most : ℕ). IfErr c.read_within.result
    (Refuses (Rose Read name a b) (IsOver (limit_of c.args.product) most (held name))))
    c.most.ensures.value
    (subst (λ (limit : ℕ). IfErr c.read_within.result (Refuses (Rose Read name a b) (IsOver limit c.most.result (held name))))
    c.limit.ensures c.read_within.ensures.refused))
