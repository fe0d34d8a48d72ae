use Rattle.std.proofs.Common.{ℕ, List, [], ◌∷◌, ◌∙◌, subst}
use Rattle.std.specs.Prelude.{OnOk}
use Rattle.slnf_top.specs.declared.products.Product.TheVariants.{Output}
use Rattle.slnf_top.specs.Readings.{ProductFile}
use Rattle.slnf_top.specs.Reads.{WerePassed}
use Rattle.slnf_top.proofs.products.read_output.Goals as goal

pub returns-clause-read : goal.returns-clause-read
returns-clause-read g c =
    subst (λ (name : List ℕ). OnOk c.read_product.result (WerePassed (ProductFile Output name ∷ [])
    (g.S.Shelf.faults c.args.shelf.now) (g.S.Shelf.faults c.read_product.new.shelf)
    (g.S.Shelf.holds c.args.shelf.now) (g.S.Shelf.holds c.read_product.new.shelf)))
    (c.as_str.ensures.value ∙ c.in_ok-name.ensures) c.read_product.ensures.read
