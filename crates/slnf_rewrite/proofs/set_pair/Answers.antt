use Rattle.std.proofs.Common.{ℕ, List, sym, subst, rules}
use Rattle.slnf_sum.specs.Sum.{Verifies}
use Rattle.slnf_rewrite.specs.Verified.{header_words, StaysVerified}
use Rattle.slnf_rewrite.proofs.set_pair.Goals as goal

pub returns-clause-exact : goal.returns-clause-exact
returns-clause-exact c = search rules

pub returns-clause-header : goal.returns-clause-header
returns-clause-header c verified =
    subst (λ (after : List ℕ). Verifies (header_words after c.args.view.now))
    (sym (returns-clause-exact c)) (c.header_check-header.ensures.verifies verified)

pub returns-clause-transport : goal.returns-clause-transport
returns-clause-transport c made =
    subst (λ (after : List ℕ). StaysVerified c.args.frame.now after c.args.view.now)
    (sym (returns-clause-exact c)) (c.transport_check-transport.ensures.verifies made)
