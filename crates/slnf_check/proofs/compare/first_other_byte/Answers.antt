-- texts that are the same differ nowhere
use Rattle.std.proofs.Common.{None, ap, sym, ◌∙◌}
use Rattle.std.specs.Cmp.Lexicographic.{same_text}
use Rattle.slnf_check.specs.Compare.{first_other_byte}
use Rattle.slnf_check.proofs.Agreement.{one_text}
use Rattle.slnf_check.proofs.compare.first_other_byte.Goals as goal

pub returns-then-eq-clause-place : goal.returns-then-eq-clause-place
returns-then-eq-clause-place c =
    one_text c.args.ones.now
    ∙ ap (first_other_byte c.args.ones.now)
    (same_text c.args.ones.now c.args.others.now (sym c.if-eq.true ∙ c.eq.ensures))
