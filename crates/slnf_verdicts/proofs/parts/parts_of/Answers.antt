-- all entries are of incarnation 0
use Rattle.std.proofs.Common.{sym, ◌∙◌}
use Rattle.slnf_verdicts.proofs.Alone.{all_alone}
use Rattle.slnf_verdicts.proofs.parts.parts_of.Goals as goal

pub returns-then-is_alone : goal.returns-then-is_alone
returns-then-is_alone c = all_alone c.args.journal (sym c.is_alone.ensures ∙ c.if-is_alone.true)
