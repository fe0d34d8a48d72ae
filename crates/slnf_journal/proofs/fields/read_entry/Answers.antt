use Rattle.std.proofs.Common.{ap, ◌∙◌}
use Rattle.slnf_journal.specs.Fields.{entry_in}
use Rattle.slnf_journal.proofs.Cuts.{left_at-start}
use Rattle.slnf_journal.proofs.fields.read_entry.Goals as goal

pub returns : goal.returns
returns c = c.entry_at.ensures ∙ ap (λ left. entry_in (record { number = 1; left = left })) (left_at-start c.args.line.now)
