use Rattle.slnf_journal.proofs.Cuts.{more_fields, no_more_fields}
use Rattle.slnf_journal.proofs.fields.ending_at.Goals as goal

pub returns-then-place-line : goal.returns-then-place-line
returns-then-place-line c = more_fields c.args.entry c.args.line.now c.args.place.at c.args.place.number c.if-place-line.true

pub returns-else-place-line : goal.returns-else-place-line
returns-else-place-line c = no_more_fields c.args.entry c.args.line.now c.args.place.at c.args.place.number c.if-place-line.false
