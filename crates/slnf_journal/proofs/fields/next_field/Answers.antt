use Rattle.std.proofs.Common.{arith}
use Rattle.std.proofs.lemmas.List.{take_rest}
use Rattle.slnf_journal.proofs.Cuts.{no_field, some_field}
use Rattle.slnf_journal.proofs.fields.next_field.Goals as goal

pub returns-then-place-line : goal.returns-then-place-line
returns-then-place-line c = no_field c.args.line.now c.args.place.at c.args.place.number c.if-place-line.true

pub returns : goal.returns
returns c =
    some_field c.args.line.now _ c.args.place.at c.args.place.number c.unwrap_or-len.result c.find.result c.if-place-line.false
    (take_rest c.args.line.now c.args.place.at) c.unwrap_or-len.ensures c.find.ensures
