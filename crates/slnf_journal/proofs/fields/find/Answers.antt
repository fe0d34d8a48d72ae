use Rattle.slnf_journal.proofs.Cuts.{found}
use Rattle.slnf_journal.proofs.fields.find.Goals as goal

pub returns : goal.returns
returns c = found c.args.byte c.args.bytes.now c.memchr.result c.memchr.ensures
