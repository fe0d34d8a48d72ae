use Rattle.std.proofs.Common.{rules}
use Rattle.slnf_view.proofs.Laws.{LiesWithin-from_view}
use Rattle.slnf_view.proofs.view_frame.Goals as goal

pub returns-clause-of_frame : goal.returns-clause-of_frame
returns-clause-of_frame c = (c.args.link, search rules)

pub returns-clause-within : goal.returns-clause-within
returns-clause-within c =
    LiesWithin-from_view c.args.frame.now _ (returns-clause-of_frame c)
