use Rattle.slnf_view.proofs.Laws.{LiesWithin-from_view}
use Rattle.slnf_rewrite.proofs.apply.Goals as goal

pub set_pair-requires-clause-lies : goal.set_pair-requires-clause-lies
set_pair-requires-clause-lies c =
    LiesWithin-from_view c.args.frame.now c.args.view.now c.requires

pub set_pair-requires-in-Dest-clause-lies : goal.set_pair-requires-in-Dest-clause-lies
set_pair-requires-in-Dest-clause-lies c =
    LiesWithin-from_view c.args.frame.now c.args.view.now c.requires
