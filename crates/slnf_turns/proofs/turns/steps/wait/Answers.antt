use Rattle.std.proofs.Common.{rules, ap, ◌∙◌}
use Rattle.slnf_turns.proofs.Keeps.{looks}
use Rattle.slnf_turns.proofs.turns.steps.wait.Goals as goal

pub load-requires : goal.load-requires
load-requires g c = let w = c.requires.waits in (
  search rules,
  search rules,
  looks g.B.Chronicle.lines g.B.Chronicle.place
      g.B.Chronicle.places _ _ c.loop.place.me c.args.shard w.0 (ap (λ m. m.0.stage) c.loop.invariant.1 ∙ w.1),
)
