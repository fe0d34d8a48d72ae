use Rattle.std.proofs.Common.{rules}
use Rattle.slnf_turns.proofs.Keeps.{forks}
use Rattle.slnf_turns.proofs.Resting.{resting_lives}
use Rattle.slnf_turns.proofs.turns.steps.cut.Goals as goal

pub split_seat-next-requires : goal.split_seat-next-requires
split_seat-next-requires g c = let root = c.args.root.now in (
  search rules,
  search rules,
  forks g.B.Chronicle.lines g.B.Chronicle.place
      g.B.Chronicle.places root.id root.me.0 c.requires.root (resting_lives _ _ c.requires.resting) c.requires.few,
)
