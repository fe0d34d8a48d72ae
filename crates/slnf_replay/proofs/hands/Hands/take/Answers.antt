use Rattle.std.proofs.Common.{None, ap, ◌∙◌}
use Rattle.slnf_replay.specs.Hands.{hand_in, with_hand}
use Rattle.slnf_replay.proofs.ItemKeys.{found_at, updated}
use Rattle.slnf_replay.proofs.hands.Hands.take.Goals as goal

pub returns-clause-value : goal.returns-clause-value
returns-clause-value c =
    c.remove.ensures.value ∙ found_at c.self.inside.hands.entries c.args.incarnation c.args.item
    ∙ ap (λ entries. hand_in entries c.args.incarnation c.args.item) c.self.view_is

pub returns-clause-gone : goal.returns-clause-gone
returns-clause-gone c =
    updated c.self.inside.hands.entries c.remove.new.self.entries c.args.incarnation c.args.item None
    c.remove.ensures.updates.0
    ∙ ap (λ entries. with_hand (hand_in entries) c.args.incarnation c.args.item None) c.self.view_is
