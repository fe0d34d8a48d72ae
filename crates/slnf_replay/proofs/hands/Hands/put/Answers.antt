use Rattle.std.proofs.Common.{Some, ap, ◌∙◌}
use Rattle.slnf_replay.specs.Hands.{hand_in, with_hand}
use Rattle.slnf_replay.proofs.ItemKeys.{updated}
use Rattle.slnf_replay.proofs.hands.Hands.put.Goals as goal

pub returns : goal.returns
returns c =
    updated c.self.inside.hands.entries c.insert.new.self.entries c.args.incarnation c.args.item (Some c.args.hand)
    c.in_ok-insert.ensures.updates.0
    ∙ ap (λ entries. with_hand (hand_in entries) c.args.incarnation c.args.item (Some c.args.hand)) c.self.view_is
