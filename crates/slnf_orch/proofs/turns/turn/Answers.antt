-- the access that is wanted, or none
use Rattle.std.proofs.Common.{◌+◌, sym, ap, ◌∙◌}
use Rattle.slnf_run.specs.Parts.{part_of}
use Rattle.slnf_orch.specs.Actors.{job_at}
use Rattle.slnf_orch.proofs.Turning.{room_left, turn_made, turn_none, none_there}
use Rattle.slnf_orch.proofs.turns.turn.Goals as goal

pub access-requires : goal.access-requires
access-requires g c =
    let r = c.requires.room in
    record { room = room_left r.stage r.list c.args.number _ _ c.in-Some.ask r.kept r.at.clock_is r.few }

pub returns-in_default-clause-turned : goal.returns-in_default-clause-turned
returns-in_default-clause-turned g c stage m actor base h at =
    turn_none g.T.Items.work stage m c.args.number actor c.args.shards.now c.args.instance.now c.args.clock.now h at
    (sym (c.wanted.ensures.wanted (job_at stage c.args.number actor) (part_of (stage.base + c.args.number) m)
    at.stands)
    ∙ none_there c.wanted.result c.in_default.not-Some)

pub returns-clause-turned : goal.returns-clause-turned
returns-clause-turned g c stage m actor base h at =
    turn_made g.T.Items.work stage m c.args.number actor c.args.shards.now c.access.new.shards c.args.instance.now
    c.answered.new.self c.args.clock.now _ _ c.in-Some.ask c.in_ok-reply.reply h at (sym c.in-Some.ensures.asks)
    (sym (c.in-Some.ensures.wanted (job_at stage c.args.number actor) (part_of (stage.base + c.args.number) m)
    at.stands))
    (ap (λ b. b + c.args.number) (sym base)) (record {
      made = c.in_ok-reply.ensures.made;
      reply_is = c.in_ok-reply.ensures.reply;
      stamp_is = c.in_ok-reply.ensures.stamp;
    }) c.answered.ensures.stands
