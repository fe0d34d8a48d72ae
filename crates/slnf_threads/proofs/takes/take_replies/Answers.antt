-- one reply more
use Rattle.std.proofs.Common.{◌≤◌, ◌∙◌, length, arith}
use Rattle.slnf_access.specs.declared.requests.Reply.TheVariants.{Done}
use Rattle.slnf_threads.proofs.Taking.{goes_next, all_taken, next_answers}
use Rattle.slnf_threads.proofs.takes.take_replies.Goals as goal

pub answered-requires : goal.answered-requires
answered-requires g c =
    let r = c.requires in
    next_answers g.T.Items.work c.args.instance.now c.loop-reply.instance c.args.replies.now c.loop-reply.reply-index
    (Done 0) c.loop-reply-test.true c.loop-reply.invariant.taken r.0 r.1 r.2 r.3

pub loop-reply-preserved : goal.loop-reply-preserved
loop-reply-preserved g c = record {
  errand = c.answered.ensures.errand ∙ c.loop-reply.invariant.errand;
  taken = goes_next g.T.Items.work c.args.instance.now c.loop-reply.instance c.answered.new.self c.args.replies.now
      c.loop-reply.reply-index (Done 0) c.wanted-wanted.result c.loop-reply-test.true (record {
        asks = c.wanted-wanted.ensures.asks;
        wanted_is = c.wanted-wanted.ensures.wanted;
        stands = c.answered.ensures.stands;
        round = c.answered.ensures.round;
      }) c.loop-reply.invariant.taken;
}

pub returns-clause-taken : goal.returns-clause-taken
returns-clause-taken g c job own more can =
    let done : length c.args.replies.now ≤ c.loop-reply.reply-index = omega (arith) in
    all_taken g.T.Items.work c.args.instance.now c.loop-reply.instance c.args.replies.now c.loop-reply.reply-index done
    c.loop-reply.invariant.taken job own more can
