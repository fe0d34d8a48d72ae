-- one history more
use Rattle.slnf_shards.proofs.Stored.{taking-more}
use Rattle.slnf_shards.proofs.shards.Shards.into_histories.Goals as goal

pub loop-bucket-preserved : goal.loop-bucket-preserved
loop-bucket-preserved c =
    taking-more c.loop-bucket.histories.items c.push.new.self.items c.into_history.result c.in-Some.bucket _ _
    c.args.self c.in_ok-push.ensures.items c.in-Some.ensures.steps.0 c.into_history.ensures.value
    c.into_history.ensures.kept c.loop-bucket.invariant
