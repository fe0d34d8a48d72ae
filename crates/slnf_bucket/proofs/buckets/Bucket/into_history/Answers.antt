-- what is kept has a history
use Rattle.slnf_bucket.proofs.Laws.{IsHistory-from_kept}
use Rattle.slnf_bucket.proofs.buckets.Bucket.into_history.Goals as goal

pub returns-clause-history : goal.returns-clause-history
returns-clause-history c = rw (← c.self.view_is) (IsHistory-from_kept _ c.self.invariant.is_kept)
