use Rattle.slnf_setting.proofs.PlanRuns.{plan_so_far, items_so_far, fewer_so_far, stamps_so_far, clocks_so_far, shards_so_far}
use Rattle.slnf_setting.proofs.theorems.plan_passes_few.Goals as goal

pub returns : goal.returns
returns c = record {
  so_far = plan_so_far;
  items = items_so_far;
  fewer = fewer_so_far;
  stamps = stamps_so_far;
  clocks = clocks_so_far;
  shards = shards_so_far;
}
