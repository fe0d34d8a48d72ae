use Rattle.std.proofs.Common.{◌≤◌}
use Rattle.toml.specs.View.{table_view}
use Rattle.slnf_plan.specs.Plans.{shards_row}
use Rattle.slnf_plan.proofs.Laws.{given_ok}
use Rattle.slnf_plan.proofs.PlanLaws.{shards_within}
use Rattle.slnf_plan.proofs.reader.shards_at.Goals as goal

pub returns-clause-in_range : goal.returns-clause-in_range
unfolding shards_row
returns-clause-in_range c =
    let ms = table_view c.args.table.now in
    given_ok (λ n. n) (λ n. (1 ≤ n) × (n ≤ 64)) c.defaulted.result (shards_row ms) (shards_within ms) c.defaulted.ensures
