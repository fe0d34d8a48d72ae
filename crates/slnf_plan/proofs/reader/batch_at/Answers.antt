use Rattle.std.proofs.Common.{◌≤◌}
use Rattle.toml.specs.View.{table_view}
use Rattle.slnf_plan.specs.Plans.{batch_row}
use Rattle.slnf_plan.proofs.Laws.{given_ok}
use Rattle.slnf_plan.proofs.PlanLaws.{batch_within}
use Rattle.slnf_plan.proofs.reader.batch_at.Goals as goal

pub returns-clause-in_range : goal.returns-clause-in_range
unfolding batch_row
returns-clause-in_range c =
    let ms = table_view c.args.table.now in
    given_ok (λ n. n) (λ n. (1 ≤ n) × (n ≤ 32)) c.defaulted.result (batch_row ms) (batch_within ms) c.defaulted.ensures
