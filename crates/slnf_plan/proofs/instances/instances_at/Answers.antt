use Rattle.std.proofs.Common.{◌≤◌, length}
use Rattle.toml.specs.View.{table_view}
use Rattle.slnf_plan.specs.Plans.{instances_row}
use Rattle.slnf_plan.proofs.Laws.{given_ok}
use Rattle.slnf_plan.proofs.EpochLaws.{instances_row_few}
use Rattle.slnf_plan.proofs.instances.instances_at.Goals as goal

pub returns-clause-few : goal.returns-clause-few
unfolding instances_row
returns-clause-few c =
    let ms = table_view c.args.table.now in
    given_ok (λ r. r) (λ r. length r ≤ 32) c.required.result (instances_row ms) (instances_row_few ms) c.required.ensures
