use Rattle.toml.specs.View.{table_view}
use Rattle.slnf_plan.specs.Plain.{plain_function}
use Rattle.slnf_plan.specs.Plans.{backend_count, epochs_row}
use Rattle.slnf_plan.proofs.Laws.{gives_same}
use Rattle.slnf_plan.proofs.reader.epochs_at.Goals as goal

pub returns : goal.returns
unfolding epochs_row
returns c =
    gives_same c.demanded.result
    (epochs_row c.args.kind (backend_count (plain_function c.args.function.now)) (table_view c.args.table.now))
    (rw (← c.backend_count.ensures) c.demanded.ensures)
