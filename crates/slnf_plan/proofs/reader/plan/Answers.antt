use Rattle.toml.specs.View.{table_view}
use Rattle.slnf_plan.proofs.PlanLaws.{epochs_keep}
use Rattle.slnf_plan.proofs.reader.plan.Goals as goal

pub invariant_of-result-clause-some_epochs : goal.invariant_of-result-clause-some_epochs
invariant_of-result-clause-some_epochs c = (epochs_keep c.in_ok-kind.kind c.in_ok-function.function
    (table_view c.args.table.now) c.in_ok-epochs.epochs c.in_ok-function.ensures.gives c.in_ok-epochs.ensures).some

pub invariant_of-result-clause-few_epochs : goal.invariant_of-result-clause-few_epochs
invariant_of-result-clause-few_epochs c = (epochs_keep c.in_ok-kind.kind c.in_ok-function.function
    (table_view c.args.table.now) c.in_ok-epochs.epochs c.in_ok-function.ensures.gives c.in_ok-epochs.ensures).few

pub invariant_of-result-clause-instances_fit : goal.invariant_of-result-clause-instances_fit
invariant_of-result-clause-instances_fit c =
    (epochs_keep c.in_ok-kind.kind c.in_ok-function.function (table_view c.args.table.now)
    c.in_ok-epochs.epochs c.in_ok-function.ensures.gives c.in_ok-epochs.ensures).instances

pub invariant_of-result-clause-lanes_apart : goal.invariant_of-result-clause-lanes_apart
invariant_of-result-clause-lanes_apart c = (epochs_keep c.in_ok-kind.kind c.in_ok-function.function
    (table_view c.args.table.now) c.in_ok-epochs.epochs c.in_ok-function.ensures.gives c.in_ok-epochs.ensures).lanes

pub invariant_of-result-clause-places_fit : goal.invariant_of-result-clause-places_fit
invariant_of-result-clause-places_fit c = (epochs_keep c.in_ok-kind.kind c.in_ok-function.function
    (table_view c.args.table.now) c.in_ok-epochs.epochs c.in_ok-function.ensures.gives c.in_ok-epochs.ensures).places

pub invariant_of-result-clause-sweeps_fit : goal.invariant_of-result-clause-sweeps_fit
invariant_of-result-clause-sweeps_fit c = (epochs_keep c.in_ok-kind.kind c.in_ok-function.function
    (table_view c.args.table.now) c.in_ok-epochs.epochs c.in_ok-function.ensures.gives c.in_ok-epochs.ensures).sweeps

pub invariant_of-result-clause-actors_fit : goal.invariant_of-result-clause-actors_fit
invariant_of-result-clause-actors_fit c = (epochs_keep c.in_ok-kind.kind c.in_ok-function.function
    (table_view c.args.table.now) c.in_ok-epochs.epochs c.in_ok-function.ensures.gives c.in_ok-epochs.ensures).actors
