-- what a plan's type says of its epoch
use Rattle.std.proofs.Common.{◌≡◌, ◌≤◌, true, nat_lt, Some, length, slice_get, sym, subst, arith}
use Rattle.std.specs.List.{list_all}
use Rattle.slnf_plan.specs.Ranges.{actor_count}
use Rattle.slnf_flight.specs.Actors.{era_of_epoch}
use Rattle.slnf_crew.proofs.Pushes.{at_index}
use Rattle.slnf_crew.proofs.PlanEpochs.{actors_count, is_epoch, may_sweep}
use Rattle.slnf_crew.proofs.crews.epoch_of.Goals as goal

pub returns-clause-there : goal.returns-clause-there
returns-clause-there c =
    at_index c.args.plan.now.epochs c.as_slice.result.now
    c.args.number c.index-as_slice-number.result c.as_slice.ensures c.requires
    c.index-as_slice-number.is

pub returns-clause-actors : goal.returns-clause-actors
returns-clause-actors c =
    let epoch = c.index-as_slice-number.result in
    let at : slice_get c.args.plan.now.epochs c.args.number ≡ Some epoch =
    at_index c.args.plan.now.epochs c.as_slice.result.now c.args.number epoch c.as_slice.ensures c.requires
    c.index-as_slice-number.is in
    let count : length (era_of_epoch epoch).actors ≡ actor_count epoch = actors_count epoch in
    let few : actor_count epoch ≤ 33 = (is_epoch c.args.plan.now c.args.number epoch at).actors in omega arith

pub returns-clause-instances : goal.returns-clause-instances
returns-clause-instances c =
    let epoch = c.index-as_slice-number.result in
    let count : length (era_of_epoch epoch).actors ≡ actor_count epoch = actors_count epoch in omega arith

pub returns-clause-lanes : goal.returns-clause-lanes
returns-clause-lanes c =
    let epoch = c.index-as_slice-number.result in
    (is_epoch c.args.plan.now c.args.number epoch
    (at_index c.args.plan.now.epochs c.as_slice.result.now c.args.number epoch c.as_slice.ensures c.requires
    c.index-as_slice-number.is)).lanes

pub returns-clause-schedule : goal.returns-clause-schedule
returns-clause-schedule c =
    let epoch = c.index-as_slice-number.result in
    subst (λ n. list_all (λ k. nat_lt k n) epoch.schedule ≡ true) (sym (actors_count epoch))
    (is_epoch c.args.plan.now c.args.number epoch
    (at_index c.args.plan.now.epochs c.as_slice.result.now c.args.number epoch c.as_slice.ensures c.requires
    c.index-as_slice-number.is)).schedule

pub returns-clause-sweep : goal.returns-clause-sweep
returns-clause-sweep c function =
    let epoch = c.index-as_slice-number.result in
    may_sweep c.args.plan.now c.args.number epoch function
    (at_index c.args.plan.now.epochs c.as_slice.result.now c.args.number epoch c.as_slice.ensures c.requires
    c.index-as_slice-number.is)
