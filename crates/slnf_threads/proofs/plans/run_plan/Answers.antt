-- the epochs have passed, and their journal is a run of the plan
use Rattle.std.proofs.Common.{◌<◌, ◌^◌, sym, ap, ◌∙◌, subst, arith}
use Rattle.slnf_run.specs.Verdicts.{left_in}
use Rattle.slnf_setting.specs.Runs.{IsRunOfPlan}
use Rattle.slnf_ledger.proofs.Filled.{left_few}
use Rattle.slnf_threads.proofs.Outcomes.{told_at_end, verdicts_at_end, never_spent}
use Rattle.slnf_threads.proofs.plans.run_plan.Goals as goal

pub unreachable-requires : goal.unreachable-requires
unreachable-requires g c =
    never_spent c.args.plan.now c.args.lanes.now c.know_types.ensures c.requires.few_packets c.pass_epochs.new.run
    c.in_ok-journal.journal c.in_ok-journal.ensures (c.in_ok-passed.ensures.stuck c.if-not-passed.true)

pub fill-requires : goal.fill-requires
fill-requires g c =
    let passed = c.in_ok-passed.ensures.passed c.if-not-passed.false in
    omega (arith, c.requires.few_lanes, passed.under_way.lanes_are)

pub left_in-left-requires : goal.left_in-left-requires
left_in-left-requires g c =
    let passed = c.in_ok-passed.ensures.passed c.if-not-passed.false in
    subst (λ l. left_in l < 2 ^ 64) (sym (c.as_slice.ensures ∙ c.in_ok-verdicts.ensures))
    (left_few c.pass_epochs.new.run.ledger c.args.lanes.now passed.under_way.fits c.requires.few_packets)

pub returns : goal.returns
returns g c =
    let plan = c.args.plan.now in
    let lanes = c.args.lanes.now in
    let journal = c.in_ok-journal.journal in
    let told = told_at_end plan lanes c.know_types.ensures c.requires.few_packets c.pass_epochs.new.run journal
    c.in_ok-journal.ensures (c.in_ok-passed.ensures.passed c.if-not-passed.false) in
    let run : IsRunOfPlan plan lanes journal = told.0 in
    record {
      stamps = told.1;
      run = run.run;
      one_box = run.one_box;
      pairs = run.pairs;
      none_ill = run.none_ill;
      bounded = run.bounded;
      few = run.few;
      well = run.well;
      verdicts = c.in_ok-verdicts.ensures
          ∙ verdicts_at_end plan lanes c.know_types.ensures c.requires.few_packets c.pass_epochs.new.run journal
          c.in_ok-journal.ensures (c.in_ok-passed.ensures.passed c.if-not-passed.false);
      left = c.left_in-left.ensures ∙ ap left_in c.as_slice.ensures;
    }
