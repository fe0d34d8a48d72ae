-- the epochs have passed, and their journal is a run of the plan
use Rattle.std.proofs.Common.{◌<◌, ◌^◌, sym, ap, ◌∙◌, subst}
use Rattle.slnf_run.specs.Verdicts.{left_in}
use Rattle.slnf_ledger.proofs.Filled.{left_few}
use Rattle.slnf_orch.proofs.Closing.{scheduled_last, verdicts_last}
use Rattle.slnf_orch.proofs.plans.step_plan.Goals as goal

pub left_in-left-requires : goal.left_in-left-requires
left_in-left-requires c =
    subst (λ l. left_in l < 2 ^ 64) (sym (c.as_slice.ensures ∙ c.in_ok-verdicts.ensures))
    (left_few c.in_ok-shards.ledger c.args.lanes.now c.in_ok-shards.ensures.under_way.fits c.requires.few_packets)

pub returns : goal.returns
returns c =
    let scheduled = scheduled_last c.args.plan.now c.args.lanes.now c.in_ok-shards.shards c.in_ok-shards.ledger
    c.in_ok-shards.ensures c.in_ok-journal.journal c.in_ok-journal.ensures.value in
    let runs = c.plan_runs_so.ensures.runs c.args.plan.now c.args.lanes.now c.in_ok-journal.journal
    c.know_types.ensures c.requires.few_packets scheduled in
    record {
      scheduled = scheduled;
      stamps = c.plan_runs_so.ensures.stamps c.args.plan.now c.args.lanes.now c.in_ok-journal.journal scheduled;
      run = runs.run;
      one_box = runs.one_box;
      pairs = runs.pairs;
      none_ill = runs.none_ill;
      bounded = runs.bounded;
      few = runs.few;
      well = runs.well;
      verdicts = c.in_ok-verdicts.ensures
          ∙ verdicts_last c.args.plan.now c.args.lanes.now c.in_ok-shards.shards c.in_ok-shards.ledger
          c.in_ok-shards.ensures c.in_ok-journal.journal c.in_ok-journal.ensures.value;
      left = c.left_in-left.ensures ∙ ap left_in c.as_slice.ensures;
    }
