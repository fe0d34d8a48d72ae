-- one lane more
use Rattle.std.proofs.Common.{◌++◌, ap, ◌∙◌, arith}
use Rattle.slnf_run.specs.Verdicts.{verdicts_from}
use Rattle.slnf_flight.specs.Lanes.{lane_sizes}
use Rattle.slnf_flight.specs.PlanSetting.{setting_of}
use Rattle.slnf_verdicts.proofs.Whole.{few_each, followed_run, lane_next, lanes_end}
use Rattle.slnf_verdicts.proofs.verdicts.verdicts_of.Goals as goal

pub row_of-requires-clause-few : goal.row_of-requires-clause-few
row_of-requires-clause-few c = few_each c.args.lanes.now c.requires.few_packets

pub row_of-requires-clause-followed : goal.row_of-requires-clause-followed
row_of-requires-clause-followed c i =
    followed_run (setting_of c.args.plan.now c.args.lanes.now) c.args.journal.now _ i c.requires.run
    (c.loop-lane.invariant.parts i)

pub loop-lane-init : goal.loop-lane-init
loop-lane-init c = record {
  parts = c.in_ok-parts.ensures;
  verdicts = ap (λ rows. rows ++ verdicts_from (setting_of c.args.plan.now c.args.lanes.now) c.args.journal.now 0
      (lane_sizes c.args.lanes.now)) c.new-rows.ensures.items;
}

pub loop-lane-preserved : goal.loop-lane-preserved
loop-lane-preserved c = record {
  parts = c.loop-lane.invariant.parts;
  verdicts = lane_next c.args.plan.now c.args.lanes.now c.args.journal.now _
      c.loop-lane.lane c.loop-lane.rows.items c.push.new.self.items _ c.in_ok-row.row (omega arith)
      c.loop-lane.invariant.parts
      c.in_ok-row.ensures c.in_ok-push.ensures.items c.loop-lane.invariant.verdicts;
}

pub returns : goal.returns
returns c =
    c.from_vec.ensures
    ∙ lanes_end c.args.plan.now c.args.lanes.now c.args.journal.now c.loop-lane.lane c.loop-lane.rows.items _
    (omega arith) c.loop-lane.invariant.verdicts
