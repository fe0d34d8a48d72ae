-- the box keeps what its definition has after the entries so far, and the answers so far with those of the entries that
-- are left are all
use Rattle.std.proofs.Common.{◌≡◌}
use Rattle.slnf_run.specs.Boxes.{content_after}
use Rattle.slnf_flight.specs.PlanSetting.{setting_of}
use Rattle.slnf_replay.proofs.Answered.{AreAnswersFrom}
use Rattle.slnf_replay.proofs.answers.answer_all.Given as goal

abbrev pub invariant-loop-number : goal.invariant-loop-number
invariant-loop-number g l = record {
  same : g.B.OrdinaryBox.definition l.ordinary ≡ g.B.OrdinaryBox.definition l.fn.ordinary;
  keeps : g.B.OrdinaryBox.Keeps l.ordinary (content_after (setting_of l.plan l.lanes).scene
      (g.B.OrdinaryBox.definition l.fn.ordinary) l.journal l.number);
  answers : AreAnswersFrom (setting_of l.plan l.lanes) (g.B.OrdinaryBox.definition l.fn.ordinary) l.journal l.number
      l.answers.items;
}
