-- the box answers what the run decided
use Rattle.std.proofs.Common.{◌≡◌, IfOk, ◌∙◌, subst}
use Rattle.slnf_journal.specs.BoxLines.{box_lines_text}
use Rattle.slnf_replay.proofs.DecidedAnswers.{decided_answers}
use Rattle.slnf_replay.proofs.replays.box_lines.Goals as goal

pub returns-clause-decided : goal.returns-clause-decided
returns-clause-decided c =
    subst (λ lines. IfOk c.write_box_lines.result (λ bytes. bytes.items ≡ box_lines_text lines))
    (c.as_slice.ensures.value ∙ c.in_ok-answers.ensures
    ∙ decided_answers c.args.plan.now c.args.lanes.now c.args.journal.now c.know_types.ensures c.requires.run)
    c.write_box_lines.ensures
