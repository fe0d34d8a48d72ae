-- the box's answer, by its definition
use Rattle.std.proofs.Common.{ap, subst, ◌∙◌}
use Rattle.slnf_journal.specs.declared.box_lines.BoxLine.{BoxLine}
use Rattle.slnf_replay.specs.Boxes.{arrival_of}
use Rattle.slnf_replay.proofs.answers.answer_at.Goals as goal

pub returns-clause-answer : goal.returns-clause-answer
returns-clause-answer g c plan_function epoch content of keeps =
    ap (λ v. let line : BoxLine = record {
      place = c.args.place;
      lane = c.args.sighting.now.lane;
      number = c.args.entry.now.item;
      verdict = v;
    } in line)
    (c.in_ok-verdict.ensures.verdict content keeps
    ∙ ap (λ choice. (g.B.OrdinaryBox.definition c.args.ordinary.now).verdict content
    (arrival_of c.args.sighting.now.packet choice)) (c.choice_at-choice.ensures plan_function epoch of))

pub returns-clause-next : goal.returns-clause-next
returns-clause-next g c plan_function epoch content of keeps =
    subst (λ choice. g.B.OrdinaryBox.Keeps c.answer.new.self ((g.B.OrdinaryBox.definition c.args.ordinary.now).next
    content (arrival_of c.args.sighting.now.packet choice))) (c.choice_at-choice.ensures plan_function epoch of)
    (c.in_ok-verdict.ensures.next content keeps)
