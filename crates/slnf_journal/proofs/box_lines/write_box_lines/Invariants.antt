-- the lines so far, and those of the answers that are left, are the text
use Rattle.std.proofs.Common.{◌≡◌, ◌++◌, drop}
use Rattle.std.specs.List.{flat_map}
use Rattle.slnf_journal.specs.BoxLines.{box_line_text, box_lines_text}
use Rattle.slnf_journal.proofs.box_lines.write_box_lines.Given as goal

abbrev pub invariant-loop-answer : goal.invariant-loop-answer
invariant-loop-answer l =
    l.lines ++ flat_map box_line_text (drop l.answer-index l.answers) ≡ box_lines_text l.answers
