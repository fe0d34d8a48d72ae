-- The text of what the one ordinary box answers.
use Rattle.std.specs.Prelude.{ℕ, List, [], ◌∷◌, ◌++◌, decimal}
use Rattle.std.specs.List.{flat_map}
use Rattle.slnf_journal.specs.declared.box_lines.BoxLine.{BoxLine}
use Rattle.slnf_journal.specs.Verdicts.{verdict_line}

-- `PLACE LANE NUMBER VERDICT`, and a line feed
unfoldable pub box_line_text : BoxLine → List ℕ
box_line_text line = decimal line.place ++ 32 ∷ [] ++ verdict_line line.lane line.number line.verdict

-- one line for each answer
abbrev pub box_lines_text : List BoxLine → List ℕ
box_lines_text lines = flat_map box_line_text lines
