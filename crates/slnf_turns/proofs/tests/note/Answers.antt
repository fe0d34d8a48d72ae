use Rattle.std.proofs.Common.{◌≡◌, ℕ, Bool, true, false, cond, List, [], ◌∷◌, ◌++◌, map, refl, sym, ap, ◌∙◌, append-nil}
use mathlib.Core.List.{map-append}
use Rattle.slnf_turns.specs.declared.views.Line.{Line}
use Rattle.slnf_turns.specs.Views.{AllOf, number_line}
use Rattle.slnf_turns.proofs.tests.note.Goals as goal

abbrev line_of : ℕ × ℕ → Line
line_of line = number_line line.0 line.1

-- whether or not the line was added
noted : (added : Bool) (old new : List (ℕ × ℕ)) (n w : ℕ) → new ≡ cond added (old ++ (n, w) ∷ []) old
    → (more : List Line) × (map line_of new ≡ map line_of old ++ more) × AllOf n more
noted true old new n w e = (number_line n w ∷ [], ap (map line_of) e ∙ map-append line_of old ((n, w) ∷ []), (refl, tt))
noted false old new n w e = ([], ap (map line_of) e ∙ sym (append-nil (map line_of old)), tt)

pub returns-clause-lines : goal.returns-clause-lines
returns-clause-lines c =
    noted _ c.args.held.now.value.lines.items c.push.new.self.items c.args.number c.args.round c.push.ensures.items
