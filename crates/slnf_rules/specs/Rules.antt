-- What a pass by one rule answers.
use Rattle.std.specs.Prelude.{ℕ, Option, Some, None, List, []}
use Rattle.slnf_access.specs.declared.requests.Entry.{Entry}
use Rattle.slnf_run.specs.Made.{Grown}
use Rattle.slnf_local.specs.Rules.{BreaksAt}

-- the first entry that breaks the rule has this place, counted from 1, and none breaks it where there is no place
abbrev pub FirstBroken : (List Entry → Entry → Type 0) → List Entry → Option ℕ → Type 0
FirstBroken Q j None = Grown Q [] j
FirstBroken Q j (Some place) = BreaksAt Q j place
