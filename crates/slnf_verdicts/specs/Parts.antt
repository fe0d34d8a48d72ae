-- The entries of a journal by their incarnations.
use Rattle.std.specs.Prelude.{ℕ, zero, suc, List, []}
use Rattle.slnf_access.specs.declared.requests.Entry.{Entry}
use Rattle.slnf_verdicts.specs.declared.parts.Parts.{Parts}
use Rattle.slnf_verdicts.specs.declared.parts.Parts.TheVariants.{Alone, Each}
use Rattle.slnf_verdicts.specs.Tables.{lists, list_at}

-- the entries of this incarnation
abbrev pub part_in : Parts → ℕ → List Entry
part_in (Alone entries) zero = entries.now
part_in (Alone entries) (suc incarnation) = []
part_in (Each table) incarnation = list_at (lists table.items) incarnation
