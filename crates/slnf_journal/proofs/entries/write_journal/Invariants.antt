-- the lines so far, and those of the entries that are left, are the text
use Rattle.std.proofs.Common.{◌≡◌, ◌++◌, drop}
use Rattle.std.specs.List.{flat_map}
use Rattle.slnf_journal.specs.Journal.{entry_text, journal_text}
use Rattle.slnf_journal.proofs.entries.write_journal.Given as goal

abbrev pub invariant-loop-entry : goal.invariant-loop-entry
invariant-loop-entry l = l.lines ++ flat_map entry_text (drop l.entry-index l.entries) ≡ journal_text l.entries
