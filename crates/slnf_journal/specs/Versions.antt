-- What a version of the journal's text fixes, for its writing and for its reading: the first line, and the
-- lines of entries. A first line may tell how many entries there are.
use Rattle.std.specs.Prelude.{ℕ, if◌then◌else◌, List, ◌++◌, length, take, drop, Option, Some, None, Result}
use Rattle.std.specs.List.{flat_map}
use Rattle.std.specs.Str.{bytes_eq}
use Rattle.slnf_access.specs.declared.requests.Entry.{Entry}
use Rattle.slnf_journal.specs.Journal.{journal_header, entry_text}
use Rattle.slnf_journal.specs.Fields.{fields_of, entry_in}

pub data Version : Type 0 where
  One : Version

-- the first line of a journal of so many entries
abbrev pub first_line : Version → ℕ → List ℕ
first_line One count = journal_header

-- the line of an entry
abbrev pub line_of : Version → Entry → List ℕ
line_of One entry = entry_text entry

-- the text of these entries
abbrev pub text_in : Version → List Entry → List ℕ
text_in version entries = first_line version (length entries) ++ flat_map (line_of version) entries

-- what stands behind these bytes, where the text begins with them
abbrev pub behind : List ℕ → List ℕ → Option (List ℕ)
behind front bytes = if bytes_eq (take (length front) bytes) front then Some (drop (length front) bytes) else None

-- what stands behind the first line
abbrev pub body_of : Version → List ℕ → Option (List ℕ)
body_of One bytes = behind journal_header bytes

-- the entry of a line, or the number of its first field that no line can have there
abbrev pub line_entry : Version → List ℕ → Result Entry ℕ
line_entry One line = entry_in (fields_of line)
