-- What bytes say as a journal's text, or where they first aren't one.
use Rattle.std.specs.Prelude.{◌≡◌, ℕ, ◌+◌, List, [], ◌∷◌, Option, Some, None, Result, Ok, Err}
use Rattle.slnf_access.specs.declared.requests.Entry.{Entry}
use Rattle.slnf_journal.specs.declared.errors.JournalError.{JournalError}
use Rattle.slnf_journal.specs.declared.errors.JournalError.TheVariants.{BadHeader, NoNewline, BadField, NoMemory}
use Rattle.slnf_journal.specs.Versions.{Version, body_of, line_entry}
use Rattle.slnf_journal.specs.Fields.{parts_at, ◌>>=◌}

-- the entry of the line of this number
abbrev pub at_line : ℕ → Result Entry ℕ → Result Entry JournalError
at_line line (Ok entry) = Ok entry
at_line line (Err field) = Err (BadField line field)

-- what stands behind the last line feed is nothing
abbrev pub ending : ℕ → List ℕ → Result (List Entry) JournalError
ending line [] = Ok []
ending line (byte ∷ bytes) = Err (NoNewline line)

-- the entries of these lines, of which the first has this number; the last is what no line feed ends
unfoldable pub entries_in : Version → ℕ → List (List ℕ) → Result (List Entry) JournalError
entries_in version line [] = Ok []
entries_in version line (text ∷ []) = ending line text
entries_in version line (text ∷ next ∷ texts) = do
  entry ← at_line line (line_entry version text)
  entries ← entries_in version (line + 1) (next ∷ texts)
  Ok (entry ∷ entries)

abbrev pub lines_of : Version → Option (List ℕ) → Result (List Entry) JournalError
lines_of version None = Err BadHeader
lines_of version (Some body) = entries_in version 2 (parts_at 10 body)

-- the entries of a journal's text, or where it first isn't one
unfoldable pub journal_in : Version → List ℕ → Result (List Entry) JournalError
journal_in version bytes = lines_of version (body_of version bytes)

-- a call's answer is this reading, unless memory was wanting
abbrev pub Answers : Result (List Entry) JournalError → Result (List Entry) JournalError → Type 0
Answers (Ok entries) reading = Ok entries ≡ reading
Answers (Err BadHeader) reading = Err BadHeader ≡ reading
Answers (Err (NoNewline line)) reading = Err (NoNewline line) ≡ reading
Answers (Err (BadField line field)) reading = Err (BadField line field) ≡ reading
Answers (Err NoMemory) reading = Unit {0}
