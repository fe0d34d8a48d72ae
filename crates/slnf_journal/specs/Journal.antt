-- The text of a journal.
use Rattle.std.specs.Prelude.{ℕ, List, [], ◌∷◌, ◌++◌, codes, decimal}
use Rattle.std.specs.List.{flat_map}
use Rattle.slnf_access.specs.declared.requests.Entry.{Entry}
use Rattle.slnf_access.specs.declared.requests.Request.{Request}
use Rattle.slnf_access.specs.declared.requests.Request.TheVariants.{Read, PutIfAbsent, ReplaceIf, DeleteIf}
use Rattle.slnf_access.specs.declared.requests.Reply.{Reply}
use Rattle.slnf_access.specs.declared.requests.Reply.TheVariants.{Done, Found, Absent}
use Rattle.slnf_journal.specs.Words.{hex_text}

-- `read KEY`, `put KEY VALUE`, `replace KEY VERSION VALUE` or `delete KEY VERSION`
unfoldable pub request_text : Request → List ℕ
request_text (Read key) = codes "read " ++ hex_text 32 key.0
request_text (PutIfAbsent key value) = codes "put " ++ hex_text 32 key.0 ++ 32 ∷ [] ++ hex_text 32 value.0
request_text (ReplaceIf key version value) =
    codes "replace " ++ hex_text 32 key.0 ++ 32 ∷ [] ++ decimal version ++ 32 ∷ [] ++ hex_text 32 value.0
request_text (DeleteIf key version) = codes "delete " ++ hex_text 32 key.0 ++ 32 ∷ [] ++ decimal version

-- `done VERSION`, `found VALUE VERSION` or `absent`
unfoldable pub reply_text : Reply → List ℕ
reply_text (Done version) = codes "done " ++ decimal version
reply_text (Found value version) = codes "found " ++ hex_text 32 value.0 ++ 32 ∷ [] ++ decimal version
reply_text Absent = codes "absent"

-- `STAMP SHARD INCARNATION ITEM REQUEST REPLY`, and a line feed
unfoldable pub entry_text : Entry → List ℕ
entry_text e =
    decimal e.stamp ++ 32 ∷ [] ++ decimal e.shard ++ 32 ∷ [] ++ decimal e.incarnation ++ 32 ∷ [] ++ decimal e.item ++ 32 ∷ []
    ++ request_text e.request ++ 32 ∷ [] ++ reply_text e.reply ++ 10 ∷ []

-- the first line
abbrev pub journal_header : List ℕ
journal_header = codes "slnf journal 1\n"

-- the first line, and one line for each entry
abbrev pub journal_text : List Entry → List ℕ
journal_text es = journal_header ++ flat_map entry_text es
