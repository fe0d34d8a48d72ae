-- Entries written as lines of numbers, and read back.
use Rattle.std.specs.Prelude.{ℕ, zero, suc, ◌+◌, ◌==◌, if◌then◌else◌, List, [], ◌∷◌}
use Rattle.slnf_access.specs.declared.requests.Entry.{Entry}
use Rattle.slnf_access.specs.declared.requests.Request.{Request}
use Rattle.slnf_access.specs.declared.requests.Request.TheVariants.{Read, PutIfAbsent, ReplaceIf, DeleteIf}
use Rattle.slnf_access.specs.declared.requests.Reply.{Reply}
use Rattle.slnf_access.specs.declared.requests.Reply.TheVariants.{Done, Found, Absent}
use Rattle.slnf_access.specs.Map.{key_of}
use Rattle.slnf_turns.specs.declared.views.Line.{Line}
use Rattle.slnf_turns.specs.declared.views.Noted.{Noted}

abbrev pub request_kind : Request → ℕ
request_kind (Read key) = 0
request_kind (PutIfAbsent key value) = 1
request_kind (ReplaceIf key version value) = 2
request_kind (DeleteIf key version) = 3

-- the version that an access names, 0 where it names none
abbrev pub request_version : Request → ℕ
request_version (Read key) = 0
request_version (PutIfAbsent key value) = 0
request_version (ReplaceIf key version value) = version
request_version (DeleteIf key version) = version

-- the value that an access brings, 0 where it brings none
abbrev pub request_value : Request → ℕ
request_value (Read key) = 0
request_value (PutIfAbsent key value) = value.0
request_value (ReplaceIf key version value) = value.0
request_value (DeleteIf key version) = 0

abbrev pub reply_kind : Reply → ℕ
reply_kind (Done stamp) = 0
reply_kind (Found value version) = 1
reply_kind Absent = 2

-- the stamp or the version that a reply names
abbrev pub reply_number : Reply → ℕ
reply_number (Done stamp) = stamp
reply_number (Found value version) = version
reply_number Absent = 0

abbrev pub reply_value : Reply → ℕ
reply_value (Done stamp) = 0
reply_value (Found value version) = value.0
reply_value Absent = 0

-- the entry's line: its caller's number is one more than its incarnation
abbrev pub line_of : Entry → Line
line_of e =
    record {
      number = e.incarnation + 1;
      words =
          e.stamp ∷ e.shard ∷ e.incarnation ∷ e.item
          ∷ request_kind e.request ∷ key_of e.request ∷ request_version e.request ∷ request_value e.request
          ∷ reply_kind e.reply ∷ reply_number e.reply ∷ reply_value e.reply ∷ [];
    }

-- the line with the shard in which it stands
abbrev pub noted_of : Entry → Noted
noted_of e = record { shard = e.shard; line = line_of e }

abbrev pub request_from : (kind key version value : ℕ) → Request
request_from kind key version value =
    if kind == 0 then Read (record { 0 = key }) else
    if kind == 1 then PutIfAbsent (record { 0 = key }) (record { 0 = value }) else
    if kind == 2 then ReplaceIf (record { 0 = key }) version (record { 0 = value }) else
    DeleteIf (record { 0 = key }) version

abbrev pub reply_from : (kind number value : ℕ) → Reply
reply_from kind number value =
    if kind == 0 then Done number else
    if kind == 1 then Found (record { 0 = value }) number else
    Absent

abbrev pub first_word : List ℕ → ℕ
first_word [] = 0
first_word (x ∷ xs) = x

abbrev pub other_words : List ℕ → List ℕ
other_words [] = []
other_words (x ∷ xs) = xs

-- the word of a line at a place, 0 behind its end
abbrev pub word_at : ℕ → List ℕ → ℕ
word_at zero words = first_word words
word_at (suc place) words = word_at place (other_words words)

-- the entry that a line says
abbrev pub entry_of : Line → Entry
entry_of line =
    record {
      stamp = word_at 0 line.words;
      shard = word_at 1 line.words;
      incarnation = word_at 2 line.words;
      item = word_at 3 line.words;
      request = request_from (word_at 4 line.words) (word_at 5 line.words) (word_at 6 line.words) (word_at 7 line.words);
      reply = reply_from (word_at 8 line.words) (word_at 9 line.words) (word_at 10 line.words);
    }
