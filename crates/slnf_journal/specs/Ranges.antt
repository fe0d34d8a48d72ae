-- The fields of the lines of entries, the ranges of what they say, and where bytes are no journal.
use Rattle.std.specs.Prelude.{◌≡◌, ◌≢◌, ◌≤◌, ◌<◌, ◌+◌, ◌^◌, ℕ, List, [], ◌∷◌, ◌++◌, All, length, take, codes, decimal}
use Rattle.std.specs.List.{flat_map, AllByRecursion}
use Rattle.slnf_access.specs.declared.requests.Entry.{Entry}
use Rattle.slnf_access.specs.declared.requests.Request.{Request}
use Rattle.slnf_access.specs.declared.requests.Request.TheVariants.{Read, PutIfAbsent, ReplaceIf, DeleteIf}
use Rattle.slnf_access.specs.declared.requests.Reply.{Reply}
use Rattle.slnf_access.specs.declared.requests.Reply.TheVariants.{Done, Found, Absent}
use Rattle.slnf_journal.specs.declared.errors.JournalError.{JournalError}
use Rattle.slnf_journal.specs.declared.errors.JournalError.TheVariants.{BadHeader, NoNewline, BadField, NoMemory}
use Rattle.slnf_journal.specs.Words.{hex_text}
use Rattle.slnf_journal.specs.Versions.{Version, first_line, line_of}
use Rattle.slnf_journal.specs.Fields.{parts_at}

-- a stamp or a version
abbrev pub IsStamp : ℕ → Type 0
IsStamp number = (1 ≤ number) × (number < 2 ^ 62)

-- a key or a value
abbrev pub IsWord : ℕ → Type 0
IsWord number = number < 2 ^ 128

abbrev pub FitsRequest : Request → Type 0
FitsRequest (Read key) = IsWord key.0
FitsRequest (PutIfAbsent key value) = IsWord key.0 × IsWord value.0
FitsRequest (ReplaceIf key version value) = IsWord key.0 × IsStamp version × IsWord value.0
FitsRequest (DeleteIf key version) = IsWord key.0 × IsStamp version

abbrev pub FitsReply : Reply → Type 0
FitsReply (Done version) = IsStamp version
FitsReply (Found value version) = IsWord value.0 × IsStamp version
FitsReply Absent = Unit {0}

-- the entry's numbers are in the ranges of the text
pub record Fits (e : Entry) : Type 0 where
  pub stamp : IsStamp e.stamp
  pub shard : e.shard < 64
  pub incarnation : e.incarnation < 2 ^ 32
  pub item : e.item < 2 ^ 32
  pub request : FitsRequest e.request
  pub reply : FitsReply e.reply

abbrev pub AllFit : List Entry → Type 0
AllFit entries = AllByRecursion Fits entries

abbrev pub request_fields : Request → List (List ℕ)
request_fields (Read key) = codes "read" ∷ hex_text 32 key.0 ∷ []
request_fields (PutIfAbsent key value) = codes "put" ∷ hex_text 32 key.0 ∷ hex_text 32 value.0 ∷ []
request_fields (ReplaceIf key version value) =
    codes "replace" ∷ hex_text 32 key.0 ∷ decimal version ∷ hex_text 32 value.0 ∷ []
request_fields (DeleteIf key version) = codes "delete" ∷ hex_text 32 key.0 ∷ decimal version ∷ []

abbrev pub reply_fields : Reply → List (List ℕ)
reply_fields (Done version) = codes "done" ∷ decimal version ∷ []
reply_fields (Found value version) = codes "found" ∷ hex_text 32 value.0 ∷ decimal version ∷ []
reply_fields Absent = codes "absent" ∷ []

-- the fields of an entry's line
abbrev pub entry_fields : Entry → List (List ℕ)
entry_fields e =
    decimal e.stamp ∷ decimal e.shard ∷ decimal e.incarnation ∷ decimal e.item
    ∷ (request_fields e.request ++ reply_fields e.reply)

-- The field of this number is the first that no entry's line has behind the fields before it: those are as in
-- some entry's line, and together with it, or with the line's end in its place, they are as in none.
pub record IsFirstBad (fields : List (List ℕ)) (number : ℕ) : Type 0 where
  pub before : ℕ
  pub counts : number ≡ before + 1
  pub some : (e : Entry) × Fits e × (take before (entry_fields e) ≡ take before fields)
  pub none : (e : Entry) → Fits e → take (before + 1) (entry_fields e) ≢ take (before + 1) fields

-- The bytes begin with the version's first line and the lines of these entries, and go on with these bytes.
abbrev pub GoesOn : Version → List ℕ → List Entry → List ℕ → Type 0
GoesOn version bytes entries rest =
    (count : ℕ) × AllFit entries × (bytes ≡ first_line version count ++ flat_map (line_of version) entries ++ rest)

-- no line feed is among the bytes
abbrev pub IsOneLine : List ℕ → Type 0
IsOneLine bytes = All (λ b. b ≢ 10) bytes

-- Where bytes are no journal: the first line is of no version; behind some entries' lines the bytes end within
-- a line; or behind them stands a line whose field of this number is the first bad one.
abbrev pub IsRefused : Version → List ℕ → JournalError → Type 0
IsRefused version bytes BadHeader = (count : ℕ) (rest : List ℕ) → bytes ≢ first_line version count ++ rest
IsRefused version bytes (NoNewline line) =
    (entries : List Entry) × (rest : List ℕ)
    × GoesOn version bytes entries rest × (line ≡ length entries + 2) × (0 < length rest) × IsOneLine rest
IsRefused version bytes (BadField line number) =
    (entries : List Entry) × (text : List ℕ) × (rest : List ℕ)
    × GoesOn version bytes entries (text ++ 10 ∷ rest) × (line ≡ length entries + 2)
    × IsOneLine text × IsFirstBad (parts_at 32 text) number
IsRefused version bytes NoMemory = ⊥
