-- The fields of an entry's line, and what they say. A reading answers a value and the fields behind it, or
-- the number of the first field that no line can have there.
use Rattle.std.specs.Prelude.{◌≡◌, ℕ, zero, suc, ◌+◌, ◌-◌, ◌*◌, ◌^◌, ◌==◌, ◌&&◌, ◌||◌, Bool, true, false, if◌then◌else◌, nat_lt, nat_le, List, [], ◌∷◌, length, drop, slice_index, codes, Option, Some, None, Result, Ok, Err}
use Rattle.std.specs.List.{slice_split}
use Rattle.std.specs.Str.{bytes_eq, all_ascii_digits}
use Rattle.slnf_access.specs.declared.requests.Entry.{Entry}
use Rattle.slnf_access.specs.declared.requests.Request.{Request}
use Rattle.slnf_access.specs.declared.requests.Request.TheVariants.{Read, PutIfAbsent, ReplaceIf, DeleteIf}
use Rattle.slnf_access.specs.declared.requests.Reply.{Reply}
use Rattle.slnf_access.specs.declared.requests.Reply.TheVariants.{Done, Found, Absent}
use Rattle.slnf_journal.specs.declared.parts.Place.{Place}
use Rattle.slnf_journal.specs.declared.parts.Verb.{Verb}
use Rattle.slnf_journal.specs.declared.parts.Verb.TheVariants as verb
use Rattle.slnf_journal.specs.declared.parts.Answer.{Answer}
use Rattle.slnf_journal.specs.declared.parts.Answer.TheVariants as answer

-- what the byte parts
abbrev pub parts_at : ℕ → List ℕ → List (List ℕ)
parts_at byte bytes = slice_split (λ b. b == byte) bytes

-- The fields of a line that are still to be read, of which the first has this number in the line.
pub record Fields : Type 0 where
  pub number : ℕ
  pub left : List (List ℕ)

-- all fields of a line
abbrev pub fields_of : List ℕ → Fields
fields_of line = record { number = 1; left = parts_at 32 line }

infixl 10 ◌>>=◌
abbrev pub ◌>>=◌ : {A B E : Type 0} → Result A E → (A → Result B E) → Result B E
(Ok x) >>= f = f x
(Err error) >>= f = Err error

-- the first of these fields, and those behind it
abbrev pub first_of : ℕ → List (List ℕ) → Result (List ℕ × Fields) ℕ
first_of number [] = Err number
first_of number (field ∷ left) = Ok (field, record { number = number + 1; left = left })

-- what the field of this number says
abbrev pub said_in : {A : Type 0} → ℕ → Option A → Fields → Result (A × Fields) ℕ
said_in number (Some x) behind = Ok (x, behind)
said_in number None behind = Err number

-- what the next field says
unfoldable pub field_in : {A : Type 0} → (List ℕ → Option A) → Fields → Result (A × Fields) ℕ
field_in value fields = do
  field ← first_of fields.number fields.left
  said_in fields.number (value field.0) field.1

-- one decimal digit or more, and no 0 before others
abbrev pub is_decimal : List ℕ → Bool
is_decimal field = (length field == 1 || nat_lt 48 (slice_index field 0)) && all_ascii_digits field

-- the number that decimal digits write behind those of the number so far
abbrev pub decimal_value : ℕ → List ℕ → ℕ
decimal_value so_far [] = so_far
decimal_value so_far (byte ∷ bytes) = decimal_value (so_far * 10 + (byte - 48)) bytes

-- a number from `least` on and below `end`
abbrev pub within : ℕ → ℕ → ℕ → Option ℕ
within least end number = if nat_le least number && nat_lt number end then Some number else None

-- the number that a field is the decimal of, in a range
unfoldable pub number_of : ℕ → ℕ → List ℕ → Option ℕ
number_of least end field = if is_decimal field then within least end (decimal_value 0 field) else None

-- a lower-case hexadecimal digit
abbrev pub is_hex_digit : ℕ → Bool
is_hex_digit byte = (nat_le 48 byte && nat_le byte 57) || (nat_le 97 byte && nat_le byte 102)

abbrev pub are_hex_digits : List ℕ → Bool
are_hex_digits [] = true
are_hex_digits (byte ∷ bytes) = is_hex_digit byte && are_hex_digits bytes

-- the number of such a digit
abbrev pub hex_digit_value : ℕ → ℕ
hex_digit_value byte = if nat_le byte 57 then byte - 48 else byte - 87

-- the number that hexadecimal digits write behind those of the number so far
abbrev pub hex_value : ℕ → List ℕ → ℕ
hex_value so_far [] = so_far
hex_value so_far (byte ∷ bytes) = hex_value (so_far * 16 + hex_digit_value byte) bytes

-- the number of a key or a value
unfoldable pub hex_number : List ℕ → Option ℕ
hex_number field = if length field == 32 && are_hex_digits field then Some (hex_value 0 field) else None

-- the first word of a request
unfoldable pub verb_of : List ℕ → Option Verb
verb_of field =
    if bytes_eq field (codes "read") then Some verb.Read
    else if bytes_eq field (codes "put") then Some verb.Put
    else if bytes_eq field (codes "replace") then Some verb.Replace
    else if bytes_eq field (codes "delete") then Some verb.Delete
    else None

-- the first word of a reply
unfoldable pub answer_of : List ℕ → Option Answer
answer_of field =
    if bytes_eq field (codes "done") then Some answer.Done
    else if bytes_eq field (codes "found") then Some answer.Found
    else if bytes_eq field (codes "absent") then Some answer.Absent
    else None

-- a stamp or a version
abbrev pub stamp_in : Fields → Result (ℕ × Fields) ℕ
stamp_in fields = field_in (number_of 1 (2 ^ 62)) fields

-- what stands behind the first word of a request
unfoldable pub request_of : Verb → Fields → Result (Request × Fields) ℕ
request_of verb.Read fields = do
  key ← field_in hex_number fields
  Ok (Read (record { 0 = key.0 }), key.1)
request_of verb.Put fields = do
  key ← field_in hex_number fields
  value ← field_in hex_number key.1
  Ok (PutIfAbsent (record { 0 = key.0 }) (record { 0 = value.0 }), value.1)
request_of verb.Replace fields = do
  key ← field_in hex_number fields
  version ← stamp_in key.1
  value ← field_in hex_number version.1
  Ok (ReplaceIf (record { 0 = key.0 }) version.0 (record { 0 = value.0 }), value.1)
request_of verb.Delete fields = do
  key ← field_in hex_number fields
  version ← stamp_in key.1
  Ok (DeleteIf (record { 0 = key.0 }) version.0, version.1)

unfoldable pub request_in : Fields → Result (Request × Fields) ℕ
request_in fields = do
  word ← field_in verb_of fields
  request_of word.0 word.1

-- what stands behind the first word of a reply
unfoldable pub reply_of : Answer → Fields → Result (Reply × Fields) ℕ
reply_of answer.Done fields = do
  version ← stamp_in fields
  Ok (Done version.0, version.1)
reply_of answer.Found fields = do
  value ← field_in hex_number fields
  version ← stamp_in value.1
  Ok (Found (record { 0 = value.0 }) version.0, version.1)
reply_of answer.Absent fields = Ok (Absent, fields)

unfoldable pub reply_in : Fields → Result (Reply × Fields) ℕ
reply_in fields = do
  word ← field_in answer_of fields
  reply_of word.0 word.1

-- `STAMP SHARD INCARNATION ITEM REQUEST REPLY`
unfoldable pub parts_in : Fields → Result (Entry × Fields) ℕ
parts_in fields = do
  stamp ← stamp_in fields
  shard ← field_in (number_of 0 64) stamp.1
  incarnation ← field_in (number_of 0 (2 ^ 32)) shard.1
  item ← field_in (number_of 0 (2 ^ 32)) incarnation.1
  request ← request_in item.1
  reply ← reply_in request.1
  Ok (
    record {
      stamp = stamp.0;
      shard = shard.0;
      incarnation = incarnation.0;
      item = item.0;
      request = request.0;
      reply = reply.0;
    },
    reply.1,
  )

-- the entry, where the line has no more fields
abbrev pub ending_at : Entry → ℕ → List (List ℕ) → Result Entry ℕ
ending_at entry number [] = Ok entry
ending_at entry number (field ∷ left) = Err number

-- the entry of a line's fields
unfoldable pub entry_in : Fields → Result Entry ℕ
entry_in fields = do
  entry ← parts_in fields
  ending_at entry.0 entry.1.number entry.1.left

-- the fields from a place of a line on: none behind the line's end
unfoldable pub left_at : List ℕ → ℕ → List (List ℕ)
left_at line at = if nat_lt (length line) at then [] else parts_at 32 (drop at line)

abbrev pub fields_at : List ℕ → Place → Fields
fields_at line place = record { number = place.number; left = left_at line place.at }

-- What a function answered, seen by `view`, is what the reading gives.
abbrev pub Gives : {X Y : Type 0} → (X → Y) → Result X ℕ → Result Y ℕ → Type 0
Gives view (Ok x) reading = reading ≡ Ok (view x)
Gives view (Err number) reading = reading ≡ Err number
