use Rattle.std.specs.Prelude.{◌≡◌, ◌==◌, ℕ, Bool, true, false, Option, Some, None, List, [], ◌∷◌, if◌then◌else◌}
use Rattle.slnf_access.specs.declared.requests.Value.{Value}
use Rattle.slnf_access.specs.declared.requests.Held.{Held}
use Rattle.slnf_access.specs.declared.requests.Entry.{Entry}
use Rattle.slnf_access.specs.declared.requests.Request.{Request}
use Rattle.slnf_access.specs.declared.requests.Request.TheVariants.{Read, PutIfAbsent, ReplaceIf, DeleteIf}
use Rattle.slnf_access.specs.declared.requests.Reply.{Reply}
use Rattle.slnf_access.specs.declared.requests.Reply.TheVariants.{Done, Found, Absent}

-- the number of the key that an access is to
abbrev pub key_of : Request → ℕ
key_of (Read key) = key.0
key_of (PutIfAbsent key value) = key.0
key_of (ReplaceIf key version value) = key.0
key_of (DeleteIf key version) = key.0

-- the reply to an access that acts only where the version is the one that it names
abbrev pub conditional_reply : ℕ → ℕ → Option Held → Reply
conditional_reply version stamp None = Absent
conditional_reply version stamp (Some held) =
    if held.version == version then Done stamp else Found held.value held.version

-- the reply to an access with this stamp, where the key has this
abbrev pub reply_to : Request → ℕ → Option Held → Reply
reply_to (Read key) stamp None = Absent
reply_to (Read key) stamp (Some held) = Found held.value held.version
reply_to (PutIfAbsent key value) stamp None = Done stamp
reply_to (PutIfAbsent key value) stamp (Some held) = Found held.value held.version
reply_to (ReplaceIf key version value) stamp held = conditional_reply version stamp held
reply_to (DeleteIf key version) stamp held = conditional_reply version stamp held

-- what a replace leaves of what is there
abbrev pub replaced : ℕ → ℕ → Value → Held → Held
replaced version stamp value held =
    if held.version == version then record { value = value; version = stamp } else held

-- what a delete leaves of what is there
abbrev pub deleted : ℕ → Held → Option Held
deleted version held = if held.version == version then None else Some held

-- what the key has after the access
abbrev pub cell_after : Request → ℕ → Option Held → Option Held
cell_after (Read key) stamp held = held
cell_after (PutIfAbsent key value) stamp None = Some (record { value = value; version = stamp })
cell_after (PutIfAbsent key value) stamp (Some held) = Some held
cell_after (ReplaceIf key version value) stamp None = None
cell_after (ReplaceIf key version value) stamp (Some held) = Some (replaced version stamp value held)
cell_after (DeleteIf key version) stamp None = None
cell_after (DeleteIf key version) stamp (Some held) = deleted version held

-- what the key has after one entry
abbrev pub cell_step : ℕ → Option Held → Entry → Option Held
cell_step key held e = if key_of e.request == key then cell_after e.request e.stamp held else held

-- what the key has after these entries, where it had this before them
abbrev pub cell_of : ℕ → Option Held → List Entry → Option Held
cell_of key held [] = held
cell_of key held (e ∷ es) = cell_of key (cell_step key held e) es

-- The map: what each key has.
abbrev pub Cells : Type 0
Cells = ℕ → Option Held

-- no key has anything
abbrev pub empty : Cells
empty = λ key. None

-- the map after these entries
abbrev pub map_after : Cells → List Entry → Cells
map_after cells es = λ key. cell_of key (cells key) es

-- each entry's reply is the access's, with its stamp, on the map that the entries before it make
abbrev pub IsLegalFrom : Cells → List Entry → Type 0
IsLegalFrom cells [] = Unit {0}
IsLegalFrom cells (e ∷ es) =
    (e.reply ≡ reply_to e.request e.stamp (cells (key_of e.request))) × IsLegalFrom (map_after cells (e ∷ [])) es

-- the same from the empty map
abbrev pub IsLegal : List Entry → Type 0
IsLegal es = IsLegalFrom empty es

-- the access was done
abbrev pub is_done : Reply → Bool
is_done (Done stamp) = true
is_done (Found value version) = false
is_done Absent = false

-- the replies that an access can have
abbrev pub CanReply : Request → Reply → Type 0
CanReply (Read key) (Done stamp) = ⊥
CanReply (Read key) (Found value version) = Unit {0}
CanReply (Read key) Absent = Unit {0}
CanReply (PutIfAbsent key value) (Done stamp) = Unit {0}
CanReply (PutIfAbsent key value) (Found found version) = Unit {0}
CanReply (PutIfAbsent key value) Absent = ⊥
CanReply (ReplaceIf key version value) reply = Unit {0}
CanReply (DeleteIf key version) reply = Unit {0}
