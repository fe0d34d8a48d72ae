-- What contracts know of a pass of the store.
use Rattle.std.specs.Prelude.{◌≡◌, ◌≢◌, ℕ, ◌+◌, ◌<◌, ◌^◌, max, List, [], ◌∷◌, ◌++◌, map}
use Rattle.std.specs.List.{AllByRecursion}
use Rattle.atomic_table.specs.Seated.{TableId}
use Rattle.slnf_access.specs.declared.requests.Entry.{Entry}
use Rattle.slnf_bucket.specs.Bucket.{last_stamp}
use Rattle.slnf_turns.specs.declared.views.Noted.{Noted}
use Rattle.slnf_turns.specs.declared.views.Sight.{Sight}
use Rattle.slnf_turns.specs.declared.views.Listed.{Listed}
use Rattle.slnf_turns.specs.declared.views.Joined.{Joined}
use Rattle.slnf_turns.specs.declared.views.View.{View}
use Rattle.slnf_turns.specs.Views.{seen_of, listed}
use Rattle.slnf_turns.specs.Passes.{HasNoTurn}
use Rattle.slnf_store.specs.Lines.{entry_of, noted_of}

-- A pass: the table of the store that it belongs to, what it knows of itself and of the shards, and its clock.
pub record PassState : Type 0 where
  pub table_id : TableId
  pub known : View
  pub clock : ℕ

-- the entries that lines with their shards say
abbrev pub entries_of : List Noted → List Entry
entries_of lines = map (λ (x : Noted). entry_of x.line) lines

-- the entries that were last seen of each shard
abbrev pub entries_seen : List Sight → ℕ → List Entry
entries_seen seen shard = map entry_of (seen_of shard seen)

-- the pass's own entries, in order
abbrev pub own_entries : PassState → List Entry
own_entries pass = entries_of pass.known.own

-- the entries that the pass last saw of a shard
abbrev pub last_seen : ℕ → PassState → List Entry
last_seen shard pass = entries_seen pass.known.seen shard

-- the greatest stamp of these entries, 0 where there is none
abbrev pub greatest_stamp : List Entry → ℕ
greatest_stamp [] = 0
greatest_stamp (e ∷ es) = max e.stamp (greatest_stamp es)

-- the greatest stamp in the lists of these numbers, 0 where there is none
abbrev pub greatest_listed : List Listed → ℕ
greatest_listed [] = 0
greatest_listed (x ∷ xs) = max (greatest_stamp (entries_of x.lines)) (greatest_listed xs)

-- The entry stands in this history of its shard, and its stamp is one more than the greater of the last stamp before
-- it there and the clock.
abbrev pub IsStamped : ℕ → Entry → List Entry → Type 0
IsStamped clock e history =
    (earlier later : List Entry)
    × (history ≡ earlier ++ e ∷ later)
    × (e.stamp ≡ max (last_stamp 0 earlier) clock + 1)

-- so does each of these entries, with the stamp of the one before it as the clock
abbrev pub AreStamped : (ℕ → List Entry) → ℕ → List Entry → Type 0
AreStamped histories clock [] = Unit {0}
AreStamped histories clock (e ∷ es) = IsStamped clock e (histories e.shard) × AreStamped histories e.stamp es

-- each entry is of this number's incarnation, and of one of so many shards
abbrev pub AreEntriesOf : ℕ → ℕ → List Entry → Type 0
AreEntriesOf shards number es = AllByRecursion (λ (e : Entry). (e.incarnation + 1 ≡ number) × (e.shard < shards)) es

-- The list of a number's pass, which was told these lists at its split, where the shards' histories are these: its
-- lines say entries of its incarnation, each stamped in its shard's history.
pub record IsOwnList (shards number : ℕ) (told : List Listed) (lines : List Noted)
    (histories : ℕ → List Entry) : Type 0 where
  pub written : lines ≡ map noted_of (entries_of lines)
  pub own : AreEntriesOf shards number (entries_of lines)
  pub stamped : AreStamped histories (greatest_listed told) (entries_of lines)

-- what the root keeps of a pass that was joined is its own list, in the histories that it saw
abbrev pub IsJoined : ℕ → Joined → Type 0
IsJoined shards x = IsOwnList shards x.listed.number x.told x.listed.lines (entries_seen x.seen)

-- What holds of each pass of a store with so many shards, between two calls. The root's clock is the greatest stamp of
-- the passes that it joined, and any other's is its last stamp, or the greatest that it was told of.
pub record IsPass (shards clock : ℕ) (v : View) : Type 0 where
  pub free : HasNoTurn v
  pub list : IsOwnList shards v.number v.told v.own (entries_seen v.seen)
  pub root : v.number ≡ 0 → (v.own ≡ []) × (clock ≡ greatest_listed (map listed v.joined))
  pub split : v.number ≢ 0 → clock ≡ last_stamp (greatest_listed v.told) (entries_of v.own)
  pub joined : AllByRecursion (IsJoined shards) v.joined
  pub below : clock < 2 ^ 62
