-- A scene: the machines that make a list of entries, and when an ordinary box sees their packets. It knows no lane,
-- plan or actor. A flight is of the type F, and what a box sees is of the type A.
use Rattle.std.specs.Prelude.{ℕ, Bool, ◌&&◌, ◌==◌, List, filter}
use Rattle.slnf_base.specs.declared.packets.Verdict.{Verdict}
use Rattle.slnf_access.specs.declared.requests.Entry.{Entry}
use Rattle.slnf_access.specs.Machines.{Machine, Stand, stand_after}

pub record Scene (F A : Type 0) : Type 0 where
  -- the machine of an incarnation, and how its items begin
  pub machine : ℕ → Machine F
  pub begins : ℕ → ℕ → Stand F
  -- The entry that is a packet's place, by its number in the list: of a packet that begins as this flight and is
  -- decided so at the entry with this number.
  pub place : List Entry → ℕ → F → Verdict → ℕ
  -- what the box sees of a packet that begins as this flight, at the entry that is its place
  pub arrival : F → Entry → A
  -- what the box sees at an entry before any packet
  pub removals : Entry → List A

-- the entry is one of this incarnation's item
abbrev pub is_of : ℕ → ℕ → Entry → Bool
is_of incarnation item e = e.incarnation == incarnation && e.item == item

-- the entries of an incarnation's item, in order
abbrev pub own_of : ℕ → ℕ → List Entry → List Entry
own_of incarnation item es = filter (is_of incarnation item) es

-- where an incarnation's item stands after these entries
abbrev pub stand_of : {F A : Type 0} → Scene F A → ℕ → ℕ → List Entry → Stand F
stand_of s incarnation item es = stand_after (s.machine incarnation) (s.begins incarnation item)
    (own_of incarnation item es)
