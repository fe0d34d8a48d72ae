-- What a function owes of one entry, so that its box explains whole lists.
use Rattle.std.specs.Prelude.{◌≡◌, ℕ, Option, Some, None, List, [], ◌∷◌, map, slice_get}
use Rattle.slnf_base.specs.declared.packets.Verdict.{Verdict}
use Rattle.slnf_access.specs.declared.requests.Entry.{Entry}
use Rattle.slnf_access.specs.declared.requests.Held.{Held}
use Rattle.slnf_access.specs.declared.requests.Value.{Value}
use Rattle.slnf_access.specs.declared.requests.Reply.TheVariants.{Found}
use Rattle.slnf_access.specs.Map.{key_of, reply_to, Cells, empty, map_after}
use Rattle.slnf_access.specs.Machines.{Flies, stand_after, IsPath, decided_at}
use Rattle.slnf_run.specs.Scene.{Scene, own_of}
use Rattle.slnf_run.specs.Visits.{Decision, removal, newly, decision_at}
use Rattle.slnf_run.specs.Boxes.{Box, content_through}
use Rattle.slnf_run.specs.Steady.{IsSteady}
use Rattle.std.specs.List.{AllByRecursion}

-- the entries of each item are a path of its machine, whole or not
abbrev pub HasPaths : {F A : Type 0} → Scene F A → List Entry → Type 0
HasPaths s es = (incarnation item : ℕ) → IsPath (s.machine incarnation) (s.begins incarnation item)
    (own_of incarnation item es)

-- The entry is the next access of its item, which began with the flight `first`, has made the entries `own` and flies
-- as `flight`. Its reply is the access's on the map.
pub record IsNext {F A : Type 0} (s : Scene F A) (cells : Cells) (own : List Entry) (e : Entry)
    (first flight : F) : Type 0 where
  pub begins : s.begins e.incarnation e.item ≡ Flies first
  pub path : IsPath (s.machine e.incarnation) (Flies first) own
  pub stands : stand_after (s.machine e.incarnation) (Flies first) own ≡ Flies flight
  pub asked : e.request ≡ (s.machine e.incarnation).asks flight
  pub replied : e.reply ≡ reply_to e.request e.stamp (cells (key_of e.request))

-- what the box does at an entry: where a packet comes with this verdict, it gives it, and keeps after it what it
-- should; where none comes, it keeps that already
abbrev pub IsKept : {A C : Type 0} → Box A C → (C → Type 0) → C → A → Option Verdict → Type 0
IsKept box Right content arrival None = Right content
IsKept box Right content arrival (Some verdict) = (box.verdict content arrival ≡ verdict)
    × Right (box.next content arrival)

-- what the box keeps after an entry's removals
abbrev pub cleared : {F A C : Type 0} → Scene F A → Box A C → C → Entry → C
cleared s box content e = content_through box content (map removal (s.removals e))

-- A decision of the entry's item, which began so, that has its place at the entry with this number.
pub record IsPlaced {F A : Type 0} (s : Scene F A) (es : List Entry) (number : ℕ) (e : Entry) (first : F)
    (verdict : Verdict) : Type 0 where
  pub d : ℕ
  pub decider : Entry
  pub decided : decision_at s es d ≡ Some (record { first = first; verdict = verdict })
  pub at : slice_get es d ≡ Some decider
  pub incarnation : decider.incarnation ≡ e.incarnation
  pub item : decider.item ≡ e.item
  pub place : s.place es d first verdict ≡ number

-- the verdict with which a packet comes at the entry with this number, if one does
abbrev pub Comes : {F A : Type 0} → Scene F A → List Entry → ℕ → Entry → F → Option Verdict → Type 0
Comes {F = F} s es number e first None = (d : ℕ) (x : Decision F) → decision_at s es d ≡ Some x →
    s.place es d x.first x.verdict ≡ number → ⊥
Comes s es number e first (Some verdict) = IsPlaced s es number e first verdict

-- The box keeps up with each access of a machine, on any map of which `Known` holds with the item's entries so far
-- and the entry to come. Each packet's place is its deciding entry.
pub record Keeps {F A C : Type 0} (s : Scene F A) (box : Box A C) (Same : C → Cells → Type 0) (Known : Cells →
    List Entry → Entry → Type 0) : Type 0 where
  pub steady : (incarnation : ℕ) → IsSteady (s.machine incarnation)
  pub at_decider : (es : List Entry) (number : ℕ) (first : F) (verdict : Verdict) → s.place es number first verdict
      ≡ number
  pub at_first : Same box.empty empty
  pub at_entry : (cells : Cells) (own : List Entry) (e : Entry) (first flight : F) (content : C) →
      IsNext s cells own e first flight → Known cells own e → Same content cells →
      IsKept box (λ now. Same now (map_after cells (e ∷ []))) (cleared s box content e) (s.arrival first e)
      (newly ((s.machine e.incarnation).decided flight)
      (decided_at (s.machine e.incarnation) ((s.machine e.incarnation).goes flight e.reply)))

-- nothing else is known
abbrev pub Anything : Cells → List Entry → Entry → Type 0
Anything cells own e = Unit {0}

-- what the entry's reply found is what its key has, where the key has that version still
abbrev pub IsRecalled : Cells → Entry → Type 0
IsRecalled cells e = (value : Value) (version : ℕ) (held : Held) → e.reply ≡ Found value version →
    cells (key_of e.request) ≡ Some held → held.version ≡ version → held.value ≡ value

-- a version names the value that the item found with it
abbrev pub Recalled : Cells → List Entry → Entry → Type 0
Recalled cells own e = AllByRecursion (IsRecalled cells) own
