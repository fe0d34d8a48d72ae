-- An ordinary box, and that it explains a list of entries.
use Rattle.std.specs.Prelude.{◌≡◌, ℕ, zero, suc, ◌≤◌, Option, Some, None, List, [], ◌∷◌, length, take, slice_get}
use Rattle.slnf_base.specs.declared.packets.Verdict.{Verdict}
use Rattle.slnf_access.specs.declared.requests.Entry.{Entry}
use Rattle.slnf_access.specs.Map.{Cells, empty, map_after}
use Rattle.slnf_run.specs.Scene.{Scene}
use Rattle.slnf_run.specs.Visits.{Visit, visits_of}

-- What it keeps, C, the verdict that it gives what comes, and what it keeps after it. It sees arrivals alone.
pub record Box (A C : Type 0) : Type 0 where
  pub empty : C
  pub verdict : C → A → Verdict
  pub next : C → A → C

-- what the box keeps after these visits
abbrev pub content_through : {A C : Type 0} → Box A C → C → List (Visit A) → C
content_through box content [] = content
content_through box content (visit ∷ visits) = content_through box (box.next content visit.arrival) visits

-- what the box keeps after the visits at an entry
abbrev pub content_step : {F A C : Type 0} → Scene F A → Box A C → List Entry → ℕ → C → Option Entry → C
content_step s box es number content None = content
content_step s box es number content (Some e) = content_through box content (visits_of s es number e)

-- what the box keeps after the visits at the first t entries
abbrev pub content_after : {F A C : Type 0} → Scene F A → Box A C → List Entry → ℕ → C
content_after s box es zero = box.empty
content_after s box es (suc t) = content_step s box es t (content_after s box es t) (slice_get es t)

-- the box's verdict is the visit's, if it has one
abbrev pub Fits : Option Verdict → Verdict → Type 0
Fits None given = Unit {0}
Fits (Some verdict) given = given ≡ verdict

-- the box gives each visit its verdict, one after another
abbrev pub Agrees : {A C : Type 0} → Box A C → C → List (Visit A) → Type 0
Agrees box content [] = Unit {0}
Agrees box content (visit ∷ visits) =
    Fits visit.verdict (box.verdict content visit.arrival) × Agrees box (box.next content visit.arrival) visits

-- One ordinary box explains a list. `Same` says that what the box keeps is what the store's map keeps.
pub record IsExplained {F A C : Type 0} (s : Scene F A) (box : Box A C) (Same : C → Cells → Type 0)
    (es : List Entry) : Type 0 where
  -- The box gives each packet its decided verdict, at its place.
  pub verdicts : (t : ℕ) (e : Entry) → slice_get es t ≡ Some e →
      Agrees box (content_after s box es t) (visits_of s es t e)
  -- After each prefix the box keeps what the map does.
  pub maps : (t : ℕ) → t ≤ length es → Same (content_after s box es t) (map_after empty (take t es))
