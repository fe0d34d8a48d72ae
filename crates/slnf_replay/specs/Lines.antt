-- What one ordinary box answers to the packets of a list of entries, in the order of the packets' places.
use Rattle.std.specs.Prelude.{ℕ, ◌+◌, Option, Some, None, List, [], ◌∷◌, ◌++◌, length, map, slice_get}
use Rattle.std.specs.List.{range_with_len, flat_map}
use Rattle.std.specs.Option.{option_and_then, unwrap_or}
use Rattle.slnf_access.specs.declared.requests.Entry.{Entry}
use Rattle.slnf_run.specs.Setting.{Setting, actors_of}
use Rattle.slnf_run.specs.Visits.{Visit, removal, visit_by}
use Rattle.slnf_run.specs.Boxes.{Box, content_through, content_after}
use Rattle.slnf_journal.specs.declared.box_lines.BoxLine.{BoxLine}

-- the lane of an incarnation
abbrev pub lane_of : {F A : Type 0} → Setting F A → ℕ → ℕ
lane_of s incarnation =
    unwrap_or (option_and_then (λ actor. actor.lane) (slice_get (actors_of s.eras) incarnation)) 0

-- what the box keeps after a visit, if there is one
abbrev pub content_with : {A C : Type 0} → Box A C → C → Option (Visit A) → C
content_with box content None = content
content_with box content (Some visit) = box.next content visit.arrival

-- the box's answer to a visit, if there is one, of the packet with this lane and number, where it keeps this
abbrev pub answer_to : {A C : Type 0} → Box A C → C → ℕ → ℕ → ℕ → Option (Visit A) → List BoxLine
answer_to box content place lane number None = []
answer_to box content place lane number (Some visit) =
    record { place = place; lane = lane; number = number; verdict = box.verdict content visit.arrival } ∷ []

-- and of the packet of this entry
abbrev pub answer_of : {F A C : Type 0} → Setting F A → Box A C → C → ℕ → Option Entry → Option (Visit A)
    → List BoxLine
answer_of s box content place None visit = []
answer_of s box content place (Some e) visit =
    answer_to box content place (lane_of s e.incarnation) e.item visit

-- The answers at the entry e with the number t, from 0 on, to the packets that have their place there, of those that
-- are decided at the entries with these numbers: one after another, where the box keeps this before them. Places are
-- counted from 1.
abbrev pub answers_by : {F A C : Type 0} → Setting F A → Box A C → List Entry → ℕ → Entry → C → List ℕ → List BoxLine
answers_by s box es t e content [] = []
answers_by s box es t e content (decider ∷ deciders) =
    answer_of s box content (t + 1) (slice_get es decider) (visit_by s.scene es t e decider)
    ++ answers_by s box es t e (content_with box content (visit_by s.scene es t e decider)) deciders

-- The answers at the entry with the number t: the box keeps what it has after all visits at earlier entries, and after
-- the removals at this one.
abbrev pub answers_at : {F A C : Type 0} → Setting F A → Box A C → List Entry → ℕ → Option Entry → List BoxLine
answers_at s box es t None = []
answers_at s box es t (Some e) =
    answers_by s box es t e (content_through box (content_after s.scene box es t) (map removal (s.scene.removals e)))
    (range_with_len 0 (length es))

-- The answers at all entries, in order.
abbrev pub answers_of : {F A C : Type 0} → Setting F A → Box A C → List Entry → List BoxLine
answers_of s box es = flat_map (λ t. answers_at s box es t (slice_get es t)) (range_with_len 0 (length es))
