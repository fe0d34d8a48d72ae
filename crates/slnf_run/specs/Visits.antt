-- What an ordinary box sees at each entry of a list: removals, and the packets that have their place there.
use Rattle.std.specs.Prelude.{ℕ, ◌==◌, if◌then◌else◌, Option, Some, None, List, ◌++◌, length, map, take, slice_get, filter_map}
use Rattle.std.specs.List.{range_with_len}
use Rattle.std.specs.Option.{option_and_then}
use Rattle.slnf_base.specs.declared.packets.Verdict.{Verdict}
use Rattle.slnf_access.specs.declared.requests.Entry.{Entry}
use Rattle.slnf_access.specs.Machines.{Stand, Flies, Ends, stand_step, decided_at}
use Rattle.slnf_run.specs.Scene.{Scene, stand_of}

-- A packet that is decided: the flight that it began with, and its verdict.
pub record Decision (F : Type 0) : Type 0 where
  pub first : F
  pub verdict : Verdict

-- a verdict that wasn't decided before
abbrev pub newly : Option Verdict → Option Verdict → Option Verdict
newly (Some earlier) now = None
newly None now = now

-- the verdict that is decided at an entry behind these, and not before it
abbrev pub decided_by : {F A : Type 0} → Scene F A → List Entry → Entry → Option Verdict
decided_by s before e =
    let machine = s.machine e.incarnation in
    let stand = stand_of s e.incarnation e.item before in
    newly (decided_at machine stand) (decided_at machine (stand_step machine stand e))

-- the decision of a packet that begins so, where one is made
abbrev pub decision_of : {F : Type 0} → Stand F → Option Verdict → Option (Decision F)
decision_of (Ends end) verdict = None
decision_of (Flies first) None = None
decision_of (Flies first) (Some verdict) = Some (record { first = first; verdict = verdict })

-- the decision at the entry with this number
abbrev pub decision_at : {F A : Type 0} → Scene F A → List Entry → ℕ → Option (Decision F)
decision_at s es number =
    option_and_then (λ e. decision_of (s.begins e.incarnation e.item) (decided_by s (take number es) e))
    (slice_get es number)

-- What the box sees at once: a packet and the verdict that was decided, or a removal, which has no verdict.
pub record Visit (A : Type 0) : Type 0 where
  pub arrival : A
  pub verdict : Option Verdict

-- a removal
abbrev pub removal : {A : Type 0} → A → Visit A
removal arrival = record { arrival = arrival; verdict = None }

-- the visit at this entry of the packet that is decided at the entry with the number `decider`, if its place is here
abbrev pub visit_by : {F A : Type 0} → Scene F A → List Entry → ℕ → Entry → ℕ → Option (Visit A)
visit_by s es number e decider =
    option_and_then (λ decision.
    if s.place es decider decision.first decision.verdict == number
    then Some (record { arrival = s.arrival decision.first e; verdict = Some decision.verdict })
    else None)
    (decision_at s es decider)

-- What the box sees at the entry e with this number: removals, then packets in the order of their deciding entries.
abbrev pub visits_of : {F A : Type 0} → Scene F A → List Entry → ℕ → Entry → List (Visit A)
visits_of s es number e = map removal (s.removals e)
    ++ filter_map (visit_by s es number e) (range_with_len 0 (length es))
