-- The verdicts of each lane's packets so far, from epoch to epoch.
use Rattle.std.specs.Prelude.{ℕ, ◌+◌, ◌-◌, ◌≤◌, ◌≡◌, ◌==◌, if◌then◌else◌, Option, Some, None, List, [], ◌∷◌, ◌++◌, length, replicate, get_or, slice_get}
use Rattle.slnf_base.specs.declared.packets.Verdict.{Verdict}
use Rattle.slnf_base.specs.declared.packets.Verdict.TheVariants.{Left}
use Rattle.slnf_access.specs.declared.requests.Entry.{Entry}
use Rattle.slnf_plan.specs.declared.plan.InstancePlan.{InstancePlan}
use Rattle.slnf_run.specs.Jobs.{Job}
use Rattle.slnf_instance.specs.Ends.{verdicts_in}
use Rattle.slnf_instance.specs.declared.endings.Work.{Work}
use Rattle.slnf_flight.specs.declared.lanes.Lane.{Lane}
use Rattle.slnf_flight.specs.Lanes.{packets_on}

-- the verdicts of a lane's packets so far
abbrev pub verdicts_at : List (List Verdict) → ℕ → List Verdict
verdicts_at ledger lane = get_or ledger lane []

-- how far each lane has come
abbrev pub places_in : List (List Verdict) → ℕ → ℕ
places_in ledger lane = length (verdicts_at ledger lane)

-- how far the lane has come of the actor with this number, where the instances are these; a sweep's has none
abbrev pub place_at : (ℕ → ℕ) → List InstancePlan → ℕ → ℕ
place_at places instances number = elim (slice_get instances number) [ None ↦ 0 | Some i ↦ places i.lane ]

-- no lane has come farther than its packets
abbrev pub IsFitting : List Lane → List (List Verdict) → Type 0
IsFitting lanes ledger = (lane : ℕ) → places_in ledger lane ≤ length (packets_on lanes lane)

-- what these verdicts of an actor add to a lane: those of an instance to its own
abbrev pub added_by : Option InstancePlan → List Verdict → ℕ → List Verdict
added_by None verdicts lane = []
added_by (Some i) verdicts lane = if i.lane == lane then verdicts else []

-- what the actor of an instance gives to a lane, after these entries of its own
abbrev pub given_by : {F : Type 0} → Job F → List Entry → InstancePlan → ℕ → List Verdict
given_by job own i lane = added_by (Some i) (verdicts_in job own) lane

-- What the actors of these instances give to a lane, by their jobs and their own entries. The first has this number.
abbrev pub given_from : {F : Type 0} → (ℕ → InstancePlan → Job F) → (ℕ → List Entry) → ℕ → List InstancePlan → ℕ
    → List Verdict
given_from jobs owns number [] lane = []
given_from jobs owns number (i ∷ instances) lane =
    given_by (jobs number i) (owns number) i lane ++ given_from jobs owns (number + 1) instances lane

-- the actors of these instances did so, by their jobs and their own entries
abbrev pub DidSo : {F : Type 0} → (ℕ → InstancePlan → Job F) → (ℕ → List Entry) → List Work → List InstancePlan → Type 0
DidSo jobs owns works instances = (k : ℕ) (work : Work) (i : InstancePlan) → slice_get works k ≡ Some work →
    slice_get instances k ≡ Some i → work.verdicts.items ≡ verdicts_in (jobs k i) (owns k)

-- a lane's verdicts in the end: each packet that nobody took is left
abbrev pub filled : List Verdict → ℕ → List Verdict
filled verdicts count = verdicts ++ replicate (count - length verdicts) Left

-- the verdicts of these lanes in the end, of which the first has this number
abbrev pub filled_from : List (List Verdict) → ℕ → List Lane → List (List Verdict)
filled_from ledger number [] = []
filled_from ledger number (lane ∷ lanes) =
    filled (verdicts_at ledger number) (length lane.packets) ∷ filled_from ledger (number + 1) lanes
