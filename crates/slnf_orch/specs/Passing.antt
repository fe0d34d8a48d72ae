-- Epochs that pass: where a run of a plan stands between two of them.
use Rattle.std.specs.Prelude.{◌≡◌, ℕ, ◌<◌, ◌≤◌, List, [], length, drop}
use Rattle.std.specs.List.{AllByRecursion}
use Rattle.slnf_base.specs.declared.packets.Verdict.{Verdict}
use Rattle.slnf_access.specs.declared.requests.Entry.{Entry}
use Rattle.slnf_plan.specs.declared.plan.Plan.{Plan}
use Rattle.slnf_run.specs.Setting.{Setting, base_of, era_of}
use Rattle.slnf_run.specs.Parts.{part_of}
use Rattle.slnf_run.specs.Scheduled.{usual_way, Makes}
use Rattle.slnf_run.specs.SoFar.{HavePassed}
use Rattle.slnf_shards.specs.Parts.{ArePartsOf}
use Rattle.slnf_flight.specs.declared.lanes.Lane.{Lane}
use Rattle.slnf_flight.specs.PlanSetting.{setting_of}
use Rattle.slnf_ledger.specs.Ledger.{places_in, IsFitting}
use Rattle.slnf_ledger.specs.Told.{IsToldSoFar}

-- the lists have the same parts of all incarnations before this
abbrev pub SameBefore : ℕ → List Entry → List Entry → Type 0
SameBefore base es m = (i : ℕ) → i < base → part_of i m ≡ part_of i es

-- The shards' histories are those of these accesses, all of which were made before the epoch with this number, whose
-- first incarnation is this. No stamp is above their number.
pub record IsReady {F A : Type 0} (s : Setting F A) (m : List Entry) (number base : ℕ) (histories : List (List Entry))
    : Type 0 where
  pub count : length histories ≡ s.shards
  pub parts : ArePartsOf (era_of s.eras) m histories
  pub within : AllByRecursion (λ e. e.stamp ≤ length m) m
  pub latest : AllByRecursion (λ e. era_of s.eras e.incarnation < number) m
  pub before : AllByRecursion (λ e. e.incarnation < base) m

-- The accesses so far are the schedule's: what it makes of them from the epoch with this number on, it makes from the
-- first on.
pub record IsMadeSoFar {F A : Type 0} (s : Setting F A) (m : List Entry) (number base : ℕ) (places : ℕ → ℕ)
    : Type 0 where
  pub passed : HavePassed s (usual_way s.eras) number base places m
  pub makes : (all : List Entry) → Makes s (usual_way s.eras) base places (drop number s.eras) m all →
      Makes s (usual_way s.eras) 0 (λ lane. 0) s.eras [] all

-- A run of the plan stands before the epoch with this number, whose first incarnation is this: its accesses are in the
-- shards, and the verdicts so far in the ledger, which has a place for each lane that a plan may name.
pub record IsUnderWay (plan : Plan) (lanes : List Lane) (number base : ℕ) (histories : List (List Entry))
    (ledger : List (List Verdict)) : Type 0 where
  pub list : List Entry
  pub base_is : base ≡ base_of (setting_of plan lanes).eras number
  pub ready : IsReady (setting_of plan lanes) list number base histories
  pub made : IsMadeSoFar (setting_of plan lanes) list number base (places_in ledger)
  pub told : IsToldSoFar (setting_of plan lanes) (SameBefore base list) number base ledger
  pub fits : IsFitting lanes ledger
  pub lanes_are : length ledger ≡ 32

-- All epochs have passed.
pub record HaveAllPassed (plan : Plan) (lanes : List Lane) (histories : List (List Entry))
    (ledger : List (List Verdict)) : Type 0 where
  pub number : ℕ
  pub base : ℕ
  pub no_more : length plan.epochs ≤ number
  pub under_way : IsUnderWay plan lanes number base histories ledger
