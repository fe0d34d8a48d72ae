-- What a worked run says: of a plan with this function and these epochs, over these lanes.
use Rattle.std.specs.Prelude.{◌≡◌, ℕ, IsTrue, Some, None, List, [], ◌∷◌, slice_get}
use Rattle.std.specs.List.{list_all}
use Rattle.slnf_base.specs.declared.packets.Verdict.{Verdict}
use Rattle.slnf_access.specs.declared.requests.Entry.{Entry}
use Rattle.slnf_access.specs.declared.requests.Request.{Request}
use Rattle.slnf_access.specs.declared.requests.Request.TheVariants.{Read, PutIfAbsent, ReplaceIf, DeleteIf}
use Rattle.slnf_access.specs.declared.requests.Reply.{Reply}
use Rattle.slnf_access.specs.declared.requests.Reply.TheVariants.{Found}
use Rattle.slnf_plan.specs.declared.plan.Epoch.{Epoch}
use Rattle.slnf_plan.specs.declared.plan.FunctionPlan.{FunctionPlan}
use Rattle.slnf_plan.specs.declared.plan.InstancePlan.{InstancePlan}
use Rattle.slnf_plan.specs.declared.plan.Plan.{Plan}
use Rattle.slnf_plan.specs.declared.plan.SweepPlan.TheVariants.{No}
use Rattle.slnf_run.specs.Visits.{Visit, visits_of}
use Rattle.slnf_run.specs.Scheduled.{usual_way, IsScheduled}
use Rattle.slnf_run.specs.Verdicts.{verdicts_of}
use Rattle.slnf_flight.specs.declared.lanes.Lane.{Lane}
use Rattle.slnf_flight.specs.declared.lanes.Taken.{Taken}
use Rattle.slnf_flight.specs.Ranges.{is_taken}
use Rattle.slnf_flight.specs.Actors.{eras_of}
use Rattle.slnf_flight.specs.Flights.{Arrival}
use Rattle.slnf_flight.specs.PlanSetting.{setting_of}

-- A worked run: what its plan has beside its function, its lanes, and the journal and verdicts that they are to have.
pub record Row : Type 0 where
  pub shards : ℕ
  pub batch : ℕ
  pub epochs : List Epoch
  pub lanes : List Lane
  pub journal : List Entry
  pub verdicts : List (List Verdict)

-- a row with one shard, whose packets go one by one
abbrev pub row_of : List Epoch → List Lane → List Entry → List (List Verdict) → Row
row_of epochs lanes journal verdicts = record {
  shards = 1;
  batch = 1;
  epochs = epochs;
  lanes = lanes;
  journal = journal;
  verdicts = verdicts;
}

-- a lane of packets whose numbers are in the ranges of their types
abbrev pub lane_of : (packets : List Taken) → IsTrue (list_all is_taken packets) → Lane
lane_of packets fits = record { packets = packets; in_range = fits }

-- The plan is the row's, and its function is one of these.
pub record IsPlanOf (IsOf : FunctionPlan → Type 0) (row : Row) (plan : Plan) : Type 0 where
  pub function : IsOf plan.function
  pub shards : plan.shards ≡ row.shards
  pub batch : plan.batch ≡ row.batch
  pub epochs : plan.epochs ≡ row.epochs

-- There is such a plan, its schedule makes the journal, and the packets have these verdicts.
pub record Gives (IsOf : FunctionPlan → Type 0) (row : Row) : Type 0 where
  pub plan : Plan
  pub is_plan : IsPlanOf IsOf row plan
  pub scheduled : IsScheduled (setting_of plan row.lanes) (usual_way (eras_of plan.epochs)) row.journal
  pub verdicts : verdicts_of (setting_of plan row.lanes) row.journal ≡ row.verdicts

-- and at the entry with this number the box sees these visits
abbrev pub GivesVisits : (FunctionPlan → Type 0) → Row → ℕ → Entry → List (Visit Arrival) → Type 0
GivesVisits IsOf row number e visits =
    (gives : Gives IsOf row) × (slice_get row.journal number ≡ Some e)
    × (visits_of (setting_of gives.plan row.lanes).scene row.journal number e ≡ visits)

-- an instance of a lane, one with a quota, and one with a stop
abbrev pub on_lane : ℕ → InstancePlan
on_lane lane = record { lane = lane; quota = None; stop = None }

abbrev pub with_quota : ℕ → ℕ → InstancePlan
with_quota lane quota = record { lane = lane; quota = Some quota; stop = None }

abbrev pub with_stop : ℕ → ℕ → InstancePlan
with_stop lane stop = record { lane = lane; quota = None; stop = Some stop }

-- an epoch without a sweep
abbrev pub epoch_of : List InstancePlan → List ℕ → List ℕ → Epoch
epoch_of instances active schedule =
    record { instances = instances; active = active; sweep = No; schedule = schedule }

-- one epoch of an instance of lane 0 with these active backends, and one of instances of the lanes 0 and 1 that take
-- such turns
abbrev pub one_instance : List ℕ → List Epoch
one_instance active = epoch_of (on_lane 0 ∷ []) active [] ∷ []

abbrev pub two_instances : List ℕ → List ℕ → List Epoch
two_instances active schedule = epoch_of (on_lane 0 ∷ on_lane 1 ∷ []) active schedule ∷ []

-- an entry in this shard, and one in shard 0
abbrev pub entry_in : (shard stamp incarnation item : ℕ) → Request → Reply → Entry
entry_in shard stamp incarnation item request reply = record {
  stamp = stamp;
  shard = shard;
  incarnation = incarnation;
  item = item;
  request = request;
  reply = reply;
}

abbrev pub entry : (stamp incarnation item : ℕ) → Request → Reply → Entry
entry stamp incarnation item request reply = entry_in 0 stamp incarnation item request reply

-- accesses by the numbers of keys and values
abbrev pub read : ℕ → Request
read key = Read (record { 0 = key })

abbrev pub put : ℕ → ℕ → Request
put key value = PutIfAbsent (record { 0 = key }) (record { 0 = value })

abbrev pub replace_at : ℕ → ℕ → ℕ → Request
replace_at key version value = ReplaceIf (record { 0 = key }) version (record { 0 = value })

abbrev pub delete_at : ℕ → ℕ → Request
delete_at key version = DeleteIf (record { 0 = key }) version

abbrev pub found : ℕ → ℕ → Reply
found value version = Found (record { 0 = value }) version
