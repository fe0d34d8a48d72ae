-- Lanes, plans and entries of worked runs.
use Rattle.std.proofs.Common.{◌≡◌, ℕ, ◌&&◌, Bool, true, nat_le, Some, None, List, length}
use Rattle.std.specs.Prelude.{IsTrue}
use Rattle.std.proofs.lemmas.Bool.{and_parts, leb-true}
use Rattle.std.specs.List.{list_all}
use Rattle.slnf_access.specs.declared.requests.Request.{Request}
use Rattle.slnf_access.specs.declared.requests.Reply.{Reply}
use Rattle.slnf_access.specs.declared.requests.Entry.{Entry}
use Rattle.slnf_plan.specs.declared.plan.Epoch.{Epoch}
use Rattle.slnf_plan.specs.declared.plan.InstancePlan.{InstancePlan}
use Rattle.slnf_plan.specs.declared.plan.SweepPlan.{SweepPlan}
use Rattle.slnf_plan.specs.declared.plan.FunctionPlan.{FunctionPlan}
use Rattle.slnf_plan.specs.declared.plan.Plan.{Plan}
use Rattle.slnf_plan.specs.Ranges.{fits_function, has_instances, has_lanes_apart, has_places, has_sweep, has_actors}
use Rattle.slnf_flight.specs.declared.lanes.Taken.{Taken}
use Rattle.slnf_flight.specs.declared.lanes.Lane.{Lane}
use Rattle.slnf_flight.specs.Ranges.{is_taken}

abbrev pub lane_of : (packets : List Taken) → IsTrue (list_all is_taken packets) → Lane
lane_of packets fits = record { packets = packets; in_range = fits }

-- an instance of this lane, and one with this quota, or with this stop
abbrev pub on_lane : ℕ → InstancePlan
on_lane lane = record { lane = lane; quota = None; stop = None }

abbrev pub with_quota : ℕ → ℕ → InstancePlan
with_quota lane quota = record { lane = lane; quota = Some quota; stop = None }

abbrev pub with_stop : ℕ → ℕ → InstancePlan
with_stop lane stop = record { lane = lane; quota = None; stop = Some stop }

-- an epoch with these instances, active backends, sweep and schedule
abbrev pub epoch_of : List InstancePlan → List ℕ → SweepPlan → List ℕ → Epoch
epoch_of instances active sweep schedule =
    record { instances = instances; active = active; sweep = sweep; schedule = schedule }

-- a plan's ranges, as one test
abbrev pub is_plan : FunctionPlan → (shards batch : ℕ) → List Epoch → Bool
is_plan function shards batch epochs =
    (nat_le 1 shards && nat_le shards 64) && ((nat_le 1 batch && nat_le batch 32)
    && ((nat_le 1 (length epochs) && nat_le (length epochs) 1000)
    && (fits_function function && (list_all has_instances epochs && (list_all has_lanes_apart epochs
    && (list_all (has_places function) epochs
    && (list_all (has_sweep function) epochs && list_all has_actors epochs)))))))

abbrev pub plan_of : (function : FunctionPlan) (shards batch : ℕ) (epochs : List Epoch) →
    is_plan function shards batch epochs ≡ true → Plan
plan_of function shards batch epochs h =
    let a = and_parts (nat_le 1 shards && nat_le shards 64) _ h in
    let b = and_parts (nat_le 1 batch && nat_le batch 32) _ a.1 in
    let c = and_parts (nat_le 1 (length epochs) && nat_le (length epochs) 1000) _ b.1 in
    let d = and_parts (fits_function function) _ c.1 in
    let e = and_parts (list_all has_instances epochs) _ d.1 in
    let f = and_parts (list_all has_lanes_apart epochs) _ e.1 in
    let g = and_parts (list_all (has_places function) epochs) _ f.1 in
    let i = and_parts (list_all (has_sweep function) epochs) (list_all has_actors epochs) g.1 in
    record {
      function = function;
      shards = shards;
      batch = batch;
      epochs = epochs;
      some_shards = leb-true 1 shards (and_parts (nat_le 1 shards) (nat_le shards 64) a.0).0;
      few_shards = leb-true shards 64 (and_parts (nat_le 1 shards) (nat_le shards 64) a.0).1;
      some_batch = leb-true 1 batch (and_parts (nat_le 1 batch) (nat_le batch 32) b.0).0;
      few_batch = leb-true batch 32 (and_parts (nat_le 1 batch) (nat_le batch 32) b.0).1;
      some_epochs =
          leb-true 1 (length epochs) (and_parts (nat_le 1 (length epochs)) (nat_le (length epochs) 1000) c.0).0;
      few_epochs =
          leb-true (length epochs) 1000 (and_parts (nat_le 1 (length epochs)) (nat_le (length epochs) 1000) c.0).1;
      function_fits = d.0;
      instances_fit = e.0;
      lanes_apart = f.0;
      places_fit = g.0;
      sweeps_fit = i.0;
      actors_fit = i.1;
    }

-- an entry in shard 0
abbrev pub entry : (stamp incarnation item : ℕ) → Request → Reply → Entry
entry stamp incarnation item request reply = record {
  stamp = stamp;
  shard = 0;
  incarnation = incarnation;
  item = item;
  request = request;
  reply = reply;
}
