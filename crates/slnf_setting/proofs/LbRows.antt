-- Worked runs of a balancer: a return, batches, two shards, and a drain.
use Rattle.std.proofs.Common.{◌≡◌, List, [], ◌∷◌, refl, arith}
use Rattle.slnf_base.specs.declared.addresses.Pair.{Pair}
use Rattle.slnf_base.specs.declared.packets.Proto.TheVariants.{Udp}
use Rattle.slnf_base.specs.declared.packets.Change.TheVariants.{Source, Dest}
use Rattle.slnf_base.specs.declared.packets.Reason.TheVariants.{NotPinned}
use Rattle.slnf_base.specs.declared.packets.Verdict.TheVariants.{Emit, Dropped, Left}
use Rattle.slnf_access.specs.declared.requests.Entry.{Entry}
use Rattle.slnf_access.specs.declared.requests.Request.TheVariants.{Read, PutIfAbsent}
use Rattle.slnf_access.specs.declared.requests.Reply.TheVariants.{Done, Found, Absent}
use Rattle.slnf_keys.specs.Layout.{pair_number, pair_at, pair_of, key_number, single_number}
use Rattle.slnf_keys.specs.Keys.{pin_key_number}
use Rattle.slnf_keys.specs.Values.{pin_number, pin_of}
use Rattle.slnf_plan.specs.declared.plan.FunctionPlan.TheVariants.{Balancer}
use Rattle.slnf_plan.specs.declared.plan.SweepPlan.TheVariants.{No}
use Rattle.slnf_plan.specs.declared.plan.Plan.{Plan}
use Rattle.slnf_run.specs.Verdicts.{verdicts_of}
use Rattle.slnf_run.specs.Scheduled.{usual_way, IsScheduled}
use Rattle.slnf_lb.specs.Machine.{pin_key, pin_value}
use Rattle.slnf_setting.proofs.LbRow.{front, client, first, second, service}
use Rattle.slnf_flight.specs.declared.lanes.Taken.{Taken}
use Rattle.slnf_flight.specs.declared.lanes.Taken.TheVariants.{Seen}
use Rattle.slnf_flight.specs.declared.lanes.Lane.{Lane}
use Rattle.slnf_flight.specs.PlanSetting.{setting_of}
use Rattle.slnf_setting.proofs.PlanSchedules.{run_of_schedule}
use Rattle.slnf_setting.proofs.RowParts.{lane_of, epoch_of, on_lane, with_quota, entry, plan_of}
use Rattle.slnf_setting.specs.OneBoxOfPlan.{IsOneBoxOfPlan}
use Rattle.slnf_setting.proofs.PlanWhole.{one_box_of_plan}

abbrev pub next_client : Pair
next_client = record { addr = 3221225985; port = 4001 }

abbrev pub going : Pair → Taken
going from = Seen (record { proto = Udp; source = from; dest = front; flags = 0 })

abbrev coming : Pair → Taken
coming from = Seen (record { proto = Udp; source = from; dest = client; flags = 0 })

-- ---- two packets of a client, and one from each backend

abbrev return_plan : Plan
return_plan = plan_of (Balancer service) 1 1 (epoch_of (on_lane 0 ∷ []) (0 ∷ 1 ∷ []) No [] ∷ []) refl

abbrev return_lanes : List Lane
return_lanes = lane_of (going client ∷ going client ∷ coming first ∷ coming second ∷ []) refl ∷ []

abbrev return_journal : List Entry
return_journal =
    entry 1 0 0 (Read (pin_key Udp client)) Absent
    ∷ entry 2 0 0 (PutIfAbsent (pin_key Udp client) (pin_value first)) (Done 2)
    ∷ entry 3 0 1 (Read (pin_key Udp client)) (Found (pin_value first) 2)
    ∷ entry 4 0 2 (Read (pin_key Udp client)) (Found (pin_value first) 2)
    ∷ entry 5 0 3 (Read (pin_key Udp client)) (Found (pin_value first) 2)
    ∷ []

return_scheduled : IsScheduled (setting_of return_plan return_lanes)
    (usual_way (setting_of return_plan return_lanes).eras) return_journal
unfolding pin_key_number single_number key_number pair_number pin_number pin_of pair_of pair_at
return_scheduled = record { accesses = return_journal; made = (5, ((refl, tt), refl)); sorted = refl }

return_verdicts : verdicts_of (setting_of return_plan return_lanes) return_journal
    ≡ (Emit (Dest first) ∷ Emit (Dest first) ∷ Emit (Source front) ∷ Dropped NotPinned ∷ []) ∷ []
unfolding pin_key_number single_number key_number pair_number pin_number pin_of pair_of pair_at
return_verdicts = refl

pub return_boxed : IsOneBoxOfPlan return_plan return_lanes return_journal
return_boxed = one_box_of_plan return_plan return_lanes return_journal refl
    (run_of_schedule return_plan return_lanes return_journal return_scheduled (omega arith))

-- ---- batches of three packets, of which none has a first key twice

abbrev batch_plan : Plan
batch_plan = plan_of (Balancer service) 1 3 (epoch_of (on_lane 0 ∷ []) (0 ∷ 1 ∷ []) No [] ∷ []) refl

abbrev batch_lanes : List Lane
batch_lanes = lane_of (going client ∷ going next_client ∷ going client ∷ []) refl ∷ []

abbrev batch_journal : List Entry
batch_journal =
    entry 1 0 0 (Read (pin_key Udp client)) Absent
    ∷ entry 2 0 1 (Read (pin_key Udp next_client)) Absent
    ∷ entry 3 0 0 (PutIfAbsent (pin_key Udp client) (pin_value first)) (Done 3)
    ∷ entry 4 0 1 (PutIfAbsent (pin_key Udp next_client) (pin_value second)) (Done 4)
    ∷ entry 5 0 2 (Read (pin_key Udp client)) (Found (pin_value first) 3)
    ∷ []

batch_scheduled : IsScheduled (setting_of batch_plan batch_lanes)
    (usual_way (setting_of batch_plan batch_lanes).eras) batch_journal
unfolding pin_key_number single_number key_number pair_number pin_number pin_of pair_of pair_at
batch_scheduled = record { accesses = batch_journal; made = (5, ((refl, tt), refl)); sorted = refl }

batch_verdicts : verdicts_of (setting_of batch_plan batch_lanes) batch_journal
    ≡ (Emit (Dest first) ∷ Emit (Dest second) ∷ Emit (Dest first) ∷ []) ∷ []
unfolding pin_key_number single_number key_number pair_number pin_number pin_of pair_of pair_at
batch_verdicts = refl

pub batch_boxed : IsOneBoxOfPlan batch_plan batch_lanes batch_journal
batch_boxed = one_box_of_plan batch_plan batch_lanes batch_journal refl
    (run_of_schedule batch_plan batch_lanes batch_journal batch_scheduled (omega arith))

-- ---- two shards

abbrev shard_plan : Plan
shard_plan = plan_of (Balancer service) 2 1
    (epoch_of (on_lane 0 ∷ on_lane 1 ∷ []) (0 ∷ 1 ∷ []) No (0 ∷ 1 ∷ 0 ∷ 1 ∷ []) ∷ []) refl

abbrev shard_lanes : List Lane
shard_lanes = lane_of (going client ∷ []) refl ∷ lane_of (going next_client ∷ []) refl ∷ []

abbrev shard_journal : List Entry
shard_journal =
    entry 1 0 0 (Read (pin_key Udp client)) Absent
    ∷ record {
      stamp = 1;
      shard = 1;
      incarnation = 1;
      item = 0;
      request = Read
          (pin_key Udp next_client);
      reply = Absent;
    }
    ∷ entry 2 0 0 (PutIfAbsent (pin_key Udp client) (pin_value first)) (Done 2)
    ∷ record {
      stamp = 2;
      shard = 1;
      incarnation = 1;
      item = 0;
      request = PutIfAbsent (pin_key Udp next_client)
          (pin_value second);
      reply = Done 2;
    }
    ∷ []

shard_scheduled : IsScheduled (setting_of shard_plan shard_lanes)
    (usual_way (setting_of shard_plan shard_lanes).eras) shard_journal
unfolding pin_key_number single_number key_number pair_number pin_number pin_of pair_of pair_at
shard_scheduled = record { accesses = shard_journal; made = (0, ((refl, (refl, tt)), refl)); sorted = refl }

shard_verdicts : verdicts_of (setting_of shard_plan shard_lanes) shard_journal
    ≡ (Emit (Dest first) ∷ []) ∷ (Emit (Dest second) ∷ []) ∷ []
unfolding pin_key_number single_number key_number pair_number pin_number pin_of pair_of pair_at
shard_verdicts = refl

pub shard_boxed : IsOneBoxOfPlan shard_plan shard_lanes shard_journal
shard_boxed = one_box_of_plan shard_plan shard_lanes shard_journal refl
    (run_of_schedule shard_plan shard_lanes shard_journal shard_scheduled (omega arith))

-- ---- quotas: three packets in the first epoch, one in the next, and one is left

abbrev drain_plan : Plan
drain_plan = plan_of (Balancer service) 1 1
    (epoch_of (with_quota 0 3 ∷ []) (0 ∷ 1 ∷ []) No [] ∷ epoch_of (with_quota 0 1 ∷ []) (0 ∷ 1 ∷ []) No [] ∷ []) refl

abbrev drain_lanes : List Lane
drain_lanes = lane_of (going client ∷ going client ∷ going client ∷ going client ∷ going client ∷ []) refl ∷ []

abbrev drain_journal : List Entry
drain_journal =
    entry 1 0 0 (Read (pin_key Udp client)) Absent
    ∷ entry 2 0 0 (PutIfAbsent (pin_key Udp client) (pin_value first)) (Done 2)
    ∷ entry 3 0 1 (Read (pin_key Udp client)) (Found (pin_value first) 2)
    ∷ entry 4 0 2 (Read (pin_key Udp client)) (Found (pin_value first) 2)
    ∷ entry 5 1 3 (Read (pin_key Udp client)) (Found (pin_value first) 2)
    ∷ []

drain_scheduled : IsScheduled (setting_of drain_plan drain_lanes)
    (usual_way (setting_of drain_plan drain_lanes).eras) drain_journal
unfolding pin_key_number single_number key_number pair_number pin_number pin_of pair_of pair_at
drain_scheduled = record {
  accesses = drain_journal;
  made =
      (4, ((refl, tt), (1, ((refl, tt), refl))));
  sorted = refl;
}

drain_verdicts : verdicts_of (setting_of drain_plan drain_lanes) drain_journal
    ≡ (Emit (Dest first) ∷ Emit (Dest first) ∷ Emit (Dest first) ∷ Emit (Dest first) ∷ Left ∷ []) ∷ []
unfolding pin_key_number single_number key_number pair_number pin_number pin_of pair_of pair_at
drain_verdicts = refl

pub drain_boxed : IsOneBoxOfPlan drain_plan drain_lanes drain_journal
drain_boxed = one_box_of_plan drain_plan drain_lanes drain_journal refl
    (run_of_schedule drain_plan drain_lanes drain_journal drain_scheduled (omega arith))
