-- A worked run: two instances of a balancer, each with a packet of one client.
use Rattle.std.proofs.Common.{◌≡◌, Some, None, List, [], ◌∷◌, refl, arith}
use Rattle.slnf_base.specs.declared.addresses.Pair.{Pair}
use Rattle.slnf_base.specs.declared.packets.Proto.TheVariants.{Udp}
use Rattle.slnf_base.specs.declared.packets.Packet.{Packet}
use Rattle.slnf_base.specs.declared.packets.Change.TheVariants.{Dest}
use Rattle.slnf_base.specs.declared.packets.Verdict.TheVariants.{Emit}
use Rattle.slnf_base.specs.declared.plans.Service.{Service}
use Rattle.slnf_access.specs.declared.requests.Entry.{Entry}
use Rattle.slnf_access.specs.declared.requests.Request.TheVariants.{Read, PutIfAbsent}
use Rattle.slnf_access.specs.declared.requests.Reply.TheVariants.{Done, Found, Absent}
use Rattle.slnf_access.specs.Machines.{Flies, Ends}
use Rattle.slnf_keys.specs.Layout.{pair_number, pair_at, pair_of, key_number, single_number}
use Rattle.slnf_keys.specs.Keys.{pin_key_number}
use Rattle.slnf_keys.specs.Values.{pin_number, pin_of}
use Rattle.slnf_plan.specs.declared.plan.FunctionPlan.TheVariants.{Balancer}
use Rattle.slnf_plan.specs.declared.plan.SweepPlan.TheVariants.{No}
use Rattle.slnf_plan.specs.declared.plan.Plan.{Plan}
use Rattle.slnf_run.specs.Visits.{visits_of}
use Rattle.slnf_run.specs.Boxes.{content_after}
use Rattle.slnf_run.specs.Run.{IsRun}
use Rattle.slnf_run.specs.Verdicts.{verdicts_of}
use Rattle.slnf_run.specs.Scheduled.{usual_way, IsScheduled}
use Rattle.slnf_lb.specs.declared.flights.LbState.TheVariants.{Forward}
use Rattle.slnf_lb.specs.Machine.{pin_key, pin_value}
use Rattle.slnf_flight.specs.declared.lanes.Taken.TheVariants.{Seen}
use Rattle.slnf_flight.specs.declared.lanes.Lane.{Lane}
use Rattle.slnf_flight.specs.declared.flights.AnyFlight.TheVariants.{Balancer as LbFlies}
use Rattle.slnf_flight.specs.PlanSetting.{setting_of}
use Rattle.slnf_setting.proofs.PlanSchedules.{run_of_schedule}
use Rattle.slnf_setting.proofs.RowParts.{lane_of, epoch_of, on_lane, entry, plan_of}
use Rattle.slnf_setting.specs.OneBoxOfPlan.{any_lb_box, IsOneBoxOfPlan}
use Rattle.slnf_setting.proofs.PlanWhole.{one_box_of_plan}

-- 198.51.100.10:53, 192.0.2.1:4000, 10.1.0.1:53 and 10.1.0.2:53
abbrev pub front : Pair
front = record { addr = 3325256714; port = 53 }

abbrev pub client : Pair
client = record { addr = 3221225985; port = 4000 }

abbrev pub first : Pair
first = record { addr = 167837697; port = 53 }

abbrev pub second : Pair
second = record { addr = 167837698; port = 53 }

abbrev pub service : Service
service = record { proto = Udp; front = front; backends = first ∷ second ∷ [] }

abbrev plan : Plan
plan = plan_of (Balancer service) 1 1
    (epoch_of (on_lane 0 ∷ on_lane 1 ∷ []) (0 ∷ 1 ∷ []) No (0 ∷ 1 ∷ 0 ∷ 1 ∷ []) ∷ []) refl

abbrev packet : Packet
packet = record { proto = Udp; source = client; dest = front; flags = 0 }

abbrev lanes : List Lane
lanes = lane_of (Seen packet ∷ []) refl ∷ lane_of (Seen packet ∷ []) refl ∷ []

-- the second instance's packet has the second backend as its choice
chosen : (setting_of plan lanes).scene.begins 1 0 ≡ Flies
    (LbFlies (record { state = Forward; packet = packet; choice = second }))
chosen = refl

-- no packet has the number 1, and no incarnation the number 2
nothing : (setting_of plan lanes).scene.begins 1 1 ≡ Ends None
nothing = refl

nobody : (setting_of plan lanes).scene.begins 2 0 ≡ Ends None
nobody = refl

abbrev journal : List Entry
journal =
    entry 1 0 0 (Read (pin_key Udp client)) Absent
    ∷ entry 2 1 0 (Read (pin_key Udp client)) Absent
    ∷ entry 3 0 0 (PutIfAbsent (pin_key Udp client) (pin_value first)) (Done 3)
    ∷ entry 4 1 0 (PutIfAbsent (pin_key Udp client) (pin_value second)) (Found (pin_value first) 3)
    ∷ []

-- the schedule makes the journal
pub scheduled : IsScheduled (setting_of plan lanes) (usual_way (setting_of plan lanes).eras) journal
unfolding pin_key_number single_number key_number pair_number pin_number pin_of pair_of pair_at
scheduled = record { accesses = journal; made = (0, ((refl, (refl, tt)), refl)); sorted = refl }

-- both packets go to the first backend
verdicts : verdicts_of (setting_of plan lanes) journal ≡ (Emit (Dest first) ∷ []) ∷ (Emit (Dest first) ∷ []) ∷ []
unfolding pin_key_number single_number key_number pair_number pin_number pin_of pair_of pair_at
verdicts = refl

-- the box sees the second packet at its put, with its own choice, and gives it the first packet's backend
place : visits_of (setting_of plan lanes).scene journal 3
    (entry 4 1 0 (PutIfAbsent (pin_key Udp client) (pin_value second)) (Found (pin_value first) 3))
    ≡ record {
      arrival = record { packet = packet; choice = Some second; time = 0 };
      verdict = Some (Emit (Dest first));
    } ∷ []
unfolding pin_key_number single_number key_number pair_number pin_number pin_of pair_of pair_at
place = refl

content : content_after (setting_of plan lanes).scene (any_lb_box service) journal 4 Udp client ≡ Some first
unfolding pin_key_number single_number key_number pair_number pin_number pin_of pair_of pair_at
content = refl

pub run : IsRun (setting_of plan lanes) journal
run = run_of_schedule plan lanes journal scheduled (omega arith)

pub boxed : IsOneBoxOfPlan plan lanes journal
boxed = one_box_of_plan plan lanes journal refl run
