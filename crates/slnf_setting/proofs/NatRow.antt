-- A worked run: an orphan claim of a stopped instance, and a sweep that takes it away.
use Rattle.std.proofs.Common.{◌≤◌, ◌≡◌, ℕ, None, List, [], ◌∷◌, refl, arith}
use Rattle.slnf_base.specs.declared.addresses.Pair.{Pair}
use Rattle.slnf_base.specs.declared.addresses.Prefix.{Prefix}
use Rattle.slnf_base.specs.declared.packets.Proto.TheVariants.{Tcp, Udp}
use Rattle.slnf_base.specs.declared.packets.Packet.{Packet}
use Rattle.slnf_base.specs.declared.packets.Change.TheVariants.{Source}
use Rattle.slnf_base.specs.declared.packets.Verdict.TheVariants.{Emit, Lost}
use Rattle.slnf_base.specs.declared.plans.Pool.{Pool}
use Rattle.slnf_access.specs.declared.requests.Key.{Key}
use Rattle.slnf_access.specs.declared.requests.Value.{Value}
use Rattle.slnf_access.specs.declared.requests.Entry.{Entry}
use Rattle.slnf_access.specs.Machines.{Flies, Ends}
use Rattle.slnf_keys.specs.Layout.{pair_number, pair_at, pair_of, key_number, single_number}
use Rattle.slnf_keys.specs.Keys.{flow_key_number, port_key_number}
use Rattle.slnf_keys.specs.Values.{flow_to_number, flow_to_of, claim_number, claim_of}
use Rattle.slnf_plan.specs.declared.plan.FunctionPlan.TheVariants.{Nat}
use Rattle.slnf_plan.specs.declared.plan.SweepPlan.TheVariants.{No, Yes}
use Rattle.slnf_plan.specs.declared.plan.Plan.{Plan}
use Rattle.slnf_run.specs.Run.{IsRun}
use Rattle.slnf_run.specs.Verdicts.{verdicts_of}
use Rattle.slnf_run.specs.Scheduled.{usual_way, IsScheduled}
use Rattle.slnf_box.specs.Pools.{nat_of}
use Rattle.slnf_nat.specs.declared.flights.OutState.TheVariants.{Look}
use Rattle.slnf_nat.specs.Flights.{SweepPort, Out, Sweep}
use Rattle.slnf_nat.specs.Machine.{flow_key, port_key}
use Rattle.slnf_nat.specs.LeaksNothing.{LeaksNothing}
use Rattle.slnf_nat.proofs.PoolRows.{swept}
use Rattle.slnf_flight.specs.declared.lanes.Taken.TheVariants.{Seen}
use Rattle.slnf_flight.specs.declared.lanes.Lane.{Lane}
use Rattle.slnf_flight.specs.declared.flights.AnyFlight.TheVariants.{Nat as NatFlies}
use Rattle.slnf_flight.specs.PlanSetting.{setting_of}
use Rattle.slnf_setting.proofs.PlanSchedules.{run_of_schedule}
use Rattle.slnf_setting.proofs.RowParts.{lane_of, epoch_of, on_lane, with_stop, plan_of}
use Rattle.slnf_setting.specs.OneBoxOfPlan.{IsOneBoxOfPlan}
use Rattle.slnf_setting.proofs.PlanWhole.{one_box_of_plan, nothing_leaks_of_plan}

-- 10.0.0.0/8
abbrev pub ten : Prefix
ten = record { addr = 167772160; bits = 8; within = omega arith; zeros_after = refl }

-- 203.0.113.1, with the ports 40000 and 40001
abbrev pub outside : ℕ
outside = 3405803777

abbrev pub pool_to : (high : ℕ) → 40000 ≤ high → Pool
pool_to high in_order = record {
  inside = ten;
  outside = outside;
  low = 40000;
  high = high;
  in_order = in_order;
  registered = omega arith;
  apart = refl;
}

abbrev pool : Pool
pool = pool_to 40001 (omega arith)

abbrev plan : Plan
plan = plan_of (Nat pool) 1 1 (
    epoch_of (with_stop 0 2 ∷ []) [] No []
    ∷ epoch_of (on_lane 1 ∷ []) [] (Yes None) (0 ∷ 0 ∷ 1 ∷ 1 ∷ 1 ∷ 1 ∷ 0 ∷ [])
    ∷ []) refl

-- 10.0.0.5:5000, 10.0.0.6:5000 and 198.51.100.7:80
abbrev pub five : Pair
five = record { addr = 167772165; port = 5000 }

abbrev pub six : Pair
six = record { addr = 167772166; port = 5000 }

abbrev pub server : Pair
server = record { addr = 3325256711; port = 80 }

abbrev pub packet_f : Packet
packet_f = record { proto = Tcp; source = five; dest = server; flags = 2 }

abbrev pub packet_g : Packet
packet_g = record { proto = Tcp; source = six; dest = server; flags = 2 }

abbrev lanes : List Lane
lanes = lane_of (Seen packet_f ∷ []) refl ∷ lane_of (Seen packet_g ∷ []) refl ∷ []

-- how items begin: packets of the lanes, the ports of the pool, and nothing else
first_packet : (setting_of plan lanes).scene.begins 0 0 ≡ Flies (NatFlies (Out Look 0 packet_f))
first_packet = refl

next_packet : (setting_of plan lanes).scene.begins 1 0 ≡ Flies (NatFlies (Out Look 1 packet_g))
next_packet = refl

tcp_port : (setting_of plan lanes).scene.begins 2 1
    ≡ Flies (NatFlies (Sweep SweepPort Tcp (record { addr = outside; port = 40001 }) 1))
tcp_port = refl

udp_port : (setting_of plan lanes).scene.begins 2 2
    ≡ Flies (NatFlies (Sweep SweepPort Udp (record { addr = outside; port = 40000 }) 1))
udp_port = refl

no_port : (setting_of plan lanes).scene.begins 2 4 ≡ Ends None
no_port = refl

nobody : (setting_of plan lanes).scene.begins 3 0 ≡ Ends None
nobody = refl

items : (setting_of plan lanes).sweep_items ≡ 4
items = refl

abbrev pub port : ℕ → Pair
port number = record { addr = outside; port = number }

-- the keys of flows and ports, and their values
abbrev pub flow : Pair → Key
flow inside = record { 0 = flow_key Tcp inside }

abbrev pub tcp : ℕ → Key
tcp number = record { 0 = port_key Tcp (port number) }

abbrev pub claim : ℕ → Pair → Value
claim incarnation inside = record { 0 = claim_number (record { incarnation = incarnation; inside = inside }) }

abbrev pub to : ℕ → Value
to number = record { 0 = flow_to_number (record { outside = port number }) }

abbrev journal : List Entry
journal = swept

-- the schedule makes the journal
pub scheduled : IsScheduled (setting_of plan lanes) (usual_way (setting_of plan lanes).eras) journal
unfolding flow_key_number port_key_number single_number
    key_number pair_number flow_to_number claim_number claim_of pair_at pair_of flow_to_of
scheduled = record { accesses = journal; made = (2, ((refl, tt), (2, ((refl, (refl, tt)), refl)))); sorted = refl }

-- the stopped instance's packet is lost, and the other is emitted from the pool's first port
verdicts : verdicts_of (setting_of plan lanes) journal ≡ (Lost ∷ []) ∷ (Emit (Source (port 40000)) ∷ []) ∷ []
unfolding flow_key_number port_key_number single_number
    key_number pair_number flow_to_number claim_number claim_of pair_at pair_of flow_to_of
verdicts = refl

pub run : IsRun (setting_of plan lanes) journal
run = run_of_schedule plan lanes journal scheduled (omega arith)

pub boxed : IsOneBoxOfPlan plan lanes journal
boxed = one_box_of_plan plan lanes journal refl run

pub nothing_leaks : LeaksNothing (nat_of pool) (λ cells. cells) (setting_of plan lanes) journal
nothing_leaks = nothing_leaks_of_plan plan lanes journal pool refl refl run
