-- The setting of a plan and its lanes.
use Rattle.std.specs.Prelude.{ℕ, ◌*◌, Option, Some, None, List, refl}
use Rattle.slnf_base.specs.declared.addresses.Pair.{Pair}
use Rattle.slnf_base.specs.declared.packets.Packet.{Packet}
use Rattle.slnf_base.specs.declared.packets.Proto.TheVariants.{Tcp}
use Rattle.slnf_base.specs.declared.plans.Pool.{Pool}
use Rattle.slnf_base.specs.declared.plans.Service.{Service}
use Rattle.slnf_plan.specs.declared.plan.FunctionPlan.{FunctionPlan}
use Rattle.slnf_plan.specs.declared.plan.FunctionPlan.TheVariants.{Nat, Firewall, Balancer}
use Rattle.slnf_plan.specs.declared.plan.Epoch.{Epoch}
use Rattle.slnf_plan.specs.declared.plan.Plan.{Plan}
use Rattle.slnf_run.specs.Scene.{Scene}
use Rattle.slnf_run.specs.Setting.{Setting}
use Rattle.slnf_box.specs.LbBox.{LbArrival}
use Rattle.slnf_box.specs.NatBox.{NatArrival}
use Rattle.slnf_box.specs.Pools.{port_count, nat_of}
use Rattle.slnf_box.specs.declared.policies.Policy.{Policy}
use Rattle.slnf_nat.specs.Flights.{NatFlight}
use Rattle.slnf_nat.specs.NatScene.{nat_scene}
use Rattle.slnf_fw.specs.Flight.{Flying as FwFlying}
use Rattle.slnf_fw.specs.Scene.{fw_scene}
use Rattle.slnf_lb.specs.Flight.{Flying as LbFlying}
use Rattle.slnf_lb.specs.Scene.{lb_scene}
use Rattle.slnf_flight.specs.declared.lanes.Lane.{Lane}
use Rattle.slnf_flight.specs.Lanes.{lane_sizes}
use Rattle.slnf_flight.specs.Actors.{eras_of}
use Rattle.slnf_flight.specs.declared.flights.AnyFlight.{AnyFlight}
use Rattle.slnf_flight.specs.declared.flights.AnyFlight.TheVariants.{Nat as NatFlies, Firewall as FwFlies, Balancer as LbFlies}
use Rattle.slnf_flight.specs.Flights.{nat_flight, fw_flight, lb_flight, Arrival}
use Rattle.slnf_run.specs.Cases.{Case, case_scene}
use Rattle.slnf_flight.specs.Begins.{begins_of, no_sweeps}
use Rattle.slnf_nat.specs.Starts.{nat_starts}
use Rattle.slnf_flight.specs.NatPlan.{nat_sweeps}
use Rattle.slnf_flight.specs.FwPlan.{policy_with, fw_starts}
use Rattle.slnf_flight.specs.LbPlan.{lb_starts}

-- each function's own scene
abbrev pub nat_own : Pool → List Epoch → List Lane → Scene NatFlight NatArrival
nat_own pool epochs lanes =
    nat_scene (nat_of pool) (begins_of (eras_of epochs) lanes (nat_starts pool) (nat_sweeps pool (eras_of epochs)))

abbrev pub fw_own : Policy → List Epoch → List Lane → Scene FwFlying Packet
fw_own policy epochs lanes = fw_scene policy (begins_of (eras_of epochs) lanes (fw_starts policy) no_sweeps)

abbrev pub lb_own : Service → List Epoch → List Lane → Scene LbFlying LbArrival
lb_own service epochs lanes = lb_scene service (begins_of (eras_of epochs) lanes (lb_starts service epochs) no_sweeps)

-- what is seen of another function's flight
abbrev pub blank : Arrival
blank = record {
  packet = record {
    proto = Tcp;
    source = record { addr = 0; port = 0 };
    dest = record { addr = 0; port = 0 };
    flags = 0;
  };
  choice = None;
  time = 0;
}

-- a choice, or else zeros
abbrev pub or_zeros : Option Pair → Pair
or_zeros None = record { addr = 0; port = 0 }
or_zeros (Some pair) = pair

-- what a NAT's box sees
abbrev pub nat_arrival_of : Arrival → NatArrival
nat_arrival_of arrival = record { packet = arrival.packet; choice = arrival.choice }

-- what a balancer's box sees
abbrev pub lb_arrival_of : Arrival → LbArrival
lb_arrival_of arrival = record { packet = arrival.packet; choice = or_zeros arrival.choice }

-- how each function is a case
abbrev pub nat_case : Case NatFlight AnyFlight NatArrival Arrival
nat_case = record {
  into = NatFlies;
  own = nat_flight;
  own_into = λ flight. refl;
  seen = λ arrival. record { packet = arrival.packet; choice = arrival.choice; time = 0 };
  view = nat_arrival_of;
  view_seen = λ arrival. refl;
  blank = blank;
}

abbrev pub fw_case : Case FwFlying AnyFlight Packet Arrival
fw_case = record {
  into = FwFlies;
  own = fw_flight;
  own_into = λ flight. refl;
  seen = λ packet. record { packet = packet; choice = None; time = 0 };
  view = λ arrival. arrival.packet;
  view_seen = λ packet. refl;
  blank = blank;
}

abbrev pub lb_case : Case LbFlying AnyFlight LbArrival Arrival
lb_case = record {
  into = LbFlies;
  own = lb_flight;
  own_into = λ flight. refl;
  seen = λ arrival. record { packet = arrival.packet; choice = Some arrival.choice; time = 0 };
  view = lb_arrival_of;
  view_seen = λ arrival. refl;
  blank = blank;
}

-- the scene of a function with these epochs and lanes
abbrev pub scene_of : FunctionPlan → List Epoch → List Lane → Scene AnyFlight Arrival
scene_of (Nat pool) epochs lanes = case_scene nat_case (nat_own pool epochs lanes)
scene_of (Firewall inside rules) epochs lanes = case_scene fw_case (fw_own (policy_with inside rules) epochs lanes)
scene_of (Balancer service) epochs lanes = case_scene lb_case (lb_own service epochs lanes)

-- how many items a sweep has: the TCP and the UDP ports of the pool
abbrev pub sweep_items_of : FunctionPlan → ℕ
sweep_items_of (Nat pool) = 2 * port_count pool
sweep_items_of (Firewall inside rules) = 0
sweep_items_of (Balancer service) = 0

-- the setting of these shards, batches, epochs, lanes and sweeps, with this scene
abbrev pub setting_with : {F A : Type 0} → (shards batch : ℕ) → List Epoch → List Lane → ℕ → Scene F A → Setting F A
setting_with shards batch epochs lanes sweep_items scene = record {
  shards = shards;
  batch = batch;
  lanes = lane_sizes lanes;
  sweep_items = sweep_items;
  eras = eras_of epochs;
  scene = scene;
}

-- The setting of a plan and its lanes.
abbrev pub setting_of : Plan → List Lane → Setting AnyFlight Arrival
setting_of plan lanes =
    setting_with plan.shards plan.batch plan.epochs lanes (sweep_items_of plan.function)
    (scene_of plan.function plan.epochs lanes)
