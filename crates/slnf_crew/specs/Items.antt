-- What an actor works on: the packets of a lane under a function, or the ports of a sweep.
use Rattle.std.specs.Prelude.{ℕ, ◌*◌, List, length, slice_get}
use Rattle.slnf_run.specs.Images.{stand_as}
use Rattle.slnf_box.specs.Pools.{port_count}
use Rattle.slnf_nat.specs.Starts.{sweep_item}
use Rattle.slnf_sweep.specs.declared.sweeps.Sweep.{Sweep}
use Rattle.slnf_instance.specs.Items.{Workload}
use Rattle.slnf_flight.specs.declared.lanes.Taken.{Taken}
use Rattle.slnf_flight.specs.declared.flights.AnyFlight.{AnyFlight}
use Rattle.slnf_flight.specs.declared.flights.AnyFlight.TheVariants.{Nat as NatFlies}
use Rattle.slnf_flight.specs.declared.functions.AnyFunction.{AnyFunction}
use Rattle.slnf_flight.specs.Begins.{begins_with}
use Rattle.slnf_flight.specs.Functions.{any_behaviour}
use Rattle.slnf_crew.specs.FunctionMachine.{function_machine}
use Rattle.slnf_crew.specs.declared.items.Kind.{Kind}
use Rattle.slnf_crew.specs.declared.items.Kind.TheVariants.{Packets, Ports}

-- the packets of a lane, as an incarnation
abbrev pub packets_work : AnyFunction → List Taken → ℕ → Workload AnyFlight
packets_work function packets incarnation = record {
  machine = function_machine function;
  begins = λ number. begins_with ((any_behaviour function).begins incarnation number) (slice_get packets number);
  count = length packets;
}

-- the ports of a sweep
abbrev pub ports_work : AnyFunction → Sweep → Workload AnyFlight
ports_work function sweep = record {
  machine = function_machine function;
  begins = λ number. stand_as NatFlies (sweep_item sweep.pool sweep.base number);
  count = 2 * port_count sweep.pool;
}

-- either
abbrev pub work_of : AnyFunction → Kind → Workload AnyFlight
work_of function (Packets own) = packets_work function own.packets.now own.incarnation
work_of function (Ports sweep) = ports_work function sweep
