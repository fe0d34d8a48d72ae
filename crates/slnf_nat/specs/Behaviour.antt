-- What the NAT's function does with packets.
use Rattle.slnf_base.specs.declared.packets.Verdict.TheVariants.{Lost}
use Rattle.slnf_base.specs.declared.plans.Pool.{Pool}
use Rattle.slnf_access.specs.declared.requests.Reply.{Reply}
use Rattle.slnf_access.specs.declared.functions.Step.{Step}
use Rattle.slnf_access.specs.declared.functions.Step.TheVariants.{Over as StepOver}
use Rattle.slnf_access.specs.Machines.{Behaviour}
use Rattle.slnf_box.specs.Nat.{Nat}
use Rattle.slnf_box.specs.Pools.{nat_of}
use Rattle.slnf_nat.specs.Flights.{NatFlight, Out, In, Sweep}
use Rattle.slnf_nat.specs.Machine.{nat_asks, goes_out, goes_in, nat_decided}
use Rattle.slnf_nat.specs.Starts.{nat_starts}

-- how a packet goes on; a sweep's port is none
abbrev pub nat_steps : Nat → NatFlight → Reply → Step NatFlight
nat_steps nat (Out state incarnation packet) reply = goes_out nat incarnation packet state reply
nat_steps nat (In state packet) reply = goes_in packet state reply
nat_steps nat (Sweep state proto port base) reply = StepOver Lost

abbrev pub nat_behaviour : Pool → Behaviour NatFlight
nat_behaviour pool = record {
  begins = nat_starts pool;
  asks = nat_asks (nat_of pool);
  goes = nat_steps (nat_of pool);
  decided = nat_decided;
}

-- the flight is a packet's
abbrev pub IsPacketFlight : NatFlight → Type 0
IsPacketFlight (Out state incarnation packet) = Unit {0}
IsPacketFlight (In state packet) = Unit {0}
IsPacketFlight (Sweep state proto port base) = ⊥
