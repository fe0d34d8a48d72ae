-- A NAT's item makes at most as many accesses as its kind does.
use Rattle.std.proofs.Common.{ℕ, ◌≤◌, ◌<◌, List, length}
use Rattle.slnf_base.specs.declared.packets.Packet.{Packet}
use Rattle.slnf_access.specs.declared.requests.Entry.{Entry}
use Rattle.slnf_access.specs.Machines.{Stand, Flies, Ends, IsPath}
use Rattle.slnf_box.specs.Nat.{Nat}
use Rattle.slnf_nat.specs.Flights.{NatFlight, Out, In, Sweep}
use Rattle.slnf_nat.specs.Machine.{nat_machine}
use Rattle.slnf_nat.proofs.Ranks.{out_short, in_short, sweep_short}
use Rattle.slnf_run.specs.Images.{stand_as}
use Rattle.slnf_setting.specs.Bound.{most_at}
use Rattle.slnf_flight.specs.declared.flights.AnyFlight.TheVariants.{Nat as NatFlies}
use Rattle.slnf_setting.proofs.Shortness.{ended_short}

pub nat_short : (nat : Nat) → 0 < nat.ports → (others : Packet → ℕ) (st : Stand NatFlight) (own : List Entry) →
    IsPath (nat_machine nat) st own → length own ≤ most_at nat.ports others (stand_as NatFlies st)
nat_short nat some others (Flies (Out state incarnation packet)) own path =
    out_short nat state incarnation packet own some path
nat_short nat some others (Flies (In state packet)) own path = in_short nat state packet own some path
nat_short nat some others (Flies (Sweep state proto port base)) own path =
    sweep_short nat state proto port base own some path
nat_short nat some others (Ends end) own path = ended_short (nat_machine nat) end own path
