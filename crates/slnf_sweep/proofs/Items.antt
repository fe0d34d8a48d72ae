-- A sweep's item makes no more accesses than its port's flight may.
use Rattle.std.specs.Prelude.{ℕ, ◌*◌, ◌-◌, ◌<◌, ◌≤◌, Bool, true, false, nat_lt, if◌then◌else◌, None, List, [], ◌∷◌, length}
use Rattle.std.proofs.Common.{arith}
use Rattle.slnf_base.specs.declared.addresses.Pair.{Pair}
use Rattle.slnf_base.specs.declared.packets.Proto.{Proto}
use Rattle.slnf_base.specs.declared.packets.Proto.TheVariants.{Tcp, Udp}
use Rattle.slnf_base.specs.declared.plans.Pool.{Pool}
use Rattle.slnf_access.specs.declared.requests.Entry.{Entry}
use Rattle.slnf_access.specs.Machines.{Flies, Ends, IsPath}
use Rattle.slnf_box.specs.Nat.{Nat}
use Rattle.slnf_box.specs.Pools.{nat_of, port_count}
use Rattle.slnf_nat.specs.Flights.{SweepState, SweepPort, Sweep}
use Rattle.slnf_nat.specs.Machine.{nat_machine}
use Rattle.slnf_nat.specs.Starts.{pool_port, sweep_item}

-- a port's flight makes no more than three accesses
abbrev IsShort : Type 0
IsShort =
    (nat : Nat) (state : SweepState) (proto : Proto) (port : Pair) (base : ℕ) (own : List Entry) → 0 < nat.ports →
    IsPath (nat_machine nat) (Flies (Sweep state proto port base)) own → length own ≤ 3

of_two : (nat : Nat) (tcp udp : Bool) (a b : Pair) (base : ℕ) (own : List Entry) → IsShort → 0 < nat.ports →
    IsPath (nat_machine nat) (if tcp then Flies (Sweep SweepPort Tcp a base)
    else (if udp then Flies (Sweep SweepPort Udp b base) else Ends None)) own → length own ≤ 3
of_two nat true udp a b base own short some path = short nat SweepPort Tcp a base own some path
of_two nat false true a b base own short some path = short nat SweepPort Udp b base own some path
of_two nat false false a b base [] short some path = omega arith
of_two nat false false a b base (e ∷ own) short some path = absurd path.0

pub item_short : IsShort → (pool : Pool) (base item : ℕ) (own : List Entry) →
    IsPath (nat_machine (nat_of pool)) (sweep_item pool base item) own → length own ≤ 3
item_short short pool base item own path =
    of_two (nat_of pool) (nat_lt item (port_count pool)) (nat_lt item (2 * port_count pool)) (pool_port pool item)
    (pool_port pool (item - port_count pool)) base own short (omega arith) path
