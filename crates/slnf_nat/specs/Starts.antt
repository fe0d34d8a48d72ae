-- How the packets of a pool's NAT and its sweeps' items begin.
use Rattle.std.specs.Prelude.{ℕ, ◌+◌, ◌-◌, ◌*◌, nat_lt, if◌then◌else◌, None}
use Rattle.slnf_base.specs.declared.addresses.Pair.{Pair}
use Rattle.slnf_base.specs.declared.packets.Proto.TheVariants.{Tcp, Udp}
use Rattle.slnf_base.specs.declared.packets.Packet.{Packet}
use Rattle.slnf_base.specs.declared.packets.Reason.TheVariants.{Neither}
use Rattle.slnf_base.specs.declared.plans.Pool.{Pool}
use Rattle.slnf_access.specs.declared.functions.Start.{Start}
use Rattle.slnf_access.specs.declared.functions.Start.TheVariants.{Go as StartGo, Over as StartOver}
use Rattle.slnf_access.specs.Machines.{Stand, Flies, Ends}
use Rattle.slnf_box.specs.Pools.{is_outbound, is_inbound, port_count}
use Rattle.slnf_nat.specs.Flights.{Look, LookPort, SweepPort, NatFlight, Out, In, Sweep}

-- how a packet begins
abbrev pub nat_starts : Pool → ℕ → ℕ → Packet → Start NatFlight
nat_starts pool incarnation number packet =
    if is_outbound pool packet then StartGo (Out Look incarnation packet)
    else (if is_inbound pool packet then StartGo (In LookPort packet) else StartOver Neither)

-- a pair of the pool, by its place
abbrev pub pool_port : Pool → ℕ → Pair
pool_port pool place = record { addr = pool.outside; port = pool.low + place }

-- how a sweep's item begins: the TCP ports in order, and then the UDP ports
abbrev pub sweep_item : Pool → ℕ → ℕ → Stand NatFlight
sweep_item pool base item =
    if nat_lt item (port_count pool) then Flies (Sweep SweepPort Tcp (pool_port pool item) base)
    else (if nat_lt item (2 * port_count pool)
    then Flies (Sweep SweepPort Udp (pool_port pool (item - port_count pool)) base)
    else Ends None)
