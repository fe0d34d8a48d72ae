-- A sweep of a NAT's plan has an item for each port of the pool, of both protocols, and no other item.
use Rattle.std.proofs.Common.{◌≡◌, ℕ, ◌+◌, ◌-◌, ◌*◌, ◌<◌, ◌≤◌, ◌==◌, ◌&&◌, true, false, nat_lt, nat_le, Some, None, List, slice_get, ap, sym, ◌∙◌, subst, arith}
use Rattle.std.proofs.lemmas.Bool.{and_parts, eqb-true, leb-true, lt-ltb, cond-true, cond-false}
use Rattle.std.proofs.lemmas.Bool.Decides.{nat_tests}
use Rattle.slnf_base.specs.declared.addresses.Pair.{Pair}
use Rattle.slnf_base.specs.declared.packets.Proto.{Proto}
use Rattle.slnf_base.specs.declared.packets.Proto.TheVariants.{Tcp, Udp}
use Rattle.slnf_base.specs.declared.plans.Pool.{Pool}
use Rattle.slnf_access.specs.Machines.{Stand, Flies}
use Rattle.slnf_run.specs.Setting.{Actor, Era, actors_of, own_base}
use Rattle.slnf_box.specs.Pools.{port_count, has_pair, nat_of}
use Rattle.slnf_nat.specs.Flights.{SweepPort, NatFlight, Sweep}
use Rattle.slnf_nat.specs.Leaks.{IsSweepOf}
use Rattle.slnf_nat.specs.LeaksNothing.{IsSweepItem}
use Rattle.slnf_flight.specs.declared.lanes.Lane.{Lane}
use Rattle.slnf_flight.specs.Begins.{begins_of}
use Rattle.slnf_nat.specs.Starts.{nat_starts, pool_port, sweep_item}
use Rattle.slnf_flight.specs.NatPlan.{nat_sweeps}
use Rattle.slnf_setting.proofs.Beginning.{begins_in_sweep}
use Rattle.slnf_nat.proofs.PacketEnds.{item_sweeps}

-- a pair with this address and this port
made : (pair : Pair) (addr port : ℕ) → pair.addr ≡ addr → pair.port ≡ port
    → let made : Pair = record { addr = addr; port = port } in made ≡ pair
made pair addr port a p =
    let at_addr : ℕ → Pair = λ n. record { addr = n; port = port } in
    let at_port : ℕ → Pair = λ n. record { addr = pair.addr; port = n } in
    ap at_addr (sym a) ∙ ap at_port (sym p)

-- each of the pool's pairs has a place
record IsAt (pool : Pool) (port : Pair) : Type 0 where
  pub place : ℕ
  pub below : place < port_count pool
  pub is : pool_port pool place ≡ port

place_of : (pool : Pool) (port : Pair) → has_pair pool port ≡ true → IsAt pool port
place_of pool port h =
    let parts : ((port.addr == pool.outside) ≡ true)
    × ((nat_le pool.low port.port && nat_le port.port pool.high) ≡ true) = and_parts (port.addr == pool.outside)
    (nat_le pool.low port.port && nat_le port.port pool.high) h in
    let bounds : (nat_le pool.low port.port ≡ true)
    × (nat_le port.port pool.high ≡ true) = and_parts (nat_le pool.low port.port)
    (nat_le port.port pool.high) parts.1 in
    let low : pool.low ≤ port.port = leb-true pool.low port.port bounds.0 in
    let high : port.port ≤ pool.high = leb-true port.port pool.high bounds.1 in
    record {
      place = port.port - pool.low;
      below = let b : port.port - pool.low < pool.high - pool.low + 1 = omega (arith, low, high) in b;
      is = made port pool.outside (pool.low + (port.port - pool.low)) (eqb-true port.addr pool.outside parts.0)
          (omega (arith, low));
    }

-- the items at the places of the TCP and the UDP ports
item_tcp : (pool : Pool) (base place : ℕ) → place < port_count pool
    → sweep_item pool base place ≡ Flies (Sweep SweepPort Tcp (pool_port pool place) base)
item_tcp pool base place h = cond-true (nat_lt place (port_count pool)) _ _ (lt-ltb place (port_count pool) h)

item_udp : (pool : Pool) (base place : ℕ) → place < port_count pool
    → sweep_item pool base (port_count pool + place) ≡ Flies (Sweep SweepPort Udp (pool_port pool place) base)
item_udp pool base place h =
    let behind : nat_lt (port_count pool + place) (port_count pool) ≡ false = grind (arith, nat_tests) in
    let within : nat_lt (port_count pool + place) (2 * port_count pool)
    ≡ true = lt-ltb (port_count pool + place) (2 * port_count pool) (omega (arith, h)) in
    let back : port_count pool + place - port_count pool ≡ place = omega arith in
    cond-false (nat_lt (port_count pool + place) (port_count pool)) _ _ behind
    ∙ cond-true (nat_lt (port_count pool + place) (2 * port_count pool)) _ _ within
    ∙ ap (λ n. Flies (Sweep SweepPort Udp (pool_port pool n) base)) back

module _ (pool : Pool) (eras : List Era) (lanes : List Lane) (i : ℕ) (actor : Actor)
    (at : slice_get (actors_of eras) i ≡ Some actor) (none : actor.lane ≡ None) where
  abbrev begins : ℕ → ℕ → Stand NatFlight
  begins = begins_of eras lanes (nat_starts pool) (nat_sweeps pool eras)

  begins_item : (k : ℕ) → begins i k ≡ sweep_item pool (own_base eras i) k
  begins_item k = begins_in_sweep eras lanes (nat_starts pool) (nat_sweeps pool eras) i k actor at none

  pub sweep_covers : IsSweepOf (nat_of pool) begins (2 * port_count pool) i (own_base eras i)
  sweep_covers proto port fits has used = go proto (place_of pool port has)
    where
      go : (proto : Proto) → IsAt pool port
          → (k : ℕ) × (k < 2 * port_count pool) × (begins i k ≡ Flies (Sweep SweepPort proto port (own_base eras i)))
      go Tcp r =
          let below : r.place < port_count pool = r.below in (
            r.place,
            omega (arith, below),
            begins_item r.place ∙ item_tcp pool (own_base eras i) r.place r.below
                ∙ ap (λ p. Flies (Sweep SweepPort Tcp p (own_base eras i))) r.is,
          )
      go Udp r =
          let below : r.place < port_count pool = r.below in (
            port_count pool + r.place,
            omega (arith, below),
            begins_item (port_count pool + r.place)
                ∙ item_udp pool (own_base eras i) r.place r.below
                ∙ ap (λ p. Flies (Sweep SweepPort Udp p (own_base eras i))) r.is,
          )

  pub sweep_alone : (k : ℕ) → IsSweepItem (begins i k)
  sweep_alone k = subst IsSweepItem (sym (begins_item k))
      (item_sweeps IsSweepItem pool (own_base eras i) k (λ proto place. tt) tt)
