-- The NAT of a pool: each candidate is one of its pairs and in range.
use Rattle.std.proofs.Common.{◌≡◌, ℕ, ◌+◌, ◌-◌, ◌%◌, ◌^◌, ◌<◌, ◌≤◌, true, refl, arith, ap, sym, nat_le, ◌==◌, ◌&&◌}
use Rattle.std.proofs.lemmas.Bool.{eq-eqb, le-leb, and_from, and_parts, eqb-true, leb-true}
use Rattle.std.proofs.lemmas.Nat.{mod_below}
use Rattle.slnf_base.specs.declared.addresses.Pair.{Pair}
use Rattle.slnf_base.specs.declared.plans.Pool.{Pool}
use Rattle.slnf_base.specs.Ranges.{IsPair}
use Rattle.slnf_box.specs.Pools.{port_count, has_pair, nat_of, candidate, IsPool}
use Rattle.slnf_nat.specs.Given.{IsNat}
use Rattle.slnf_nat.proofs.Covering.{port_at, pair_made, offset_once}

-- a port of the pool is one of its ports
port_within : (pool : Pool) (n : ℕ) → n < port_count pool → (pool.low ≤ pool.low + n) × (pool.low + n ≤ pool.high)
port_within pool n h =
    let ordered : pool.low ≤ pool.high = pool.in_order in
    let below : n < pool.high - pool.low + 1 = h in
    (omega arith, omega arith)

-- a pair at a place of the pool is one of its pairs
pub port_has : (pool : Pool) (n : ℕ) → n < port_count pool
    → has_pair pool (record { addr = pool.outside; port = pool.low + n }) ≡ true
port_has pool n h =
    let r : (pool.low ≤ pool.low + n) × (pool.low + n ≤ pool.high) = port_within pool n h in
    and_from _ _ (eq-eqb pool.outside pool.outside refl)
    (and_from _ _ (le-leb pool.low (pool.low + n) r.0) (le-leb (pool.low + n) pool.high r.1))

pub port_fits : (pool : Pool) → pool.outside < 2 ^ 32 → pool.high < 2 ^ 16 → (n : ℕ) → n < port_count pool
    → IsPair (let pair : Pair = record { addr = pool.outside; port = pool.low + n } in pair)
port_fits pool outside high n h =
    let r : pool.low + n ≤ pool.high = (port_within pool n h).1 in
    record { addr_fits = outside; port_fits = omega (arith, r, high) }

-- a candidate's place is below the number of ports
place_below : (pool : Pool) (x : ℕ) → x % port_count pool < port_count pool
place_below pool x = mod_below x (port_count pool) (let some : 0 < pool.high - pool.low + 1 = omega arith in some)

-- each pair of the pool is a candidate of each flow
pub pool_covers : (pool : Pool) (inside port : Pair) → has_pair pool port ≡ true
    → (place : ℕ) × (place < port_count pool) × (candidate pool inside place ≡ port)
pool_covers pool inside port has =
    let a : ((port.addr == pool.outside) ≡ true) × ((nat_le pool.low port.port && nat_le port.port pool.high) ≡ true) =
    and_parts (port.addr == pool.outside) (nat_le pool.low port.port && nat_le port.port pool.high) has in
    let b : (nat_le pool.low port.port ≡ true) × (nat_le port.port pool.high ≡ true) =
    and_parts (nat_le pool.low port.port) (nat_le port.port pool.high) a.1 in
    let r : (place : ℕ) × (place < port_count pool)
    × (pool.low + ((inside.addr + inside.port) % port_count pool + place) % port_count pool ≡ port.port) =
    port_at pool.low pool.high (inside.addr + inside.port) port.port
    (leb-true pool.low port.port b.0) (leb-true port.port pool.high b.1) in
    (r.0, r.1, pair_made _ _ port (sym (eqb-true port.addr pool.outside a.0)) r.2)

pub pool_is_nat : (pool : Pool) → IsPool pool → IsNat (nat_of pool)
pool_is_nat pool fits = record {
  some = let some : 0 < pool.high - pool.low + 1 = omega arith in some;
  candidate_has = λ proto inside place. port_has pool _ (place_below pool _);
  candidate_allowed = λ proto inside place. port_has pool _ (place_below pool _);
  covers = λ proto inside port allowed. pool_covers pool inside port allowed;
  candidate_fits = λ proto inside place. port_fits pool fits.outside_fits fits.high_fits _ (place_below pool _);
}

-- each candidate is a pair of the pool
pub candidate_has : (pool : Pool) (inside : Pair) (place : ℕ) → has_pair pool (candidate pool inside place) ≡ true
candidate_has pool inside place = port_has pool _ (place_below pool _)

-- two places below the number of ports have two candidates
pub candidate_once : (pool : Pool) (inside : Pair) (a b : ℕ) → a < port_count pool → b < port_count pool →
    candidate pool inside a ≡ candidate pool inside b → a ≡ b
candidate_once pool inside a b less_a less_b same =
    let n : ℕ = port_count pool in
    let r : ℕ = (inside.addr + inside.port) % n in
    let ports : pool.low + (r + a) % n ≡ pool.low + (r + b) % n = ap (λ (p : Pair). p.port) same in
    let offsets : (r + a) % n ≡ (r + b) % n = omega (arith, ports) in
    offset_once n r a b (place_below pool (inside.addr + inside.port)) less_a less_b offsets
