-- The NAT of a pool: its directions and its candidates.
use Rattle.std.specs.Prelude.{ℕ, ◌+◌, ◌-◌, ◌%◌, ◌^◌, ◌<◌, Bool, not, ◌&&◌, ◌==◌, nat_le}
use Rattle.slnf_base.specs.declared.addresses.Pair.{Pair}
use Rattle.slnf_base.specs.declared.packets.Packet.{Packet}
use Rattle.slnf_base.specs.declared.plans.Pool.{Pool}
use Rattle.slnf_base.specs.Prefix.{is_inside}
use Rattle.slnf_box.specs.Nat.{Nat}

-- the packet goes out: from the inside, to neither the inside nor the outside address
abbrev pub is_outbound : Pool → Packet → Bool
is_outbound pool packet =
    is_inside pool.inside packet.source.addr
    && (not (is_inside pool.inside packet.dest.addr) && not (packet.dest.addr == pool.outside))

-- the packet comes in: to the outside address, and not from the inside
abbrev pub is_inbound : Pool → Packet → Bool
is_inbound pool packet = (packet.dest.addr == pool.outside) && not (is_inside pool.inside packet.source.addr)

-- an address has 32 bits and a port 16
pub record IsPool (pool : Pool) : Type 0 where
  pub outside_fits : pool.outside < 2 ^ 32
  pub high_fits : pool.high < 2 ^ 16

-- how many pairs the pool has: one of each port
abbrev pub port_count : Pool → ℕ
port_count pool = pool.high - pool.low + 1

-- the pair is one of the pool's
abbrev pub has_pair : Pool → Pair → Bool
has_pair pool pair = (pair.addr == pool.outside) && (nat_le pool.low pair.port && nat_le pair.port pool.high)

-- the candidate of a flow at this place: the pool's pairs in order, from one on that the flow's inside pair gives
abbrev pub candidate : Pool → Pair → ℕ → Pair
candidate pool inside place = record {
  addr = pool.outside;
  port = pool.low + ((inside.addr + inside.port) % port_count pool + place) % port_count pool;
}

-- the NAT of a pool, where each flow may have any of the pool's pairs
abbrev pub nat_of : Pool → Nat
nat_of pool = record {
  is_out = is_outbound pool;
  is_in = is_inbound pool;
  has = has_pair pool;
  allows = λ inside pair. has_pair pool pair;
  ports = port_count pool;
  candidate = λ proto inside place. candidate pool inside place;
}
