-- Ranges of lanes and backends, from tests that compute.
use Rattle.std.proofs.Common.{◌≡◌, ℕ, zero, suc, ◌^◌, true, nat_lt, Some, List, [], ◌∷◌, slice_get}
use Rattle.std.specs.List.{list_all}
use Rattle.std.proofs.lemmas.Bool.{and_parts, ltb-true}
use Rattle.slnf_base.specs.declared.addresses.Pair.{Pair}
use Rattle.slnf_base.specs.declared.packets.Packet.{Packet}
use Rattle.slnf_base.specs.Ranges.{IsPair, is_pair}
use Rattle.slnf_flight.specs.declared.lanes.Taken.TheVariants.{Seen}
use Rattle.slnf_flight.specs.declared.lanes.Lane.{Lane}
use Rattle.slnf_flight.specs.Lanes.{packet_at}
use Rattle.slnf_flight.specs.Ranges.{is_taken}
use Rattle.slnf_setting.proofs.LanesApart.{all_at}

pub pair_fits : (pair : Pair) → is_pair pair ≡ true → IsPair pair
pair_fits pair h =
    let parts : (nat_lt pair.addr (2 ^ 32) ≡ true)
    × (nat_lt pair.port (2 ^ 16) ≡ true) = and_parts (nat_lt pair.addr (2 ^ 32)) (nat_lt pair.port (2 ^ 16)) h in
    record { addr_fits = ltb-true pair.addr (2 ^ 32) parts.0; port_fits = ltb-true pair.port (2 ^ 16) parts.1 }

-- each captured packet's pairs are in range
abbrev pub LanesFit : List Lane → Type 0
LanesFit lanes = (lane number : ℕ) (packet : Packet) → packet_at lanes number (Some lane)
    ≡ Some (Seen packet) → IsPair packet.source × IsPair packet.dest

-- each of these is
abbrev pub PairsFit : List Pair → Type 0
PairsFit pairs = (n : ℕ) (pair : Pair) → slice_get pairs n ≡ Some pair → IsPair pair

pub lanes_fit : (lanes : List Lane) → LanesFit lanes
lanes_fit [] lane number packet at = absurd (cc)
lanes_fit (first ∷ lanes) zero number packet at =
    let parts : (is_pair packet.source ≡ true) × (is_pair packet.dest ≡ true) =
    and_parts (is_pair packet.source) (is_pair packet.dest)
    (all_at is_taken first.packets number (Seen packet) first.in_range at) in
    (pair_fits packet.source parts.0, pair_fits packet.dest parts.1)
lanes_fit (first ∷ lanes) (suc lane) number packet at = lanes_fit lanes lane number packet at

pub pairs_fit : (pairs : List Pair) → list_all is_pair pairs ≡ true → PairsFit pairs
pairs_fit pairs h n pair at = pair_fits pair (all_at is_pair pairs n pair h at)
