-- No lane has more packets than all have.
use Rattle.std.proofs.Common.{◌≡◌, ℕ, zero, suc, ◌≤◌, List, [], ◌∷◌, length, refl, arith}
use Rattle.slnf_flight.specs.declared.lanes.Lane.{Lane}
use Rattle.slnf_flight.specs.Lanes.{packets_on, packet_count, AreFew}

packets_most : (lanes : List Lane) (lane : ℕ) → length (packets_on lanes lane) ≤ packet_count lanes
packets_most [] lane = omega arith
packets_most (there ∷ lanes) zero = omega arith
packets_most (there ∷ lanes) (suc lane) =
    let rest : length (packets_on lanes lane) ≤ packet_count lanes = packets_most lanes lane in
    let same : length (packets_on (there ∷ lanes) (suc lane)) ≡ length (packets_on lanes lane) = refl in
    omega arith

pub few_each : (lanes : List Lane) → packet_count lanes ≤ 1048576 → AreFew lanes
few_each lanes few lane =
    let most : length (packets_on lanes lane) ≤ packet_count lanes = packets_most lanes lane in omega arith
