-- How many packets lanes have, with one lane more.
use Rattle.std.proofs.Common.{◌≡◌, ◌+◌, ◌*◌, ◌≤◌, List, [], ◌∷◌, ◌++◌, length, ap, ◌∙◌, arith}
use Rattle.std.proofs.lemmas.List.{length_push}
use Rattle.slnf_flight.specs.declared.lanes.Lane.{Lane}
use Rattle.slnf_flight.specs.Lanes.{packet_count}

packets_push : (lanes : List Lane) (lane : Lane) → packet_count (lanes ++ lane ∷ [])
    ≡ packet_count lanes + length lane.packets
packets_push [] lane = omega arith
packets_push (l ∷ lanes) lane =
    let rest : packet_count (lanes ++ lane ∷ []) ≡ packet_count lanes + length lane.packets =
    packets_push lanes lane in
    omega arith

pub packets_few : (lanes more : List Lane) (lane : Lane) → more ≡ lanes ++ lane ∷ [] → length lane.packets ≤ 1024 →
    packet_count lanes ≤ 1024 * length lanes → packet_count more ≤ 1024 * length more
packets_few lanes more lane is few h =
    let count : length more ≡ length lanes + 1 = ap length is ∙ length_push lanes lane in
    let all : packet_count more ≡ packet_count lanes + length lane.packets =
    ap packet_count is ∙ packets_push lanes lane in
    omega arith
