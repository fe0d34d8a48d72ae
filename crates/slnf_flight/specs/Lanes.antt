-- The lanes of a run by their numbers, their packets, and how many they may have.
use Rattle.std.specs.Prelude.{ℕ, ◌+◌, ◌≤◌, Option, Some, None, List, [], ◌∷◌, length, map, slice_get}
use Rattle.std.specs.Option.{option_and_then}
use Rattle.slnf_flight.specs.declared.lanes.Taken.{Taken}
use Rattle.slnf_flight.specs.declared.lanes.Lane.{Lane}

-- a captured lane's packets
abbrev pub or_no_packets : Option Lane → List Taken
or_no_packets None = []
or_no_packets (Some lane) = lane.packets

-- the packets of a lane by its number; a lane without a capture has none
abbrev pub packets_on : List Lane → ℕ → List Taken
packets_on lanes lane = or_no_packets (slice_get lanes lane)

-- how many packets there are
abbrev pub packet_count : List Lane → ℕ
packet_count [] = 0
packet_count (lane ∷ lanes) = length lane.packets + packet_count lanes

-- no lane has more packets than a run may have
abbrev pub AreFew : List Lane → Type 0
AreFew lanes = (lane : ℕ) → length (packets_on lanes lane) ≤ 1048576

-- how many packets each lane has
abbrev pub lane_sizes : List Lane → List ℕ
lane_sizes lanes = map (λ lane. length lane.packets) lanes

-- the packet with this number of a lane
abbrev pub packet_at : List Lane → ℕ → Option ℕ → Option Taken
packet_at lanes number lane =
    option_and_then (λ l. option_and_then (λ there. slice_get there.packets number) (slice_get lanes l)) lane
