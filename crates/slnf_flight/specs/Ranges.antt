-- Ranges of the packets of lanes, as tests.
use Rattle.std.specs.Prelude.{Bool, true, ◌&&◌}
use Rattle.slnf_flight.specs.declared.lanes.Taken.{Taken}
use Rattle.slnf_flight.specs.declared.lanes.Taken.TheVariants.{Seen, Bad}
use Rattle.slnf_base.specs.Ranges.{is_pair}

-- the pairs of a packet that is seen have addresses of 32 bits and ports of 16
abbrev pub is_taken : Taken → Bool
is_taken (Seen packet) = is_pair packet.source && is_pair packet.dest
is_taken (Bad reason) = true
