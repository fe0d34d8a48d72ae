-- How the items of a plan's actors begin.
use Rattle.std.specs.Prelude.{ℕ, Option, Some, None, List, slice_get}
use Rattle.slnf_base.specs.declared.packets.Packet.{Packet}
use Rattle.slnf_base.specs.declared.packets.Verdict.TheVariants.{Dropped}
use Rattle.slnf_access.specs.declared.functions.Start.{Start}
use Rattle.slnf_access.specs.Machines.{Stand, Ends, stand_of_start}
use Rattle.slnf_run.specs.Setting.{Actor, Era, actors_of}
use Rattle.slnf_flight.specs.declared.lanes.Lane.{Lane}
use Rattle.slnf_flight.specs.declared.lanes.Taken.{Taken}
use Rattle.slnf_flight.specs.declared.lanes.Taken.TheVariants.{Seen, Bad}
use Rattle.slnf_flight.specs.Lanes.{packet_at}

-- how a packet begins: dropped with its reason, or as the function says. A number that no packet has begins nothing.
abbrev pub begins_with : {F : Type 0} → (Packet → Start F) → Option Taken → Stand F
begins_with start None = Ends None
begins_with start (Some (Bad reason)) = Ends (Some (Dropped reason))
begins_with start (Some (Seen packet)) = stand_of_start (start packet)

-- how an item of an actor with this lane begins: a sweep, which has no lane, begins its own items
abbrev pub lane_begins : {F : Type 0} → List Lane → (ℕ → Packet → Start F) → (ℕ → Stand F) → ℕ → Option ℕ → Stand F
lane_begins lanes starts sweeps number None = sweeps number
lane_begins lanes starts sweeps number (Some lane) = begins_with (starts number) (packet_at lanes number (Some lane))

-- how an item of an actor begins. An incarnation that isn't there begins nothing.
abbrev pub actor_begins : {F : Type 0} → List Lane → (ℕ → Packet → Start F) → (ℕ → Stand F) → ℕ → Option Actor
    → Stand F
actor_begins lanes starts sweeps number None = Ends None
actor_begins lanes starts sweeps number (Some actor) = lane_begins lanes starts sweeps number actor.lane

-- How each incarnation's items begin, where packets start so, and a sweep's items begin so, by incarnation and
-- number.
abbrev pub begins_of : {F : Type 0} → List Era → List Lane → (ℕ → ℕ → Packet → Start F) → (ℕ → ℕ → Stand F) → ℕ → ℕ
    → Stand F
begins_of eras lanes starts sweeps incarnation number =
    actor_begins lanes (starts incarnation) (sweeps incarnation) number (slice_get (actors_of eras) incarnation)

-- a function without a sweep
abbrev pub no_sweeps : {F : Type 0} → ℕ → ℕ → Stand F
no_sweeps incarnation number = Ends None
