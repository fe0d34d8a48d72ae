-- What a plan's boxes see of its packets.
use Rattle.std.specs.Prelude.{◌≡◌, ℕ, IsTrue, Some, List, slice_get}
use Rattle.slnf_access.specs.declared.requests.Entry.{Entry}
use Rattle.slnf_access.specs.Machines.{Flies}
use Rattle.slnf_run.specs.Scene.{Scene}
use Rattle.slnf_run.specs.Setting.{Actor, Era, is_on, actors_of}
use Rattle.slnf_flight.specs.declared.lanes.Taken.TheVariants.{Seen}
use Rattle.slnf_flight.specs.declared.lanes.Lane.{Lane}
use Rattle.slnf_flight.specs.Lanes.{packet_at}
use Rattle.slnf_flight.specs.declared.flights.AnyFlight.{AnyFlight}
use Rattle.slnf_flight.specs.Flights.{Arrival}

-- The packet that a box sees of an item of an instance is that of the instance's lane with the item's number.
abbrev pub SeesLanes : Scene AnyFlight Arrival → List Era → List Lane → Type 0
SeesLanes s eras lanes =
    (incarnation item lane : ℕ) (actor : Actor) (first : AnyFlight) (e : Entry) →
    slice_get (actors_of eras) incarnation ≡ Some actor → IsTrue (is_on lane actor) →
    s.begins incarnation item ≡ Flies first →
    packet_at lanes item (Some lane) ≡ Some (Seen (s.arrival first e).packet)
