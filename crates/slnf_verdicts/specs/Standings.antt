-- Where packets stand, as the code keeps it, and what a list of entries has to be for it to be followed.
use Rattle.std.specs.Prelude.{◌≡◌, ℕ, Option, Some, None, List, slice_get}
use Rattle.slnf_base.specs.declared.packets.Packet.{Packet}
use Rattle.slnf_access.specs.declared.requests.Entry.{Entry}
use Rattle.slnf_access.specs.declared.functions.Start.{Start}
use Rattle.slnf_access.specs.Map.{CanReply}
use Rattle.slnf_access.specs.Machines.{Machine, Stand, Flies, Ends, stand_after, IsPath}
use Rattle.slnf_run.specs.Jobs.{of_item, verdict_at}
use Rattle.slnf_flight.specs.declared.lanes.Taken.{Taken}
use Rattle.slnf_flight.specs.Begins.{begins_with}
use Rattle.slnf_verdicts.specs.declared.standings.Standing.{Standing}

-- the flight of a packet that is under way
abbrev pub flight_at : {F : Type 0} → Stand F → Option F
flight_at (Flies flight) = Some flight
flight_at (Ends verdict) = None

-- where a packet stands, as the code keeps it
abbrev pub standing_at : {F : Type 0} → Stand F → Standing F
standing_at stand = record { flight = flight_at stand; verdict = verdict_at stand }

-- how the packet with this number of these begins
abbrev pub begun_of : {F : Type 0} → (ℕ → Packet → Start F) → List Taken → ℕ → Stand F
begun_of begins packets number = begins_with (begins number) (slice_get packets number)

-- where a packet stands that began so, after its entries of these
abbrev pub stood : {F : Type 0} → Machine F → (ℕ → Stand F) → List Entry → ℕ → Stand F
stood machine begun es number = stand_after machine (begun number) (of_item number es)

-- Each item's entries are a path of the machine, and each reply is one that its request can have.
pub record IsFollowed {F : Type 0} (machine : Machine F) (begun : ℕ → Stand F) (es : List Entry) : Type 0 where
  pub paths : (item : ℕ) → IsPath machine (begun item) (of_item item es)
  pub replies : (k : ℕ) (e : Entry) → slice_get es k ≡ Some e → CanReply e.request e.reply
