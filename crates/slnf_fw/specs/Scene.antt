-- The firewall's scene: a packet's place is its deciding entry, and the box sees the packet.
use Rattle.std.specs.Prelude.{◌≡◌, ℕ, true, []}
use Rattle.slnf_base.specs.declared.packets.Packet.{Packet}
use Rattle.slnf_base.specs.Ranges.{IsPair}
use Rattle.slnf_access.specs.Machines.{Stand, Flies}
use Rattle.slnf_run.specs.Scene.{Scene}
use Rattle.slnf_box.specs.Packets.{crosses}
use Rattle.slnf_box.specs.declared.policies.Policy.{Policy}
use Rattle.slnf_fw.specs.declared.flights.FwState.TheVariants.{Look}
use Rattle.slnf_fw.specs.Flight.{Flying}
use Rattle.slnf_fw.specs.Machine.{fw_machine}

-- the scene of items that begin so
abbrev pub fw_scene : Policy → (ℕ → ℕ → Stand Flying) → Scene Flying Packet
fw_scene policy begins = record {
  machine = λ incarnation. fw_machine policy;
  begins = begins;
  place = λ es number first verdict. number;
  arrival = λ first e. first.packet;
  removals = λ e. [];
}

-- A flight that the function makes at first: its packet crosses the firewall, and its pairs are in range.
pub record IsFirst (policy : Policy) (flight : Flying) : Type 0 where
  pub state : flight.state ≡ Look
  pub crosses : crosses policy flight.packet ≡ true
  pub source : IsPair flight.packet.source
  pub dest : IsPair flight.packet.dest

-- each item that begins with an access is a first flight of the function
abbrev pub BeginsFlights : Policy → (ℕ → ℕ → Stand Flying) → Type 0
BeginsFlights policy begins =
    (incarnation item : ℕ) (flight : Flying) → begins incarnation item ≡ Flies flight → IsFirst policy flight
