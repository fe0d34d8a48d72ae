-- The box keeps up with the machine, one access at a time.
use Rattle.std.specs.Prelude.{◌≡◌, true, false, Some, None}
use Rattle.slnf_base.specs.declared.packets.Packet.{Packet}
use Rattle.slnf_base.specs.declared.addresses.Pair.{Pair}
use Rattle.slnf_base.specs.declared.plans.Service.{Service}
use Rattle.slnf_access.specs.Map.{Cells}
use Rattle.slnf_access.specs.Machines.{Stand, Flies, Ends}
use Rattle.slnf_base.specs.Ranges.{IsPair}
use Rattle.slnf_box.specs.LbBox.{Pins, lb_verdict, lb_next}
use Rattle.slnf_box.specs.Services.{is_forward, is_return}
use Rattle.slnf_lb.specs.declared.flights.LbState.{LbState}
use Rattle.slnf_lb.specs.declared.flights.LbState.TheVariants.{Forward, Put, Return}
use Rattle.slnf_lb.specs.Flight.{Flying}
use Rattle.slnf_lb.specs.StoredPins.{IsSameMap}

-- the packet has the direction of the state
abbrev pub HasDirection : Service → Packet → LbState → Type 0
HasDirection service packet Forward = is_forward service packet ≡ true
HasDirection service packet Put = is_forward service packet ≡ true
HasDirection service packet Return = (is_forward service packet ≡ false) × (is_return service packet ≡ true)

-- A flight that the function makes: its packet has its direction, and its pairs are in range.
pub record IsFlight (service : Service) (flight : Flying) : Type 0 where
  pub direction : HasDirection service flight.packet flight.state
  pub source : IsPair flight.packet.source
  pub dest : IsPair flight.packet.dest
  pub choice : IsPair flight.choice

-- What the box does at an access after which its packet stands so: at the verdict it gives the packet this verdict, and
-- keeps then what the map has. Before it, the map keeps what the box has.
abbrev pub IsKeptUp : Service → Pins → Packet → Pair → Cells → Stand Flying → Type 0
IsKeptUp service kept packet choice cells (Flies flight) = IsSameMap kept cells
IsKeptUp service kept packet choice cells (Ends None) = IsSameMap kept cells
IsKeptUp service kept packet choice cells (Ends (Some verdict)) =
    (lb_verdict service kept packet choice ≡ verdict) × IsSameMap (lb_next service kept packet choice) cells
