-- The laws of the balancer that crates above cite.
use Rattle.std.proofs.Common.{◌≡◌, ℕ, Some, refl}
use Rattle.slnf_base.specs.declared.addresses.Pair.{Pair}
use Rattle.slnf_base.specs.declared.packets.Packet.{Packet}
use Rattle.slnf_access.specs.declared.requests.Held.{Held}
use Rattle.slnf_access.specs.declared.requests.Entry.{Entry}
use Rattle.slnf_access.specs.Map.{cell_step, empty}
use Rattle.slnf_box.specs.LbBox.{no_pins}
use Rattle.slnf_lb.specs.declared.flights.LbState.{LbState}
use Rattle.slnf_lb.specs.declared.flights.LbState.TheVariants.{Forward, Put, Return}
use Rattle.slnf_lb.specs.Flight.{Flying}
use Rattle.slnf_lb.specs.Machine.{asks_in, lb_asks}
use Rattle.slnf_lb.specs.StoredPins.{IsSameMap}
use Rattle.slnf_lb.proofs.Same.{read_step, put_step}
pub use Rattle.slnf_lb.proofs.Steps.{lb_kept}

-- before any access the box has no pins, as the empty map has none
pub same-empty : IsSameMap no_pins empty
same-empty = record { agrees = λ proto client fits. refl; whole = λ proto client fits none. refl }

-- no access of a packet changes what a key has
held_in : (state : LbState) (packet : Packet) (choice : Pair) (k : ℕ) (held : Held) (e : Entry)
    → e.request ≡ asks_in state packet choice → cell_step k (Some held) e ≡ Some held
held_in Forward packet choice k held e asked = read_step k (Some held) e _ asked
held_in Put packet choice k held e asked = put_step k held e _ _ asked
held_in Return packet choice k held e asked = read_step k (Some held) e _ asked

pub held_stays : (flight : Flying) (k : ℕ) (held : Held) (e : Entry)
    → e.request ≡ lb_asks flight → cell_step k (Some held) e ≡ Some held
held_stays flight k held e asked = held_in flight.state flight.packet flight.choice k held e asked
