-- The balancer's scene: a packet's place is its deciding entry, and the box sees the packet with its choice.
use Rattle.std.specs.Prelude.{◌≡◌, ℕ, []}
use Rattle.slnf_base.specs.declared.plans.Service.{Service}
use Rattle.slnf_access.specs.Machines.{Stand, Flies}
use Rattle.slnf_run.specs.Scene.{Scene}
use Rattle.slnf_box.specs.LbBox.{LbArrival}
use Rattle.slnf_lb.specs.Flight.{Flying}
use Rattle.slnf_lb.specs.Machine.{lb_machine}
use Rattle.slnf_lb.specs.Kept.{IsFlight}

-- the scene where items begin so, by incarnation and number
abbrev pub lb_scene : Service → (ℕ → ℕ → Stand Flying) → Scene Flying LbArrival
lb_scene service begins = record {
  machine = λ incarnation. lb_machine service;
  begins = begins;
  place = λ es number first verdict. number;
  arrival = λ first e. record { packet = first.packet; choice = first.choice };
  removals = λ e. [];
}

-- each item that begins with an access begins as one of the service's flights
abbrev pub BeginAsFlights : Service → (ℕ → ℕ → Stand Flying) → Type 0
BeginAsFlights service begins =
    (incarnation item : ℕ) (flight : Flying) → begins incarnation item ≡ Flies flight → IsFlight service flight
