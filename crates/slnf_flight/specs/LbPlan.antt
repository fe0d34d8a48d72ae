-- The balancer of a plan: how its packets begin.
use Rattle.std.specs.Prelude.{ℕ, Option, Some, None, List, [], slice_get, filter_map}
use Rattle.slnf_base.specs.declared.addresses.Pair.{Pair}
use Rattle.slnf_base.specs.declared.packets.Packet.{Packet}
use Rattle.slnf_base.specs.declared.plans.Service.{Service}
use Rattle.slnf_access.specs.declared.functions.Start.{Start}
use Rattle.slnf_plan.specs.declared.plan.Epoch.{Epoch}
use Rattle.slnf_lb.specs.Flight.{Flying}
use Rattle.slnf_lb.specs.Machine.{lb_begins}
use Rattle.slnf_run.specs.Setting.{era_of}
use Rattle.slnf_flight.specs.Actors.{eras_of}

-- the backends at these places of the service's list
abbrev pub backends_at : Service → List ℕ → List Pair
backends_at service places = filter_map (slice_get service.backends) places

-- the active backends of an epoch; an epoch that isn't there has none
abbrev pub active_in : Service → Option Epoch → List Pair
active_in service None = []
active_in service (Some epoch) = backends_at service epoch.active

-- how a packet begins: with the choice of its incarnation, its number and its epoch
abbrev pub lb_starts : Service → List Epoch → ℕ → ℕ → Packet → Start Flying
lb_starts service epochs incarnation number packet =
    lb_begins service (active_in service (slice_get epochs
    (era_of (eras_of epochs) incarnation))) incarnation number packet
