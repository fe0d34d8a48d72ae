-- The ordinary balancer: one map from clients to backends.
use Rattle.std.specs.Prelude.{Bool, ◌&&◌, if◌then◌else◌, Option, Some, None, is_none}
use Rattle.slnf_base.specs.declared.addresses.Pair.{Pair}
use Rattle.slnf_base.specs.declared.packets.Proto.{Proto}
use Rattle.slnf_base.specs.declared.packets.Packet.{Packet}
use Rattle.slnf_base.specs.declared.packets.Change.TheVariants.{Source, Dest}
use Rattle.slnf_base.specs.declared.packets.Reason.TheVariants.{Neither, NotPinned}
use Rattle.slnf_base.specs.declared.packets.Verdict.{Verdict}
use Rattle.slnf_base.specs.declared.packets.Verdict.TheVariants.{Emit, Dropped}
use Rattle.slnf_base.specs.declared.plans.Service.{Service}
use Rattle.slnf_base.specs.Equal.{is_same_pair, is_same_proto}
use Rattle.slnf_run.specs.Boxes.{Box}
use Rattle.slnf_box.specs.Services.{is_forward, is_return}

-- the backend of each client, by protocol
abbrev pub Pins : Type 0
Pins = Proto → Pair → Option Pair

-- no client has a backend
abbrev pub no_pins : Pins
no_pins = λ proto client. None

-- the client has the backend, and every other what it had
abbrev pub with_pin : Pins → Proto → Pair → Pair → Pins
with_pin pins proto client backend =
    λ other_proto other. if is_same_proto other_proto proto && is_same_pair other client
    then Some backend else pins other_proto other

-- a known client's backend, else the choice
abbrev pub backend_or : Option Pair → Pair → Pair
backend_or None choice = choice
backend_or (Some backend) choice = backend

-- the packet's source is the backend of its client
abbrev pub return_verdict : Service → Packet → Option Pair → Verdict
return_verdict service packet None = Dropped NotPinned
return_verdict service packet (Some backend) =
    if is_same_pair backend packet.source then Emit (Source service.front) else Dropped NotPinned

-- What the box does with a packet. Forward: a known client goes to its backend, and an unknown one to the choice. Return:
-- the front takes the place of the source, where that is the client's backend.
abbrev pub lb_verdict : Service → Pins → Packet → Pair → Verdict
lb_verdict service pins packet choice =
    if is_forward service packet then Emit (Dest (backend_or (pins packet.proto packet.source) choice))
    else (if is_return service packet then return_verdict service packet (pins packet.proto packet.dest)
    else Dropped Neither)

-- What the box keeps after a packet: an unknown client of a packet to the front gets the choice.
abbrev pub lb_next : Service → Pins → Packet → Pair → Pins
lb_next service pins packet choice =
    if is_forward service packet
    then with_pin pins packet.proto packet.source (backend_or (pins packet.proto packet.source) choice)
    else pins

-- the packet goes to the front, and its client has no backend: the box makes an entry
abbrev pub is_new_client : Service → Pins → Packet → Bool
is_new_client service pins packet = is_forward service packet && is_none (pins packet.proto packet.source)

-- What the box sees: a packet, and the backend that is chosen for it.
pub record LbArrival : Type 0 where
  pub packet : Packet
  pub choice : Pair

-- the box
abbrev pub lb_box : Service → Box LbArrival Pins
lb_box service = record {
  empty = no_pins;
  verdict = λ pins arrival. lb_verdict service pins arrival.packet arrival.choice;
  next = λ pins arrival. lb_next service pins arrival.packet arrival.choice;
}
