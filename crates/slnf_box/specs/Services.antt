-- A service's packets: those that go to its front, and those that come from a backend.
use Rattle.std.specs.Prelude.{Bool, ◌&&◌}
use Rattle.std.specs.List.{list_any}
use Rattle.slnf_base.specs.declared.packets.Packet.{Packet}
use Rattle.slnf_base.specs.declared.plans.Service.{Service}
use Rattle.slnf_base.specs.Equal.{is_same_pair, is_same_proto}

-- the packet goes to the front
abbrev pub is_forward : Service → Packet → Bool
is_forward service packet = is_same_proto packet.proto service.proto && is_same_pair packet.dest service.front

-- the packet comes from a backend, where it doesn't go to the front
abbrev pub is_return : Service → Packet → Bool
is_return service packet =
    is_same_proto packet.proto service.proto && list_any (λ backend. is_same_pair packet.source backend) service.backends
