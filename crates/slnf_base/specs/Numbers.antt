use Rattle.std.specs.Prelude.{ℕ, ◌==◌, if◌then◌else◌, Option, Some, None}
use Rattle.slnf_base.specs.declared.packets.Proto.{Proto}
use Rattle.slnf_base.specs.declared.packets.Proto.TheVariants.{Tcp, Udp}
use Rattle.slnf_base.specs.declared.packets.Reason.{Reason}
use Rattle.slnf_base.specs.declared.packets.Reason.TheVariants.{NotIpv4, Fragment, Short, Protocol, Neither, NoPort, NoFlow, DeniedRule, DeniedState, NoConn, NotPinned}

-- a transport protocol's number in the IPv4 header (RFC 791, RFC 790)
abbrev pub proto_number : Proto → ℕ
proto_number Tcp = 6
proto_number Udp = 17

-- the transport protocol with this number, where it is one
abbrev pub proto_with : ℕ → Option Proto
proto_with number =
    if number == proto_number Tcp then Some Tcp else (if number == proto_number Udp then Some Udp else None)

-- a reason's number in the texts
abbrev pub reason_number : Reason → ℕ
reason_number NotIpv4 = 1
reason_number Fragment = 2
reason_number Short = 3
reason_number Protocol = 4
reason_number Neither = 5
reason_number NoPort = 6
reason_number NoFlow = 7
reason_number DeniedRule = 8
reason_number DeniedState = 9
reason_number NoConn = 10
reason_number NotPinned = 11
