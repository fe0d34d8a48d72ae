-- A packet is refused for want of a direction alone.
use Rattle.std.specs.Prelude.{◌≡◌, ℕ, Bool, true, false, if◌then◌else◌}
use Rattle.slnf_base.specs.declared.packets.Packet.{Packet}
use Rattle.slnf_base.specs.declared.packets.Reason.{Reason}
use Rattle.slnf_base.specs.declared.packets.Reason.TheVariants.{Neither}
use Rattle.slnf_base.specs.declared.plans.Pool.{Pool}
use Rattle.slnf_access.specs.declared.functions.Start.TheVariants.{Go as StartGo, Over as StartOver}
use Rattle.slnf_box.specs.Pools.{is_outbound, is_inbound}
use Rattle.slnf_nat.specs.Flights.{NatFlight}
use Rattle.slnf_nat.specs.Starts.{nat_starts}

-- of two flights and a refusal, the refusal alone refuses
refused : (first second : Bool) (a b : NatFlight) (reason : Reason) →
    (if first then StartGo a else (if second then StartGo b else StartOver Neither)) ≡ StartOver reason →
    reason ≡ Neither
refused true second a b reason h = cc
refused false true a b reason h = cc
refused false false a b reason h = cc

pub nat_refuses : (pool : Pool) (incarnation number : ℕ) (packet : Packet) (reason : Reason) →
    nat_starts pool incarnation number packet ≡ StartOver reason → reason ≡ Neither
nat_refuses pool incarnation number packet reason h =
    refused (is_outbound pool packet) (is_inbound pool packet) _ _ reason h
