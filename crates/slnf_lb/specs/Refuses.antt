-- A packet is refused for want of a direction alone.
use Rattle.std.specs.Prelude.{◌≡◌, ℕ, Bool, true, false, if◌then◌else◌, List}
use Rattle.slnf_base.specs.declared.addresses.Pair.{Pair}
use Rattle.slnf_base.specs.declared.packets.Packet.{Packet}
use Rattle.slnf_base.specs.declared.packets.Reason.{Reason}
use Rattle.slnf_base.specs.declared.packets.Reason.TheVariants.{Neither}
use Rattle.slnf_base.specs.declared.plans.Service.{Service}
use Rattle.slnf_access.specs.declared.functions.Start.TheVariants.{Go as StartGo, Over as StartOver}
use Rattle.slnf_box.specs.Services.{is_forward, is_return}
use Rattle.slnf_lb.specs.Flight.{Flying}
use Rattle.slnf_lb.specs.Machine.{lb_begins}

-- of two flights and a refusal, the refusal alone refuses
refused : (first second : Bool) (a b : Flying) (reason : Reason)
    → (if first then StartGo a else (if second then StartGo b else StartOver Neither)) ≡ StartOver reason
    → reason ≡ Neither
refused true second a b reason h = cc
refused false true a b reason h = cc
refused false false a b reason h = cc

pub lb_refuses : (service : Service) (active : List Pair) (incarnation number : ℕ) (packet : Packet) (reason : Reason)
    → lb_begins service active incarnation number packet ≡ StartOver reason → reason ≡ Neither
lb_refuses service active incarnation number packet reason h =
    refused (is_forward service packet) (is_return service packet) _ _ reason h
