-- A packet is refused for want of a direction alone.
use Rattle.std.specs.Prelude.{◌≡◌, Bool, true, false, if◌then◌else◌}
use Rattle.slnf_base.specs.declared.packets.Packet.{Packet}
use Rattle.slnf_base.specs.declared.packets.Reason.{Reason}
use Rattle.slnf_base.specs.declared.packets.Reason.TheVariants.{Neither}
use Rattle.slnf_access.specs.declared.functions.Start.TheVariants.{Go as StartGo, Over as StartOver}
use Rattle.slnf_box.specs.Packets.{crosses}
use Rattle.slnf_box.specs.declared.policies.Policy.{Policy}
use Rattle.slnf_fw.specs.Flight.{Flying}
use Rattle.slnf_fw.specs.Machine.{fw_begins}

-- of a flight and a refusal, the refusal alone refuses
refused : (flies : Bool) (flight : Flying) (reason : Reason) →
    (if flies then StartGo flight else StartOver Neither) ≡ StartOver reason → reason ≡ Neither
refused true flight reason h = cc
refused false flight reason h = cc

pub fw_refuses : (policy : Policy) (packet : Packet) (reason : Reason) →
    fw_begins policy packet ≡ StartOver reason → reason ≡ Neither
fw_refuses policy packet reason h = refused (crosses policy packet) _ reason h
