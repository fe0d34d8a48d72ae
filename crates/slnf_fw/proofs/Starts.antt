-- What the function begins with an access is a first flight.
use Rattle.std.proofs.Common.{◌≡◌, Bool, true, false, cond, refl, subst}
use Rattle.slnf_base.specs.declared.packets.Packet.{Packet}
use Rattle.slnf_base.specs.declared.packets.Reason.TheVariants.{Neither}
use Rattle.slnf_base.specs.Ranges.{IsPair}
use Rattle.slnf_access.specs.declared.functions.Start.{Start}
use Rattle.slnf_access.specs.declared.functions.Start.TheVariants.{Go as StartGo, Over as StartOver}
use Rattle.slnf_box.specs.Packets.{crosses}
use Rattle.slnf_box.specs.declared.policies.Policy.{Policy}
use Rattle.slnf_fw.specs.declared.flights.FwState.TheVariants.{Look}
use Rattle.slnf_fw.specs.Flight.{Flying}
use Rattle.slnf_fw.specs.Machine.{fw_begins}
use Rattle.slnf_fw.specs.Scene.{IsFirst}

pub fw_first : (policy : Policy) (packet : Packet) (flight : Flying) → IsPair packet.source → IsPair packet.dest →
    fw_begins policy packet ≡ StartGo flight → IsFirst policy flight
fw_first policy packet flight source dest h = go (crosses policy packet) refl h
  where
    same_start : (a b : Flying) → ◌≡◌ {A = Start Flying} (StartGo a) (StartGo b) → a ≡ b
    same_start a b h = cc

    go : (b : Bool) → crosses policy packet ≡ b →
        cond {A = Start Flying} b (StartGo (record { state = Look; packet = packet })) (StartOver Neither)
        ≡ StartGo flight → IsFirst policy flight
    go true w h =
        subst (IsFirst policy) (same_start (record { state = Look; packet = packet }) flight h)
        (record { state = refl; crosses = w; source = source; dest = dest })
    go false w h = absurd (cc)
