-- The firewall of a plan: how its packets begin.
use Rattle.std.specs.Prelude.{ℕ, List}
use Rattle.slnf_base.specs.declared.addresses.Prefix.{Prefix}
use Rattle.slnf_base.specs.declared.packets.Packet.{Packet}
use Rattle.slnf_access.specs.declared.functions.Start.{Start}
use Rattle.slnf_fw_table.specs.declared.rules.Rule.{Rule}
use Rattle.slnf_box.specs.declared.policies.Policy.{Policy}
use Rattle.slnf_fw.specs.Flight.{Flying}
use Rattle.slnf_fw.specs.Machine.{fw_begins}

-- the firewall with this inside and these rules
abbrev pub policy_with : Prefix → List Rule → Policy
policy_with inside rules = record { inside = inside; rules = rules }

-- how a packet begins
abbrev pub fw_starts : Policy → ℕ → ℕ → Packet → Start Flying
fw_starts policy incarnation number packet = fw_begins policy packet
