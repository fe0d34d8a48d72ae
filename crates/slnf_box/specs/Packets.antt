-- What the firewall sees of a packet, in its machine and in the box alike: its direction, its connection's key, its
-- kind, its side of the connection, and whether the rules permit it.
use Rattle.std.specs.Prelude.{ℕ, Bool, true, false, not, ◌&&◌, ◌||◌}
use Rattle.slnf_base.specs.declared.packets.Proto.{Proto}
use Rattle.slnf_base.specs.declared.packets.Proto.TheVariants.{Tcp, Udp}
use Rattle.slnf_base.specs.declared.packets.Packet.{Packet}
use Rattle.slnf_base.specs.Numbers.{proto_number}
use Rattle.slnf_base.specs.Prefix.{is_inside}
use Rattle.slnf_fw_table.specs.declared.connections.Kind.{Kind}
use Rattle.slnf_fw_table.specs.declared.connections.Kind.TheVariants.{Datagram}
use Rattle.slnf_fw_table.specs.declared.connections.Side.{Side}
use Rattle.slnf_fw_table.specs.declared.connections.Side.TheVariants.{Opener, Other}
use Rattle.slnf_fw_table.specs.declared.rules.Opening.{Opening}
use Rattle.slnf_fw_table.specs.Kinds.{kind_of_flags}
use Rattle.slnf_fw_table.specs.Rules.{is_permitted}
use Rattle.slnf_keys.specs.declared.keys.ConnKey.{ConnKey}
use Rattle.slnf_box.specs.declared.policies.Policy.{Policy}

-- the packet goes out
abbrev pub is_out : Policy → Packet → Bool
is_out policy packet = is_inside policy.inside packet.source.addr && not (is_inside policy.inside packet.dest.addr)

-- the packet comes in
abbrev pub is_in : Policy → Packet → Bool
is_in policy packet = is_inside policy.inside packet.dest.addr && not (is_inside policy.inside packet.source.addr)

-- the packet crosses the firewall
abbrev pub crosses : Policy → Packet → Bool
crosses policy packet = is_out policy packet || is_in policy packet

-- the packet's side of the firewall is the outside
abbrev pub from_outside : Policy → Packet → Bool
from_outside policy packet = not (is_inside policy.inside packet.source.addr)

-- the connection of a packet that comes from the inside, or from the outside
abbrev pub conn_by_side : Bool → Packet → ConnKey
conn_by_side false packet = record { proto = packet.proto; inside = packet.source; outside = packet.dest }
conn_by_side true packet = record { proto = packet.proto; inside = packet.dest; outside = packet.source }

-- the packet's connection
abbrev pub conn_of_packet : Policy → Packet → ConnKey
conn_of_packet policy packet = conn_by_side (from_outside policy packet) packet

-- the kind of a packet with this protocol and these flags
abbrev pub kind_by_proto : Proto → ℕ → Kind
kind_by_proto Tcp flags = kind_of_flags flags
kind_by_proto Udp flags = Datagram

-- the packet's kind
abbrev pub kind_of_packet : Packet → Kind
kind_of_packet packet = kind_by_proto packet.proto packet.flags

-- what the rules see of the packet
abbrev pub opening_of : Policy → Packet → Opening
opening_of policy packet = record {
  outbound = not (from_outside policy packet);
  proto = proto_number packet.proto;
  source = packet.source.addr;
  dest = packet.dest.addr;
  dest_port = packet.dest.port;
}

-- the rules permit that the packet opens a connection
abbrev pub may_open : Policy → Packet → Bool
may_open policy packet = is_permitted policy.rules (opening_of policy packet)

-- the packet's side of the connection, by whether the connection was opened and the packet comes from the outside
abbrev pub side_of : (by_outside from_outside : Bool) → Side
side_of true true = Opener
side_of false false = Opener
side_of true false = Other
side_of false true = Other
