-- The ordinary firewall: one table of connections.
use Rattle.std.specs.Prelude.{Bool, false, ◌&&◌, if◌then◌else◌, Option, None, is_none}
use Rattle.slnf_base.specs.declared.packets.Packet.{Packet}
use Rattle.slnf_base.specs.declared.packets.Change.TheVariants.{Keep}
use Rattle.slnf_base.specs.declared.packets.Reason.TheVariants.{Neither}
use Rattle.slnf_base.specs.declared.packets.Verdict.{Verdict}
use Rattle.slnf_base.specs.declared.packets.Verdict.TheVariants.{Emit, Dropped}
use Rattle.slnf_base.specs.Equal.{is_same_pair, is_same_proto}
use Rattle.slnf_keys.specs.declared.keys.ConnKey.{ConnKey}
use Rattle.slnf_run.specs.Boxes.{Box}
use Rattle.slnf_run.specs.Tables.{with_value}
use Rattle.slnf_box.specs.Choices.{choice_of}
use Rattle.slnf_box.specs.Packets.{crosses, conn_of_packet}
use Rattle.slnf_box.specs.declared.choices.Choice.{Choice}
use Rattle.slnf_box.specs.declared.choices.Choice.TheVariants.{Refuses, Passes, Writes}
use Rattle.slnf_box.specs.declared.choices.Tracked.{Tracked}
use Rattle.slnf_box.specs.declared.policies.Policy.{Policy}

-- what is kept of each connection
abbrev pub Conns : Type 0
Conns = ConnKey → Option Tracked

-- the connections are one
abbrev pub is_same_conn : ConnKey → ConnKey → Bool
is_same_conn a b =
    is_same_proto a.proto b.proto && (is_same_pair a.inside b.inside && is_same_pair a.outside b.outside)

-- the verdict of a choice
abbrev pub choice_verdict : Choice → Verdict
choice_verdict (Refuses reason) = Dropped reason
choice_verdict Passes = Emit Keep
choice_verdict (Writes tracked) = Emit Keep

-- the connections after a choice
abbrev pub choice_conns : Conns → ConnKey → Choice → Conns
choice_conns conns key (Refuses reason) = conns
choice_conns conns key Passes = conns
choice_conns conns key (Writes tracked) = with_value is_same_conn conns key tracked

-- the choice is written of a connection of which nothing is kept
abbrev pub keeps_new : Conns → ConnKey → Choice → Bool
keeps_new conns key (Refuses reason) = false
keeps_new conns key Passes = false
keeps_new conns key (Writes tracked) = is_none (conns key)

-- what the box makes of a packet
abbrev pub fw_choice : Policy → Conns → Packet → Choice
fw_choice policy conns packet =
    if crosses policy packet then choice_of policy packet (conns (conn_of_packet policy packet)) else Refuses Neither

-- the packet opens a connection of which nothing is kept: the box makes an entry
abbrev pub is_new_conn : Policy → Conns → Packet → Bool
is_new_conn policy conns packet = keeps_new conns (conn_of_packet policy packet) (fw_choice policy conns packet)

-- The box. It sees packets, and makes one step of each.
abbrev pub fw_box : Policy → Box Packet Conns
fw_box policy = record {
  empty = λ key. None;
  verdict = λ conns packet. choice_verdict (fw_choice policy conns packet);
  next = λ conns packet. choice_conns conns (conn_of_packet policy packet) (fw_choice policy conns packet);
}
