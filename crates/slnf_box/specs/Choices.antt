-- What the firewall makes of a packet, by what is kept of its connection. Machine and box both go by it, so that they
-- differ in accesses alone.
use Rattle.std.specs.Prelude.{Bool, true, false, Option, Some, None}
use Rattle.slnf_base.specs.declared.packets.Packet.{Packet}
use Rattle.slnf_base.specs.declared.packets.Reason.TheVariants.{DeniedRule, DeniedState, NoConn}
use Rattle.slnf_fw_table.specs.declared.connections.State.TheVariants.{SynSent, Live}
use Rattle.slnf_fw_table.specs.declared.connections.Kind.{Kind}
use Rattle.slnf_fw_table.specs.declared.connections.Kind.TheVariants.{Syn, SynAck, Fin, Rst, Ack, Bare, Datagram}
use Rattle.slnf_fw_table.specs.declared.connections.Move.{Move}
use Rattle.slnf_fw_table.specs.declared.connections.Move.TheVariants.{Stay, To, Reopen, Deny}
use Rattle.slnf_fw_table.specs.Transitions.{move_of}
use Rattle.slnf_box.specs.Packets.{from_outside, kind_of_packet, may_open, side_of}
use Rattle.slnf_box.specs.declared.choices.Choice.{Choice}
use Rattle.slnf_box.specs.declared.choices.Choice.TheVariants.{Refuses, Passes, Writes}
use Rattle.slnf_box.specs.declared.choices.Tracked.{Tracked}
use Rattle.slnf_box.specs.declared.policies.Policy.{Policy}

-- a connection that is opened where the rules permit it
abbrev pub opened : Bool → Tracked → Choice
opened true tracked = Writes tracked
opened false tracked = Refuses DeniedRule

-- a packet of no connection, by its kind, whether it comes from the outside, and whether the rules permit it
abbrev pub first_choice : Kind → Bool → Bool → Choice
first_choice Syn outside permitted = opened permitted (record { by_outside = outside; state = SynSent })
first_choice Datagram outside permitted = opened permitted (record { by_outside = outside; state = Live })
first_choice SynAck outside permitted = Refuses NoConn
first_choice Fin outside permitted = Refuses NoConn
first_choice Rst outside permitted = Refuses NoConn
first_choice Ack outside permitted = Refuses NoConn
first_choice Bare outside permitted = Refuses NoConn

-- a packet of a connection, by its move, whether it comes from the outside, and whether the rules permit it
abbrev pub later_choice : Tracked → Bool → Bool → Move → Choice
later_choice tracked outside permitted Stay = Passes
later_choice tracked outside permitted (To state) = Writes (record { by_outside = tracked.by_outside; state = state })
later_choice tracked outside permitted Reopen = opened permitted (record { by_outside = outside; state = SynSent })
later_choice tracked outside permitted Deny = Refuses DeniedState

-- the packet's move, of a connection that is kept so
abbrev pub move_on : Policy → Packet → Tracked → Move
move_on policy packet tracked =
    move_of tracked.state (side_of tracked.by_outside (from_outside policy packet)) (kind_of_packet packet)

-- what the firewall makes of the packet
abbrev pub choice_of : Policy → Packet → Option Tracked → Choice
choice_of policy packet None =
    first_choice (kind_of_packet packet) (from_outside policy packet) (may_open policy packet)
choice_of policy packet (Some tracked) =
    later_choice tracked (from_outside policy packet) (may_open policy packet) (move_on policy packet tracked)
