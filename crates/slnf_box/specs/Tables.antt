-- The ordinary NAT over two tables: the outside pairs of flows by their inside pairs, and the other way.
use Rattle.std.specs.Prelude.{Bool, ◌&&◌, if◌then◌else◌, Option, Some, None}
use Rattle.slnf_base.specs.declared.addresses.Pair.{Pair}
use Rattle.slnf_base.specs.declared.packets.Packet.{Packet}
use Rattle.slnf_base.specs.declared.packets.Reason.TheVariants.{Neither}
use Rattle.slnf_base.specs.declared.packets.Verdict.{Verdict}
use Rattle.slnf_base.specs.declared.packets.Verdict.TheVariants.{Dropped}
use Rattle.slnf_base.specs.declared.plans.Pool.{Pool}
use Rattle.slnf_box.specs.LbBox.{Pins, with_pin}
use Rattle.slnf_box.specs.NatBox.{is_free, out_verdict, out_is_new, in_verdict}
use Rattle.slnf_box.specs.Pools.{has_pair, is_outbound, is_inbound}

-- the choice, where it is a pair of the pool that no flow of the protocol has
abbrev pub fresh_choice : Pool → Pins → Packet → Option Pair → Option Pair
fresh_choice pool owners packet None = None
fresh_choice pool owners packet (Some port) =
    if has_pair pool port && is_free (owners packet.proto port) then Some port else None

-- the two tables after a packet on its way out
abbrev pub pairs_with : Pins → Packet → Option Pair → Option Pair → Pins
pairs_with pairs packet (Some known) fresh = pairs
pairs_with pairs packet None (Some fresh) = with_pin pairs packet.proto packet.source fresh
pairs_with pairs packet None None = pairs

abbrev pub owners_with : Pins → Packet → Option Pair → Option Pair → Pins
owners_with owners packet (Some known) fresh = owners
owners_with owners packet None (Some fresh) = with_pin owners packet.proto fresh packet.source
owners_with owners packet None None = owners

-- the verdict, and the two tables after it
abbrev pub table_verdict : Pool → Pins → Pins → Packet → Option Pair → Verdict
table_verdict pool pairs owners packet choice =
    if is_outbound pool packet
    then out_verdict (pairs packet.proto packet.source) (fresh_choice pool owners packet choice)
    else (if is_inbound pool packet then in_verdict (owners packet.proto packet.dest) else Dropped Neither)

abbrev pub table_pairs : Pool → Pins → Pins → Packet → Option Pair → Pins
table_pairs pool pairs owners packet choice =
    if is_outbound pool packet
    then pairs_with pairs packet (pairs packet.proto packet.source) (fresh_choice pool owners packet choice)
    else pairs

abbrev pub table_owners : Pool → Pins → Pins → Packet → Option Pair → Pins
table_owners pool pairs owners packet choice =
    if is_outbound pool packet
    then owners_with owners packet (pairs packet.proto packet.source) (fresh_choice pool owners packet choice)
    else owners

-- the packet makes a flow
abbrev pub table_is_new : Pool → Pins → Pins → Packet → Option Pair → Bool
table_is_new pool pairs owners packet choice =
    is_outbound pool packet
    && out_is_new (pairs packet.proto packet.source) (fresh_choice pool owners packet choice)
