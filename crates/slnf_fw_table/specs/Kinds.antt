use Rattle.std.specs.Prelude.{ℕ, Bool, not, ◌&&◌, ◌==◌, bit_and, if◌then◌else◌}
use Rattle.slnf_fw_table.specs.declared.connections.Kind.{Kind}
use Rattle.slnf_fw_table.specs.declared.connections.Kind.TheVariants.{Syn, SynAck, Fin, Rst, Ack, Bare}

-- byte 13 of a TCP header has this control bit (RFC 793, 3.1): FIN 1, SYN 2, RST 4, ACK 16
abbrev pub has_flag : ℕ → ℕ → Bool
has_flag flag flags = not (bit_and flags flag == 0)

-- what a TCP segment says of its connection: the first of these that holds
abbrev pub kind_of_flags : ℕ → Kind
kind_of_flags flags =
    if has_flag 4 flags then Rst
    else if has_flag 2 flags && not (has_flag 16 flags) then Syn
    else if has_flag 2 flags then SynAck
    else if has_flag 1 flags then Fin
    else if has_flag 16 flags then Ack
    else Bare
