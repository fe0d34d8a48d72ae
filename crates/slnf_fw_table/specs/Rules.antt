use Rattle.std.specs.Prelude.{ℕ, ◌-◌, ◌/◌, ◌^◌, Bool, false, ◌&&◌, ◌||◌, ◌==◌, nat_le, List, find}
use Rattle.std.specs.Bool.{beq}
use Rattle.std.specs.Option.{option_map_or}
use Rattle.slnf_fw_table.specs.declared.rules.Rule.{Rule}
use Rattle.slnf_fw_table.specs.declared.rules.Opening.{Opening}

-- the first bits of both addresses agree
abbrev pub agrees : ℕ → ℕ → ℕ → Bool
agrees bits a b = a / 2 ^ (32 - bits) == b / 2 ^ (32 - bits)

-- the rule speaks of this opening: the directions are equal, the protocol is the rule's or the rule is for
-- both, both prefixes contain the addresses, and the port is in the rule's range
abbrev pub matches : Opening → Rule → Bool
matches opening rule =
    beq rule.outbound opening.outbound
    && (rule.proto == 0 || rule.proto == opening.proto)
    && agrees rule.source_bits rule.source opening.source
    && agrees rule.dest_bits rule.dest opening.dest
    && nat_le rule.low opening.dest_port
    && nat_le opening.dest_port rule.high

-- what the first rule that speaks of the opening says, and no where none does
abbrev pub is_permitted : List Rule → Opening → Bool
is_permitted rules opening = option_map_or (λ rule. rule.permit) (find (matches opening) rules) false
