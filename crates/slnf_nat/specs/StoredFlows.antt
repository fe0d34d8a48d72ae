-- The flows in the store's map, which the box has.
use Rattle.std.specs.Prelude.{◌≡◌, Option, Some, None, List}
use Rattle.slnf_base.specs.declared.addresses.Pair.{Pair}
use Rattle.slnf_base.specs.declared.packets.Proto.{Proto}
use Rattle.slnf_base.specs.Ranges.{IsPair}
use Rattle.slnf_access.specs.declared.requests.Held.{Held}
use Rattle.slnf_access.specs.Map.{Cells}
use Rattle.slnf_keys.specs.declared.values.FlowTo.{FlowTo}
use Rattle.slnf_keys.specs.Values.{flow_to_of}
use Rattle.slnf_box.specs.NatBox.{Flow, pair_of}
use Rattle.slnf_nat.specs.Machine.{flow_key}

-- the outside pair in what the store has at a flow's key
abbrev pub outside_of : Option FlowTo → Option Pair
outside_of None = None
outside_of (Some to) = Some to.outside

abbrev pub flow_in : Option Held → Option Pair
flow_in None = None
flow_in (Some held) = outside_of (flow_to_of held.value.0)

-- the outside pair of a flow in the store's map
abbrev pub flow_at : Cells → Proto → Pair → Option Pair
flow_at cells proto inside = flow_in (cells (flow_key proto inside))

-- The box has the live flows of the store's map, and what the map has at a flow's key is a flow's record.
pub record IsSameFlows (flows : List Flow) (cells : Cells) : Type 0 where
  pub agrees : (proto : Proto) (inside : Pair) → IsPair inside
      → pair_of flows proto inside ≡ flow_at cells proto inside
  pub whole : (proto : Proto) (inside : Pair) → IsPair inside → flow_at cells proto inside ≡ None
      → cells (flow_key proto inside) ≡ None
