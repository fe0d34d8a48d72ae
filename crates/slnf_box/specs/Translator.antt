-- What an ordinary NAT keeps.
use Rattle.std.specs.Prelude.{◌≡◌, List}
use Rattle.slnf_box.specs.LbBox.{Pins}
use Rattle.slnf_box.specs.NatBox.{Flow, pair_of, owner}
use Rattle.slnf_box.specs.declared.translator.NatBox.{NatBox}
use Rattle.slnf_box.specs.Pairs.{pair_at}

-- the outside pair of each flow, by its inside pair
abbrev pub pairs_of : NatBox → Pins
pairs_of box = pair_at box.pairs

-- the inside pair of each flow, by its outside pair
abbrev pub owners_of : NatBox → Pins
owners_of box = pair_at box.owners

-- The box keeps these flows: it finds what the list has, each way.
pub record HasFlows (box : NatBox) (flows : List Flow) : Type 0 where
  pub pairs : pairs_of box ≡ pair_of flows
  pub owners : owners_of box ≡ owner flows
