-- What an ordinary balancer keeps.
use Rattle.slnf_box.specs.LbBox.{Pins}
use Rattle.slnf_box.specs.declared.balancer.LbBox.{LbBox}
use Rattle.slnf_box.specs.Pairs.{pair_at}

-- the backend of each client
abbrev pub pins_of : LbBox → Pins
pins_of box = pair_at box.pins
