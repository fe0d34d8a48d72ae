use Rattle.std.proofs.Common.{rules}
use Rattle.slnf_keys.specs.Values.{pin_number, pin_of, IsPin}
use Rattle.slnf_keys.proofs.Laws.{coded_same, pin-coded}
use Rattle.slnf_keys.proofs.apart.pins_apart.Goals as goal

pub returns : goal.returns
returns c =
    let left : IsPin c.args.left = record { addr_fits = search rules; port_fits = search rules } in
    let right : IsPin c.args.right = record { addr_fits = search rules; port_fits = search rules } in
    coded_same pin_number pin_of IsPin pin-coded c.args.left c.args.right left right
